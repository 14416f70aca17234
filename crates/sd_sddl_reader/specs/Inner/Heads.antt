-- The heads of letters in a table.
use Rattle.std.specs.Prelude.{ℕ, suc, Bool, true, ◌&&◌, ◌==◌, List, [], ◌∷◌, Option, Some, None}
use Rattle.sd_sddl_builder.specs.declared.slot.Head.{Head}
use Rattle.sd_sddl_builder.specs.declared.slot.Head.TheVariants as head
use Rattle.sd_parts.specs.declared.part.SidPart.TheVariants as sid_part
use Rattle.sd_parts.specs.declared.part.Which.TheVariants as which
use Rattle.sd_sddl_builder.specs.Line.{head_of}

-- a number for each head, and one for none
abbrev pub head_number : Option Head → ℕ
head_number None = 0
head_number (Some (head.Sid sid_part.Owner)) = 1
head_number (Some (head.Sid sid_part.Group)) = 2
head_number (Some (head.Acl which.Sacl)) = 3
head_number (Some (head.Acl which.Dacl)) = 4

abbrev pub heads_from : ℕ → List (Option Head) → Bool
heads_from byte [] = true
heads_from byte (h ∷ more) = head_number h == head_number (head_of byte) && heads_from (suc byte) more

-- a table has the head of each byte, from 0 on
unfoldable pub have_heads : List (Option Head) → Bool
have_heads heads = heads_from 0 heads
