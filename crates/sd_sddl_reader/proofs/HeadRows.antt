-- A head of the table.
use Rattle.std.proofs.Common.{◌≡◌, ◌<◌, ℕ, zero, suc, ◌+◌, true, List, [], ◌∷◌, length, get_or, Option, Some, None}
use Rattle.std.proofs.Common.{arith, refl, sym, ap, ◌∙◌, eqb-true}
use Rattle.std.specs.Prelude.{◌==◌}
use Rattle.std.proofs.lemmas.Bool.{and_parts}
use Rattle.sd_parts.specs.declared.part.SidPart.TheVariants as sid_part
use Rattle.sd_parts.specs.declared.part.Which.TheVariants as which
use Rattle.sd_sddl_builder.specs.declared.slot.Head.{Head}
use Rattle.sd_sddl_builder.specs.declared.slot.Head.TheVariants as head
use Rattle.sd_sddl_builder.specs.Line.{head_of}
use Rattle.sd_sddl_reader.specs.Inner.Heads.{have_heads, head_number, heads_from}

-- the head of a number
abbrev numbered : ℕ → Option Head
numbered zero = None
numbered (suc zero) = Some (head.Sid sid_part.Owner)
numbered (suc (suc zero)) = Some (head.Sid sid_part.Group)
numbered (suc (suc (suc zero))) = Some (head.Acl which.Sacl)
numbered (suc (suc (suc (suc n)))) = Some (head.Acl which.Dacl)

number-back : (h : Option Head) → numbered (head_number h) ≡ h
number-back None = refl
number-back (Some (head.Sid sid_part.Owner)) = refl
number-back (Some (head.Sid sid_part.Group)) = refl
number-back (Some (head.Acl which.Sacl)) = refl
number-back (Some (head.Acl which.Dacl)) = refl

same-head : (x y : Option Head) → (head_number x == head_number y) ≡ true → x ≡ y
same-head x y e = sym (number-back x) ∙ (ap numbered (eqb-true (head_number x) (head_number y) e) ∙ number-back y)

head-from : (first i : ℕ) (heads : List (Option Head)) → heads_from first heads ≡ true → i < length heads
    → get_or heads i None ≡ head_of (first + i)
head-from first i [] all h = absurd (omega arith)
head-from first zero (x ∷ more) all h =
    let same : first ≡ first + 0 = omega arith in
    same-head x (head_of first)
    (and_parts (head_number x == head_number (head_of first)) (heads_from (suc first) more) all).0 ∙ ap head_of same
head-from first (suc i) (x ∷ more) all h =
    let next : suc first + i ≡ first + suc i = omega arith in
    head-from (suc first) i more
    (and_parts (head_number x == head_number (head_of first)) (heads_from (suc first) more) all).1 (omega arith)
    ∙ ap head_of next

pub head-at : (heads : List (Option Head)) (i : ℕ) → have_heads heads ≡ true → i < length heads
    → get_or heads i None ≡ head_of i
unfolding have_heads
head-at heads i all h = let same : 0 + i ≡ i = omega arith in head-from 0 i heads all h ∙ ap head_of same
