-- The field of an ACE at the front of a text: where it ends, and what it reads as.
use Rattle.std.specs.Prelude.{◌≡◌, ℕ, ◌≤◌, true, List, ◌∷◌, ◌++◌, length, Option, Some}
use Rattle.std.specs.List.{list_all}
use Rattle.std.specs.Str.{byte as char}
use Rattle.sd_text.specs.Limits.{most_field}
use Rattle.sd_kinds.specs.declared.kinds.AceKind.{AceKind}
use Rattle.sd_sddl_fields.specs.FieldTexts.{object_reads}
use Rattle.sd_sddl_fields.specs.Held.{is_plain_inside}

-- a field's text with no blank, and not too long
pub record IsWhole (text : List ℕ) : Type 0 where
  pub plain : list_all is_plain_inside text ≡ true
  pub fits : length text ≤ most_field

-- a field of which this holds, the byte that ends it, and a rest
pub record FieldAt (Reads : List ℕ → Type 0) (end : ℕ) (text rest : List ℕ) : Type 0 where
  pub field : List ℕ
  pub whole : IsWhole field
  pub stands : text ≡ field ++ end ∷ rest
  pub reads : Reads field

-- the object type and the inherited object type
pub record ObjectsAt (kind : AceKind) (object inherited : Option (List ℕ)) (text rest : List ℕ) : Type 0 where
  pub between : List ℕ
  pub first : FieldAt (λ t. object_reads kind t ≡ Some object) (char ";") text between
  pub second : FieldAt (λ t. object_reads kind t ≡ Some inherited) (char ";") between rest
