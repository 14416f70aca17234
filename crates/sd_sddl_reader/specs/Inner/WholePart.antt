-- An owner, a group or the flags of an ACL that are whole in the piece at hand.
use Rattle.std.specs.Prelude.{◌≡◌, ℕ, ◌≤◌, true, List, ◌∷◌, ◌++◌, length, Option, Some, Ok, false}
use Rattle.std.specs.List.{list_all}
use Rattle.std.specs.Str.{byte as char}
use Rattle.sd_sid.specs.Sid.{SecurityId}
use Rattle.sd_sid.specs.SidText.{sid_reads}
use Rattle.sd_text.specs.Limits.{most_field}
use Rattle.sd_sddl_builder.specs.Line.{head_of}
use Rattle.sd_sddl_fields.specs.FieldTexts.{front_reads, is_blank}
use Rattle.sd_sddl_fields.specs.Held.{is_plain_text}
use Rattle.sd_sddl_fields.specs.declared.field_texts.AclFront.{AclFront}
use Rattle.sd_sddl_builder.specs.declared.slot.Head.{Head}

-- the text of a field outside parentheses: no blank and no colon in it, and not too long
pub record IsPlainText (text : List ℕ) : Type 0 where
  pub plain : list_all is_plain_text text ≡ true
  pub fits : length text ≤ most_field

-- such a text, a head that ends it, and a rest
pub record HeadAfter (field : List ℕ) (head : Head) (rest text : List ℕ) : Type 0 where
  pub whole : IsPlainText field
  pub letter : ℕ
  pub stands : text ≡ field ++ letter ∷ char ":" ∷ rest
  pub names : head_of letter ≡ Some head

-- what stands behind the blanks at the front of a text
pub record IsBehindBlanks (rest text : List ℕ) : Type 0 where
  pub blanks : List ℕ
  pub blank : list_all is_blank blanks ≡ true
  pub stands : text ≡ blanks ++ rest
  pub ends : (b : ℕ) (more : List ℕ) → rest ≡ b ∷ more → is_blank b ≡ false

-- the text of a field, a head behind it, blanks between them if any, and a rest
pub record HeadBehind (field : List ℕ) (head : Head) (rest text : List ℕ) : Type 0 where
  pub whole : IsPlainText field
  pub blanks : List ℕ
  pub blank : list_all is_blank blanks ≡ true
  pub letter : ℕ
  pub stands : text ≡ field ++ (blanks ++ letter ∷ char ":" ∷ rest)
  pub names : head_of letter ≡ Some head

-- a text that reads as a SID under any domain, a head behind it, and a rest
pub record SidBefore (sid : SecurityId) (head : Head) (rest text : List ℕ) : Type 0 where
  pub field : List ℕ
  pub before : HeadBehind field head rest text
  pub reads : (domain : Option SecurityId) → sid_reads field domain ≡ Ok sid

-- a text that reads as the flags of an ACL that is not null, the parenthesis that ends it, and a rest
pub record FrontBefore (front : AclFront) (rest text : List ℕ) : Type 0 where
  pub field : List ℕ
  pub whole : IsPlainText field
  pub stands : text ≡ field ++ char "(" ∷ rest
  pub reads : front_reads field ≡ Some front
  pub list : front.null ≡ false
