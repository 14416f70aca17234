-- The text of an ACE: six fields in parentheses, cut at the semicolons between them.
use Rattle.std.proofs.Common.{◌≡◌, ℕ, true, List, [], ◌∷◌, ◌++◌, refl, ap, sym, ◌∙◌, append-nil, append_assoc}
use Rattle.std.specs.Prelude.{◌==◌, length}
use Rattle.std.specs.List.{AllByRecursion, list_all}
use Rattle.std.proofs.lemmas.List.Folds.{list_all-append}
use Rattle.sd_ace.specs.Ace.{AccessControlEntry, IsAce}
use Rattle.sd_kinds.specs.Flags.{flags_text}
use Rattle.sd_rights.specs.Rights.{rights_text}
use Rattle.std.proofs.lemmas.Bool.{and_parts}
use Rattle.sd_sid.specs.declared.naming.Naming.{Naming}
use Rattle.sd_sddl_builder.specs.declared.slot.AceField.{AceField}
use Rattle.sd_sddl_builder.specs.declared.slot.AceField.TheVariants as field
use Rattle.sd_sddl_builder.specs.declared.slot.Slot.TheVariants as slot
use Rattle.sd_text.specs.Cuts.{Cuts, with_byte}
use Rattle.sd_sddl_builder.specs.Line.{cut_at_semicolons}
use Rattle.sd_sddl_builder.specs.FoldedReading.{Field, ace_fields, ace_fields_from}
use Rattle.sd_sddl_printer.specs.Printed.{ace_text, flags_field, kind_field, kind_text, object_field, object_text}
use Rattle.sd_sddl_printer.specs.Printed.{rights_field, trustee_field, trustee_text}
use Rattle.sd_sddl_printer.proofs.LineCuts.{IsInner, in_parentheses, is_inner_byte}
use Rattle.sd_sddl_printer.proofs.PlainTexts.{IsPlain, flags-plain, is_plain_byte, kind-plain, no_mark, object-plain}
use Rattle.sd_sddl_printer.proofs.PlainTexts.{rights-plain, trustee-plain}

-- 1. Texts with semicolons between them.

abbrev joined_fields : List ℕ → List (List ℕ) → List ℕ
joined_fields text [] = text
joined_fields text (t ∷ ts) = text ++ 59 ∷ joined_fields t ts

cuts-before : (text rest : List ℕ) → IsPlain text
    → cut_at_semicolons (text ++ rest)
    ≡ record { first = text ++ (cut_at_semicolons rest).first; others = (cut_at_semicolons rest).others }
cuts-before [] rest h = refl
cuts-before (b ∷ bs) rest h =
    let parts = and_parts (is_plain_byte b) _ h in
    ap (with_byte 59 b) (cuts-before bs rest parts.1) ∙ rw (no_mark b parts.0).semicolon refl

joined-cuts : (text : List ℕ) (ts : List (List ℕ)) → IsPlain text → AllByRecursion IsPlain ts
    → cut_at_semicolons (joined_fields text ts) ≡ record { first = text; others = ts }
joined-cuts text [] h k =
    ap cut_at_semicolons (sym (append-nil text)) ∙ cuts-before text [] h
    ∙ ap (λ (t : List ℕ). record { first = t; others = [] }) (append-nil text)
joined-cuts text (t ∷ ts) h k =
    cuts-before text (59 ∷ joined_fields t ts) h
    ∙ ap (λ (c : Cuts). record { first = text ++ []; others = c.first ∷ c.others }) (joined-cuts t ts k.0 k.1)
    ∙ ap (λ (x : List ℕ). record { first = x; others = t ∷ ts }) (append-nil text)

text-inner : (text : List ℕ) → IsPlain text → list_all is_inner_byte text ≡ true
text-inner [] h = refl
text-inner (b ∷ bs) h = let parts = and_parts (is_plain_byte b) _ h in rw (parts.0) (text-inner bs parts.1)

joined-inner : (text : List ℕ) (ts : List (List ℕ)) → IsPlain text → AllByRecursion IsPlain ts
    → list_all is_inner_byte (joined_fields text ts) ≡ true
joined-inner text [] h k = text-inner text h
joined-inner text (t ∷ ts) h k =
    list_all-append is_inner_byte text (59 ∷ joined_fields t ts) ∙ rw (text-inner text h) (joined-inner t ts k.0 k.1)

-- 2. The six fields.

abbrev other_texts : Naming → AccessControlEntry → List (List ℕ)
other_texts naming a = flags_text a.flags ∷ rights_text a.kind a.mask ∷ object_text a.object ∷ object_text
    a.inherited ∷ trustee_text naming a.sid ∷ []

-- what the parentheses hold
abbrev pub inner_text : Naming → AccessControlEntry → List ℕ
inner_text naming a = joined_fields (kind_text a.kind) (other_texts naming a)

-- a text after the joined ones
abbrev before_text : List ℕ → List ℕ → List (List ℕ) → List ℕ
before_text rest text [] = text ++ rest
before_text rest text (t ∷ ts) = text ++ 59 ∷ before_text rest t ts

joined-before : (rest text : List ℕ) (ts : List (List ℕ)) → joined_fields text ts ++ rest ≡ before_text rest text ts
joined-before rest text [] = refl
joined-before rest text (t ∷ ts) = append_assoc text (59 ∷ joined_fields t ts) rest
    ∙ ap (λ (x : List ℕ). text ++ 59 ∷ x) (joined-before rest t ts)

marked : (text rest : List ℕ) → (text ++ 59 ∷ []) ++ rest ≡ text ++ 59 ∷ rest
marked text rest = append_assoc text (59 ∷ []) rest

in_one : (k f r o i t : List ℕ)
    → ((40 ∷ k ++ 59 ∷ []) ++ (f ++ 59 ∷ []))
    ++ (((r ++ 59 ∷ []) ++ (o ++ 59 ∷ [])) ++ ((i ++ 59 ∷ []) ++ (t ++ 41 ∷ [])))
    ≡ in_parentheses (joined_fields k (f ∷ r ∷ o ∷ i ∷ t ∷ []))
in_one k f r o i t =
    let last = (i ++ 59 ∷ []) ++ (t ++ 41 ∷ []) in
    let rights = append_assoc (r ++ 59 ∷ []) (o ++ 59 ∷ []) last ∙ marked r ((o ++ 59 ∷ []) ++ last) in
    let objects = marked o last ∙ ap (λ (x : List ℕ). o ++ 59 ∷ x) (marked i (t ++ 41 ∷ [])) in
    let others = rights ∙ ap (λ (x : List ℕ). r ++ 59 ∷ x) objects in
    append_assoc (40 ∷ k ++ 59 ∷ []) (f ++ 59 ∷ []) (((r ++ 59 ∷ []) ++ (o ++ 59 ∷ [])) ++ last)
    ∙ marked (40 ∷ k) ((f ++ 59 ∷ []) ++ (((r ++ 59 ∷ []) ++ (o ++ 59 ∷ [])) ++ last))
    ∙ ap (λ (x : List ℕ). 40 ∷ k ++ 59 ∷ x)
    (marked f (((r ++ 59 ∷ []) ++ (o ++ 59 ∷ [])) ++ last) ∙ ap (λ (x : List ℕ). f ++ 59 ∷ x) others)
    ∙ ap (λ (x : List ℕ). 40 ∷ x) (sym (joined-before (41 ∷ []) k (f ∷ r ∷ o ∷ i ∷ t ∷ [])))

pub ace_text-inner : (naming : Naming) (a : AccessControlEntry)
    → ace_text naming a ≡ in_parentheses (inner_text naming a)
unfolding ace_text kind_field flags_field rights_field object_field trustee_field
ace_text-inner naming a =
    in_one (kind_text a.kind) (flags_text a.flags) (rights_text a.kind a.mask) (object_text a.object)
    (object_text a.inherited) (trustee_text naming a.sid)

others-plain : (naming : Naming) (a : AccessControlEntry) → IsAce a → AllByRecursion IsPlain (other_texts naming a)
others-plain naming a h = (
  flags-plain a.flags,
  (
    rights-plain a.kind a.mask h.mask,
    (object-plain a.object, (object-plain a.inherited, (trustee-plain naming a.sid h.sid, tt))),
  ),
)

inner-cuts : (naming : Naming) (a : AccessControlEntry) → IsAce a
    → cut_at_semicolons (inner_text naming a) ≡ record { first = kind_text a.kind; others = other_texts naming a }
inner-cuts naming a h = joined-cuts (kind_text a.kind) (other_texts naming a) (kind-plain a.kind)
    (others-plain naming a h)

pub inner_text-is : (naming : Naming) (a : AccessControlEntry) → IsAce a → IsInner (inner_text naming a)
inner_text-is naming a h = record {
  bytes = joined-inner (kind_text a.kind) (other_texts naming a) (kind-plain a.kind) (others-plain naming a h);
  six = ap (λ (c : Cuts). length c.others == 5) (inner-cuts naming a h);
}

-- the text of a field
abbrev text_at : Naming → AccessControlEntry → AceField → List ℕ
text_at naming a field.Kind = kind_text a.kind
text_at naming a field.Flags = flags_text a.flags
text_at naming a field.Rights = rights_text a.kind a.mask
text_at naming a field.Object = object_text a.object
text_at naming a field.Inherited = object_text a.inherited
text_at naming a field.Sid = trustee_text naming a.sid

abbrev pub field_at : Naming → AccessControlEntry → AceField → Field
field_at naming a f = record { slot = slot.Ace f; text = text_at naming a f }

pub inner-fields : (naming : Naming) (a : AccessControlEntry) → IsAce a
    → ace_fields (inner_text naming a)
    ≡ field_at naming a field.Kind ∷ field_at naming a field.Flags ∷ field_at naming a field.Rights
    ∷ field_at naming a field.Object ∷ field_at naming a field.Inherited ∷ field_at naming a field.Sid ∷ []
inner-fields naming a h = ap (λ (c : Cuts). ace_fields_from field.Kind c.first c.others) (inner-cuts naming a h)
