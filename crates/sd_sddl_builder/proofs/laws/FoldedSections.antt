-- The machine's reading of sections, folded over their fields, gives what each section says, one onto the other.
use Rattle.std.proofs.Common.{◌≡◌, ℕ, Bool, true, false, List, [], ◌∷◌, ◌++◌, length, Option, Some, None, Result, Ok}
use Rattle.std.proofs.Common.{Err, refl, ap, ◌∙◌, arith}
use Rattle.std.specs.Prelude.{◌==◌, if◌then◌else◌}
use Rattle.std.specs.List.{AllByRecursion, flat_map}
use Rattle.std.specs.Option.{ok_or}
use Rattle.std.proofs.lemmas.Bool.Decides.{nat_tests}
use Rattle.std.proofs.lemmas.Bool.{and_parts}
use Rattle.sd_ace.specs.Ace.{AccessControlEntry}
use Rattle.sd_kinds.specs.Flags.{flags_reads}
use Rattle.sd_rights.specs.Rights.{rights_reads}
use Rattle.sd_sid.specs.Sid.{SecurityId}
use Rattle.sd_sid.specs.SidText.{sid_reads}
use Rattle.sd_sid.specs.declared.sid_text.SidFault.{SidFault}
use Rattle.sd_sid.specs.declared.sid_text.SidFault.TheVariants.{SidForm}
use Rattle.sd_builder.specs.Draft.{begun, closed, with_ace, with_acl}
use Rattle.sd_view.specs.declared.acl_part.AclPart.{AclPart}
use Rattle.sd_view.specs.declared.acl_part.AclPart.TheVariants as acl
use Rattle.sd_parts.specs.declared.part.Which.{Which}
use Rattle.sd_sddl_fields.specs.FieldTexts.{front_reads, kind_reads, object_reads, is_blank}
use Rattle.sd_sddl_builder.specs.FoldedReading.{Field, FieldsRead, ace_fields, ace_fields_from, ace_of_fields}
use Rattle.sd_sddl_builder.specs.FoldedReading.{fields_in, fields_of, grown, no_fields, read_fields, take_ace_field}
use Rattle.sd_sddl_builder.specs.FoldedReading.{take_field, take_front, with_flags, with_owner_or_group, with_sid}
use Rattle.sd_sddl_builder.specs.FoldedReading.{with_trustee, with_value}
use Rattle.sd_sddl_builder.specs.Line.{Piece, Section, ace, ace_cuts, aces, are_aces, are_shaped, byte}
use Rattle.sd_sddl_builder.specs.Line.{cut_at_semicolons, front, has_aces, has_six_fields, is_acl_body, is_body, trim}
use Rattle.sd_text.specs.Chains.{and_then}
use Rattle.sd_sddl_builder.specs.Meaning.{Said, acl_said, ace_reads, body_reads, each, acl_part_reads, field_reads}
use Rattle.sd_sddl_builder.specs.Meaning.{is_unreadable, section_reads, sid_field_reads, sid_or_fault, sid_said}
use Rattle.sd_parts.specs.declared.control.AclFlags.{AclFlags}
use Rattle.sd_sddl_builder.specs.declared.fault.SddlFault.{SddlFault}
use Rattle.sd_sddl_builder.specs.declared.fault.SddlFault.TheVariants as fault
use Rattle.sd_sddl_builder.specs.declared.slot.AceField.{AceField}
use Rattle.sd_sddl_builder.specs.declared.slot.AceField.TheVariants as field
use Rattle.sd_sddl_builder.specs.declared.slot.Head.{Head}
use Rattle.sd_sddl_builder.specs.declared.slot.Head.TheVariants as head
use Rattle.sd_sddl_builder.specs.declared.slot.Slot.TheVariants as slot
use Rattle.sd_ace.specs.declared.ace_parts.AceFields.{AceFields}
use Rattle.sd_sddl_fields.specs.declared.field_texts.AclFront.{AclFront}

-- 1. One step after the other.

pub read-append : (domain : Option SecurityId) (fs gs : List Field) (r : FieldsRead)
    → read_fields domain (fs ++ gs) r ≡ and_then (read_fields domain fs r) (read_fields domain gs)
read-append domain [] gs r = refl
read-append domain (f ∷ fs) gs r = by_first (take_field domain r f.slot f.text) (λ x. read-append domain fs gs x)
  where
    by_first : (t : Result FieldsRead SddlFault)
        → ((x : FieldsRead) → read_fields domain (fs ++ gs) x ≡ and_then (read_fields domain fs x)
        (read_fields domain gs))
        → and_then t (read_fields domain (fs ++ gs)) ≡ and_then (and_then t (read_fields domain fs))
        (read_fields domain gs)
    by_first (Ok x) more = more x
    by_first (Err e) more = refl

-- something that was read, or the fault
abbrev pub Found : Type 0 → Type 0
Found A = Result A SddlFault

-- a field of the fold, and what follows it, against the same field read by itself
value-step : {A C : Type 0} (e : SddlFault) (with : A → FieldsRead) (bad : Bool) (o : Option A)
    (next : FieldsRead → Found FieldsRead) (body : A → Found C) (last : C → Found FieldsRead)
    → ((x : A) → next (with x) ≡ and_then (body x) last)
    → and_then (if bad then Err e else with_value e with o) next
    ≡ and_then (and_then (if bad then Err e else ok_or o e) body) last
value-step e with true o next body last h = refl
value-step e with false None next body last h = refl
value-step e with false (Some x) next body last h = h x

sid-step : {C : Type 0} (with : SecurityId → FieldsRead) (bad : Bool) (found : Result SecurityId SidFault)
    (next : FieldsRead → Found FieldsRead) (body : SecurityId → Found C) (last : C → Found FieldsRead)
    → ((s : SecurityId) → next (with s) ≡ and_then (body s) last)
    → and_then (if bad then Err (fault.Sid SidForm) else with_sid with found) next
    ≡ and_then (and_then (if bad then Err (fault.Sid SidForm) else sid_or_fault found) body) last
sid-step with true found next body last h = refl
sid-step with false (Err e) next body last h = refl
sid-step with false (Ok s) next body last h = h s

-- a step, and then the others of a list
each-step : {A : Type 0} (x : Found A) (xs : Found (List A)) (first : A → FieldsRead)
    (next : FieldsRead → Found FieldsRead)
    (last : List A → FieldsRead) → ((a : A) → next (first a) ≡ and_then xs (λ l. Ok (last (a ∷ l))))
    → and_then (and_then x (λ a. Ok (first a))) next
    ≡ and_then (and_then x (λ a. and_then xs (λ l. Ok (a ∷ l)))) (λ l. Ok (last l))
each-step (Err e) xs first next last h = refl
each-step (Ok a) (Ok l) first next last h = h a
each-step (Ok a) (Err e) first next last h = h a

-- 2. The six fields of an ACE, of which some are read.

-- the fold after an ACE
abbrev pub before_sid : AccessControlEntry → AceFields
before_sid e = record {
  kind = e.kind;
  flags = e.flags;
  mask = e.mask;
  object = e.object;
  inherited = e.inherited;
}

abbrev pub with_read_ace : FieldsRead → AccessControlEntry → FieldsRead
with_read_ace r e = grown (record r { ace = before_sid e }) (with_ace e r.parts)

abbrev entry_in : FieldsRead → AccessControlEntry → Found FieldsRead
entry_in r e = Ok (with_read_ace r e)

abbrev field_at : AceField → List ℕ → Field
field_at f text = record { slot = slot.Ace f; text = text }

-- the fold with other fields of the ACE at hand
abbrev with_fields : FieldsRead → AceFields → FieldsRead
with_fields r a = record r { ace = a }

module _ (domain : Option SecurityId) (sid : List ℕ) where
  -- what the last fields give to an ACE
  abbrev from_sid : AceFields → Found AccessControlEntry
  from_sid a = and_then (sid_field_reads domain sid) (λ s. Ok (ace_of_fields a s))

  sid-last : (r : FieldsRead)
      → read_fields domain (field_at field.Sid sid ∷ []) r ≡ and_then (from_sid r.ace) (entry_in r)
  unfolding take_field take_ace_field
  sid-last r =
      sid-step (with_trustee r) (is_unreadable sid) (sid_reads sid domain)
      (read_fields domain []) (λ s. Ok (ace_of_fields r.ace s)) (entry_in r) (λ s. refl)

  module _ (inherited : List ℕ) where
    abbrev from_inherited : AceFields → Found AccessControlEntry
    from_inherited a =
        and_then (field_reads fault.Guid (object_reads a.kind) inherited) (λ i. from_sid (record a { inherited = i }))

    abbrev last_two : List Field
    last_two = field_at field.Inherited inherited ∷ field_at field.Sid sid ∷ []

    inherited-last : (r : FieldsRead) → read_fields domain last_two r ≡ and_then (from_inherited r.ace) (entry_in r)
    unfolding take_field take_ace_field
    inherited-last r =
        value-step fault.Guid (λ i. with_fields r (record r.ace { inherited = i }))
        (is_unreadable inherited) (object_reads r.ace.kind inherited)
        (read_fields domain (field_at field.Sid sid ∷ [])) (λ i. from_sid (record r.ace { inherited = i })) (entry_in r)
        (λ i. sid-last (with_fields r (record r.ace { inherited = i })))

    module _ (object : List ℕ) where
      abbrev from_object : AceFields → Found AccessControlEntry
      from_object a =
          and_then (field_reads fault.Guid (object_reads a.kind) object) (λ o. from_inherited (record a { object = o }))

      abbrev last_three : List Field
      last_three = field_at field.Object object ∷ last_two

      object-last : (r : FieldsRead) → read_fields domain last_three r ≡ and_then (from_object r.ace) (entry_in r)
      unfolding take_field take_ace_field
      object-last r =
          value-step fault.Guid (λ o. with_fields r (record r.ace { object = o }))
          (is_unreadable object) (object_reads r.ace.kind object)
          (read_fields domain last_two) (λ o. from_inherited (record r.ace { object = o })) (entry_in r)
          (λ o. inherited-last (with_fields r (record r.ace { object = o })))

      module _ (rights : List ℕ) where
        abbrev from_rights : AceFields → Found AccessControlEntry
        from_rights a =
            and_then (field_reads fault.Rights rights_reads rights) (λ m. from_object (record a { mask = m }))

        abbrev last_four : List Field
        last_four = field_at field.Rights rights ∷ last_three

        rights-last : (r : FieldsRead) → read_fields domain last_four r ≡ and_then (from_rights r.ace) (entry_in r)
        unfolding take_field take_ace_field
        rights-last r =
            value-step fault.Rights (λ m. with_fields r (record r.ace { mask = m }))
            (is_unreadable rights) (rights_reads rights)
            (read_fields domain last_three) (λ m. from_object (record r.ace { mask = m })) (entry_in r)
            (λ m. object-last (with_fields r (record r.ace { mask = m })))

        module _ (flags : List ℕ) where
          abbrev from_flags : AceFields → Found AccessControlEntry
          from_flags a =
              and_then (field_reads fault.Flags flags_reads flags) (λ f. from_rights (record a { flags = f }))

          abbrev last_five : List Field
          last_five = field_at field.Flags flags ∷ last_four

          flags-last : (r : FieldsRead) → read_fields domain last_five r ≡ and_then (from_flags r.ace) (entry_in r)
          unfolding take_field take_ace_field
          flags-last r =
              value-step fault.Flags (λ f. with_fields r (record r.ace { flags = f }))
              (is_unreadable flags) (flags_reads flags)
              (read_fields domain last_four) (λ f. from_rights (record r.ace { flags = f })) (entry_in r)
              (λ f. rights-last (with_fields r (record r.ace { flags = f })))

          abbrev five : List (List ℕ)
          five = flags ∷ rights ∷ object ∷ inherited ∷ sid ∷ []

          six-read : (r : FieldsRead) (kind : List ℕ)
              → read_fields domain (ace_fields_from field.Kind kind five) r
              ≡ and_then (ace_reads domain (kind ∷ five)) (entry_in r)
          unfolding take_field take_ace_field ace_reads
          six-read r kind =
              value-step fault.Kind (λ k. with_fields r (record no_fields { kind = k }))
              (is_unreadable kind) (kind_reads kind)
              (read_fields domain last_five) (λ k. from_flags (record no_fields { kind = k })) (entry_in r)
              (λ k. flags-last (with_fields r (record no_fields { kind = k })))

-- five others after the first
cuts-read : (domain : Option SecurityId) (r : FieldsRead) (kind : List ℕ) (others : List (List ℕ))
    → (length others == 5) ≡ true
    → read_fields domain (ace_fields_from field.Kind kind others) r
    ≡ and_then (ace_reads domain (kind ∷ others)) (entry_in r)
cuts-read domain r kind [] six = absurd cc
cuts-read domain r kind (a ∷ []) six = absurd cc
cuts-read domain r kind (a ∷ b ∷ []) six = absurd cc
cuts-read domain r kind (a ∷ b ∷ c ∷ []) six = absurd cc
cuts-read domain r kind (a ∷ b ∷ c ∷ d ∷ []) six = absurd cc
cuts-read domain r kind (a ∷ b ∷ c ∷ d ∷ e ∷ []) six = six-read domain e d c b a r kind
cuts-read domain r kind (a ∷ b ∷ c ∷ d ∷ e ∷ f ∷ others) six = absurd (grind (arith, nat_tests))

ace-read : (domain : Option SecurityId) (r : FieldsRead) (text : List ℕ) → has_six_fields text ≡ true
    → read_fields domain (ace_fields text) r ≡ and_then (ace_reads domain (ace_cuts text)) (entry_in r)
ace-read domain r text six = cuts-read domain r (cut_at_semicolons text).first (cut_at_semicolons text).others six

-- 3. ACEs, one after the other.

unfoldable pub with_entries : FieldsRead → List AccessControlEntry → FieldsRead
with_entries r [] = r
with_entries r (e ∷ es) = with_entries (with_read_ace r e) es

abbrev pub HaveSix : List (List ℕ) → Type 0
HaveSix texts = AllByRecursion (λ a. has_six_fields a ≡ true) texts

abbrev aces_read : Option SecurityId → List (List ℕ) → Found (List AccessControlEntry)
aces_read domain texts = each (λ a. ace_reads domain (ace_cuts a)) texts

abbrev aces_folded : Option SecurityId → List (List ℕ) → FieldsRead → Found FieldsRead
aces_folded domain texts r = read_fields domain (flat_map ace_fields texts) r

aces-read : (domain : Option SecurityId) (r : FieldsRead) (texts : List (List ℕ)) → HaveSix texts
    → aces_folded domain texts r ≡ and_then (aces_read domain texts) (λ es. Ok (with_entries r es))
unfolding with_entries
aces-read domain r [] h = refl
aces-read domain r (a ∷ others) h =
    read-append domain (ace_fields a) (flat_map ace_fields others) r
    ∙ ap (λ (x : Found FieldsRead). and_then x (aces_folded domain others)) (ace-read domain r a h.0)
    ∙ each-step (ace_reads domain (ace_cuts a)) (aces_read domain others) (with_read_ace r)
    (aces_folded domain others) (with_entries r) (λ e. aces-read domain (with_read_ace r e) others h.1)

-- 4. A section.

abbrev pub acl_given : Which → AclFlags → AclPart → FieldsRead → FieldsRead
acl_given w f acl.Absent r = with_flags w f (record r { parts = with_acl w acl.Absent (closed r.parts) })
acl_given w f acl.Null r = with_flags w f (record r { parts = with_acl w acl.Null (closed r.parts) })
acl_given w f (acl.List es) r = with_entries (with_flags w f (record r { parts = begun w (closed r.parts) })) es

abbrev pub with_said : FieldsRead → Said → FieldsRead
with_said r (sid_said p s) = with_owner_or_group p r s
with_said r (acl_said w f a) = acl_given w f a r

abbrev said_in : FieldsRead → Said → Found FieldsRead
said_in r x = Ok (with_said r x)

no-aces : (body : List Piece) → has_aces body ≡ false → aces body ≡ []
no-aces [] e = refl
no-aces (byte b ∷ ps) e = no-aces ps e
no-aces (ace a ∷ ps) e = absurd cc

list-read : (x : Found (List AccessControlEntry)) (w : Which) (f : AclFlags) (r : FieldsRead)
    → and_then x (λ es. Ok (acl_given w f (acl.List es) r))
    ≡ and_then (and_then (and_then x (λ es. Ok (acl.List es))) (λ a. Ok (acl_said w f a))) (said_in r)
list-read (Ok es) w f r = refl
list-read (Err e) w f r = refl

module _ (domain : Option SecurityId) (w : Which) (body : List Piece) (r : FieldsRead) (six : HaveSix (aces body)) where
  abbrev acl_aces : FieldsRead → Found FieldsRead
  acl_aces x = aces_folded domain (aces body) x

  abbrev front_said : AclFront → Found Said
  front_said f = and_then (acl_part_reads domain f.null body) (λ a. Ok (acl_said w f.flags a))

  null-read : (f : AclFlags) (has : Bool) → has_aces body ≡ has
      → and_then (if has then Err fault.Flags else Ok (acl_given w f acl.Null r)) acl_aces
      ≡ and_then (and_then (if has then Err fault.Flags else Ok acl.Null) (λ a. Ok (acl_said w f a))) (said_in r)
  null-read f true e = refl
  null-read f false e = ap (λ (texts : List (List ℕ)). aces_folded domain texts (acl_given w f acl.Null r))
      (no-aces body e)

  front-read : (f : AclFlags) (null : Bool)
      → and_then (take_front w (has_aces body) r (Some (record { flags = f; null = null }))) acl_aces
      ≡ and_then (front_said (record { flags = f; null = null })) (said_in r)
  unfolding take_front acl_part_reads
  front-read f true = null-read f (has_aces body) refl
  front-read f false =
      aces-read domain (with_flags w f (record r { parts = begun w (closed r.parts) })) (aces body) six
      ∙ list-read (aces_read domain (aces body)) w f r

  acl-read : (bad : Bool) (found : Option AclFront)
      → and_then (if bad then Err fault.Flags else take_front w (has_aces body) r found) acl_aces
      ≡ and_then (and_then (if bad then Err fault.Flags else ok_or found fault.Flags) front_said) (said_in r)
  unfolding take_front
  acl-read true found = refl
  acl-read false None = refl
  acl-read false (Some f) = front-read f.flags f.null

pub aces-six : (body : List Piece) → are_aces body ≡ true → HaveSix (aces body)
aces-six [] h = tt
aces-six (byte b ∷ ps) h = aces-six ps (and_parts (is_blank b) _ h).1
aces-six (ace a ∷ ps) h = let parts = and_parts (has_six_fields a) _ h in (parts.0, aces-six ps parts.1)

pub acl-six : (body : List Piece) → is_acl_body body ≡ true → HaveSix (aces body)
acl-six [] h = tt
acl-six (byte b ∷ ps) h = acl-six ps (and_parts _ (is_acl_body ps) h).1
acl-six (ace a ∷ ps) h = aces-six (ace a ∷ ps) h

section-read : (domain : Option SecurityId) (r : FieldsRead) (h : Head) (body : List Piece) → is_body h body ≡ true
    → read_fields domain (fields_in h body) r ≡ and_then (body_reads domain h body) (said_in r)
unfolding take_field body_reads
section-read domain r (head.Sid p) body shaped =
    let text = trim (front body) in
    sid-step (with_owner_or_group p r) (is_unreadable text) (sid_reads text domain)
    (read_fields domain []) (λ s. Ok (sid_said p s)) (said_in r) (λ s. refl)
section-read domain r (head.Acl w) body shaped =
    let text = trim (front body) in
    acl-read domain w body r (acl-six body shaped) (is_unreadable text) (front_reads text)

-- 5. Sections, one after the other.

unfoldable pub with_all : FieldsRead → List Said → FieldsRead
with_all r [] = r
with_all r (x ∷ xs) = with_all (with_said r x) xs

pub sections-read : (domain : Option SecurityId) (r : FieldsRead) (ss : List Section) → are_shaped ss ≡ true
    → read_fields domain (fields_of ss) r ≡ and_then (each (section_reads domain) ss) (λ xs. Ok (with_all r xs))
unfolding with_all
sections-read domain r [] h = refl
sections-read domain r (s ∷ ss) h =
    let parts = and_parts (is_body s.head s.body) _ h in
    read-append domain (fields_in s.head s.body) (fields_of ss) r
    ∙ ap (λ (x : Found FieldsRead). and_then x (read_fields domain (fields_of ss)))
    (section-read domain r s.head s.body parts.0)
    ∙ each-step (section_reads domain s) (each (section_reads domain) ss) (with_said r)
    (read_fields domain (fields_of ss)) (with_all r) (λ x. sections-read domain (with_said r x) ss parts.1)
