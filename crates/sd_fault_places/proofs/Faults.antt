-- The place's fault is the fault of the text.
use Rattle.std.proofs.Common.{◌≡◌, ◌≤◌, ℕ, suc, ◌+◌, Bool, true, false, ◌||◌, ◌&&◌, List, [], ◌∷◌, ◌++◌, length, refl}
use Rattle.std.proofs.Common.{ap, sym, ◌∙◌, arith}
use Rattle.std.specs.Prelude.{◌==◌, if◌then◌else◌, nat_lt, not, Option, Some, None, Result, Ok, Err, is_some}
use Rattle.std.specs.Option.{ok_or, option_map, option_or, unwrap_or}
use Rattle.std.specs.Result.{result_err}
use Rattle.std.proofs.lemmas.Bool.{and_parts}
use Rattle.std.proofs.lemmas.Bool.Decides.{nat_tests}
use Rattle.sd_text.specs.Chains.{and_then}
use Rattle.sd_ace.specs.Ace.{AccessControlEntry, ace_size, sid_offset}
use Rattle.sd_acl_view.specs.Acl.{aces_size}
use Rattle.sd_kinds.specs.Flags.{flags_reads}
use Rattle.sd_kinds.specs.declared.kinds.AceKind.{AceKind}
use Rattle.sd_kinds.specs.declared.kinds.AceKind.TheVariants as kinds
use Rattle.sd_parts.specs.Parts.{each_part, get_part, part_of, set_part, sid_part_of}
use Rattle.sd_parts.specs.declared.part.Part.{Part}
use Rattle.sd_parts.specs.declared.part.Which.{Which}
use Rattle.sd_rights.specs.Rights.{rights_reads}
use Rattle.sd_sid.specs.Sid.{SecurityId}
use Rattle.sd_sid.specs.SidText.{sid_reads}
use Rattle.sd_sid.specs.declared.sid_text.SidFault.{SidFault}
use Rattle.sd_sid.specs.declared.sid_text.SidFault.TheVariants.{SidForm}
use Rattle.sd_sddl_fields.specs.FieldTexts.{front_reads, kind_reads, object_reads}
use Rattle.sd_sddl_fields.specs.declared.field_texts.AclFront.{AclFront}
use Rattle.sd_view.specs.Layout.{acl_part_size}
use Rattle.sd_view.specs.declared.acl_part.AclPart.{AclPart}
use Rattle.sd_view.specs.declared.acl_part.AclPart.TheVariants as acl
use Rattle.sd_sddl_builder.specs.FoldedReading.{next_field}
use Rattle.sd_sddl_builder.specs.Line.{Piece, Section, ace, ace_cuts, aces, are_shaped, byte, cut_at_semicolons, front}
use Rattle.sd_sddl_builder.specs.Line.{has_aces, has_head, has_twice, is_body, is_shaped, part_of_head, has_seen}
use Rattle.sd_sddl_builder.specs.Line.{sections_of, trim}
use Rattle.sd_sddl_builder.proofs.laws.FoldedMeaning.{line-shaped}
use Rattle.sd_sddl_builder.proofs.laws.FoldedSections.{HaveSix, acl-six}
use Rattle.sd_sddl_builder.proofs.laws.SeenLaws.{has-seen-with, none-seen}
use Rattle.sd_sddl_builder.specs.Meaning.{Said, acl_part_reads, acl_said, ace_reads, body_reads, each, field_reads}
use Rattle.sd_sddl_builder.specs.Meaning.{is_unreadable, means, section_reads, sections_mean, sid_field_reads}
use Rattle.sd_sddl_builder.specs.Meaning.{sid_or_fault, descriptor_of, sid_said, unless_large}
use Rattle.sd_sddl_builder.specs.Meaning.{first_large as first_said}
use Rattle.sd_sddl_builder.specs.declared.fault.SddlFault.{SddlFault}
use Rattle.sd_sddl_builder.specs.declared.fault.SddlFault.TheVariants as fault
use Rattle.sd_sddl_builder.specs.declared.slot.AceField.{AceField}
use Rattle.sd_sddl_builder.specs.declared.slot.AceField.TheVariants as field
use Rattle.sd_sddl_builder.specs.declared.slot.Head.{Head}
use Rattle.sd_sddl_builder.specs.declared.slot.Slot.TheVariants as slot
use Rattle.sd_sddl_builder.specs.declared.slot.Head.TheVariants as head
use Rattle.sd_fault_places.specs.declared.place.FaultPlace.{FaultPlace}
use Rattle.sd_fault_places.specs.Fields.{PlacedAce, PlacedField, ace_field, ace_field_fault, aces_from, cuts_from}
use Rattle.sd_fault_places.specs.Fields.{field_fault, fields_in, fields_in_ace, fields_in_aces, fields_in_body, kind_in}
use Rattle.sd_fault_places.specs.Fields.{parts_in, pieces_size, placed, front_field, place, unless_null_with_aces}
use Rattle.sd_fault_places.specs.SddlPlaces.{IsFirstFault, Seen, first_faulty, first_large, if_faulty, large_in}
use Rattle.sd_fault_places.specs.SddlPlaces.{passing, place_in_parts, place_of_sddl_fault, place_of_shape, read_size}
use Rattle.sd_fault_places.specs.SddlPlaces.{object_in, second_head, size_in}

abbrev Found : Type 0 → Type 0
Found A = Result A SddlFault

abbrev pub fault_at : Option (SddlFault × FaultPlace) → Option SddlFault
fault_at o = option_map (λ r. r.0) o

or-fault : (x y : Option (SddlFault × FaultPlace)) → fault_at (option_or x y) ≡ option_or (fault_at x) (fault_at y)
or-fault None y = refl
or-fault (Some r) y = refl

-- 1. Two heads with one letter.

mixed : (x y z : Bool) → ((x || y) || z) ≡ (x || (y || z))
mixed true y z = refl
mixed false y z = refl

second-twice : (ss : List Section) (se : Seen) (at : ℕ)
    → is_some (second_head se (placed at ss)) ≡ (has_seen se ss || has_twice ss)
second-twice [] se at = refl
second-twice (s ∷ ss) se at =
    by_seen (place (Some (part_of_head s.head)) None None at 2) (second-twice ss (set_part
    (part_of_head s.head) true se) (at + (pieces_size s.body + 2)))
    (get_part (part_of_head s.head) se)
  where
    by_seen : (p : FaultPlace)
        → is_some (second_head (set_part (part_of_head s.head) true se) (placed (at + (pieces_size s.body + 2)) ss))
        ≡ (has_seen (set_part (part_of_head s.head) true se) ss || has_twice ss)
        → (x : Bool)
        → is_some (if x then Some p else second_head (set_part (part_of_head s.head) true se)
        (placed (at + (pieces_size s.body + 2)) ss))
        ≡ ((x || has_seen se ss) || (has_head s.head ss || has_twice ss))
    by_seen p more true = refl
    by_seen p more false =
        more ∙ rw (has-seen-with se s.head ss) (mixed (has_seen se ss) (has_head s.head ss) (has_twice ss))

-- 2. Fields.

pub first-append : (domain : Option SecurityId) (xs ys : List PlacedField)
    → first_faulty domain (xs ++ ys) ≡ option_or (first_faulty domain xs) (first_faulty domain ys)
first-append domain [] ys = refl
first-append domain (f ∷ fs) ys = by_fault (first-append domain fs ys) (field_fault domain f)
  where
    by_fault : first_faulty domain (fs ++ ys) ≡ option_or (first_faulty domain fs) (first_faulty domain ys)
        → (o : Option SddlFault) → if_faulty f.place (first_faulty domain (fs ++ ys)) o
        ≡ option_or (if_faulty f.place (first_faulty domain fs) o) (first_faulty domain ys)
    by_fault more None = more
    by_fault more (Some e) = refl

first-cons : (domain : Option SecurityId) (f : PlacedField) (fs : List PlacedField)
    → fault_at (first_faulty domain (f ∷ fs)) ≡ option_or (field_fault domain f) (fault_at (first_faulty domain fs))
first-cons domain f fs = by_fault (field_fault domain f)
  where
    by_fault : (o : Option SddlFault) → fault_at (if_faulty f.place (first_faulty domain fs) o)
        ≡ option_or o (fault_at (first_faulty domain fs))
    by_fault None = refl
    by_fault (Some e) = refl

-- a reading, and what is read after it
then-fault : {A B : Type 0} (x : Found A) (next : A → Found B) (rest : Option SddlFault)
    → ((a : A) → x ≡ Ok a → result_err (next a) ≡ rest) → result_err (and_then x next) ≡ option_or (result_err x) rest
then-fault (Ok a) next rest h = h a refl
then-fault (Err e) next rest h = refl

-- 3. The six fields of an ACE.

kind-read : (text : List ℕ) (k : AceKind) → field_reads fault.Kind kind_reads text ≡ Ok k → kind_in text ≡ k
kind-read text k e = by_test (is_unreadable text) (kind_reads text) e
  where
    by_test : (x : Bool) (o : Option AceKind) → (if x then Err fault.Kind else ok_or o fault.Kind) ≡ Ok k
        → unwrap_or o kinds.Allow ≡ k
    by_test true o e = absurd cc
    by_test false None e = absurd cc
    by_test false (Some j) e = cc

abbrev Guid : Type 0
Guid = Option (List ℕ)

module _ (domain : Option SecurityId) (kind flags rights object inherited sid : List ℕ) where
  -- what is read after each field
  abbrev after_inherited : AceKind → ℕ → ℕ → Guid → Guid → SecurityId → Found AccessControlEntry
  after_inherited k f m o i s = Ok (record { kind = k; flags = f; mask = m; object = o; inherited = i; sid = s })

  abbrev after_object : AceKind → ℕ → ℕ → Guid → Guid → Found AccessControlEntry
  after_object k f m o i = and_then (sid_field_reads domain sid) (after_inherited k f m o i)

  abbrev after_rights : AceKind → ℕ → ℕ → Guid → Found AccessControlEntry
  after_rights k f m o = and_then (field_reads fault.Guid (object_reads k) inherited) (after_object k f m o)

  abbrev after_flags : AceKind → ℕ → ℕ → Found AccessControlEntry
  after_flags k f m = and_then (field_reads fault.Guid (object_reads k) object) (after_rights k f m)

  abbrev after_kind : AceKind → ℕ → Found AccessControlEntry
  after_kind k f = and_then (field_reads fault.Rights rights_reads rights) (after_flags k f)

  abbrev from_kind : AceKind → Found AccessControlEntry
  from_kind k = and_then (field_reads fault.Flags flags_reads flags) (after_kind k)

  abbrev six_read : Found AccessControlEntry
  six_read = and_then (field_reads fault.Kind kind_reads kind) from_kind

  six-are : ace_reads domain (kind ∷ flags ∷ rights ∷ object ∷ inherited ∷ sid ∷ []) ≡ six_read
  unfolding ace_reads
  six-are = refl

  -- the first fault from each field on
  abbrev sid_on : Option SddlFault
  sid_on = option_or (result_err (sid_field_reads domain sid)) None

  abbrev inherited_on : AceKind → Option SddlFault
  inherited_on k = option_or (result_err (field_reads fault.Guid (object_reads k) inherited)) sid_on

  abbrev object_on : AceKind → Option SddlFault
  object_on k = option_or (result_err (field_reads fault.Guid (object_reads k) object)) (inherited_on k)

  abbrev rights_on : AceKind → Option SddlFault
  rights_on k = option_or (result_err (field_reads fault.Rights rights_reads rights)) (object_on k)

  abbrev flags_on : AceKind → Option SddlFault
  flags_on k = option_or (result_err (field_reads fault.Flags flags_reads flags)) (rights_on k)

  from-inherited : (k : AceKind) (f m : ℕ) (o i : Guid) → result_err (after_object k f m o i) ≡ sid_on
  from-inherited k f m o i = then-fault (sid_field_reads domain sid) (after_inherited k f m o i) None (λ s is. refl)

  from-object : (k : AceKind) (f m : ℕ) (o : Guid) → result_err (after_rights k f m o) ≡ inherited_on k
  from-object k f m o =
      then-fault (field_reads fault.Guid (object_reads k) inherited) (after_object k f m o) sid_on
      (λ i is. from-inherited k f m o i)

  from-rights : (k : AceKind) (f m : ℕ) → result_err (after_flags k f m) ≡ object_on k
  from-rights k f m =
      then-fault (field_reads fault.Guid (object_reads k) object) (after_rights k f m) (inherited_on k)
      (λ o is. from-object k f m o)

  from-flags : (k : AceKind) (f : ℕ) → result_err (after_kind k f) ≡ rights_on k
  from-flags k f =
      then-fault (field_reads fault.Rights rights_reads rights) (after_flags k f) (object_on k)
      (λ m is. from-rights k f m)

  from-kind : (k : AceKind) → result_err (from_kind k) ≡ flags_on k
  from-kind k =
      then-fault (field_reads fault.Flags flags_reads flags) (after_kind k) (rights_on k) (λ f is. from-flags k f)

  abbrev all_on : Option SddlFault
  all_on = option_or (result_err (field_reads fault.Kind kind_reads kind)) (flags_on (kind_in kind))

  from-six : result_err six_read ≡ all_on
  from-six =
      then-fault (field_reads fault.Kind kind_reads kind) from_kind (flags_on (kind_in kind))
      (λ k is. from-kind k ∙ ap flags_on (sym (kind-read kind k is)))

-- a field of an ACE that another follows
cons-cut : (domain : Option SecurityId) (p : Part) (number : ℕ) (k : AceKind) (at : ℕ) (f : AceField) (text t : List ℕ)
    (ts : List (List ℕ)) → fault_at (first_faulty domain (cuts_from p number k at f text (t ∷ ts)))
    ≡ option_or (ace_field_fault domain k f text)
    (fault_at (first_faulty domain (cuts_from p number k (at + (length text + 1)) (next_field f) t ts)))
cons-cut domain p number k at f text t ts =
    first-cons domain (ace_field p number k at f text) (cuts_from p number k (at + (length text + 1))
    (next_field f) t ts)

module _ (domain : Option SecurityId) (p : Part) (number at : ℕ) (kind flags rights object inherited sid : List ℕ) where
  abbrev k : AceKind
  k = kind_in kind

  abbrev flags_at : ℕ
  flags_at = at + (length kind + 1)

  abbrev rights_at : ℕ
  rights_at = flags_at + (length flags + 1)

  abbrev object_at : ℕ
  object_at = rights_at + (length rights + 1)

  abbrev inherited_at : ℕ
  inherited_at = object_at + (length object + 1)

  abbrev sid_at : ℕ
  sid_at = inherited_at + (length inherited + 1)

  six-told : fault_at (first_faulty domain
      (cuts_from p number k at field.Kind kind (flags ∷ rights ∷ object ∷ inherited ∷ sid ∷ [])))
      ≡ all_on domain kind flags rights object inherited sid
  six-told =
      cons-cut domain p number k at field.Kind kind flags (rights ∷ object ∷ inherited ∷ sid ∷ [])
      ∙ ap (option_or (ace_field_fault domain k field.Kind kind))
      (cons-cut domain p number k flags_at field.Flags flags rights (object ∷ inherited ∷ sid ∷ [])
      ∙ ap (option_or (ace_field_fault domain k field.Flags flags))
      (cons-cut domain p number k rights_at field.Rights rights object (inherited ∷ sid ∷ [])
      ∙ ap (option_or (ace_field_fault domain k field.Rights rights))
      (cons-cut domain p number k object_at field.Object object inherited (sid ∷ [])
      ∙ ap (option_or (ace_field_fault domain k field.Object object))
      (cons-cut domain p number k inherited_at field.Inherited inherited sid []
      ∙ ap (option_or (ace_field_fault domain k field.Inherited inherited))
      (first-cons domain (ace_field p number k sid_at field.Sid sid) [])))))

  six-faults : result_err (ace_reads domain (kind ∷ flags ∷ rights ∷ object ∷ inherited ∷ sid ∷ []))
      ≡ fault_at (first_faulty domain
      (cuts_from p number (kind_in kind) at field.Kind kind (flags ∷ rights ∷ object ∷ inherited ∷ sid ∷ [])))
  six-faults =
      ap result_err (six-are domain kind flags rights object inherited sid)
      ∙ from-six domain kind flags rights object inherited sid ∙ sym six-told

-- five others after the first
cuts-fault : (domain : Option SecurityId) (p : Part) (number at : ℕ) (kind : List ℕ) (others : List (List ℕ))
    → (length others == 5) ≡ true
    → result_err (ace_reads domain (kind ∷ others))
    ≡ fault_at (first_faulty domain (cuts_from p number (kind_in kind) at field.Kind kind others))
cuts-fault domain p number at kind [] six = absurd cc
cuts-fault domain p number at kind (a ∷ []) six = absurd cc
cuts-fault domain p number at kind (a ∷ b ∷ []) six = absurd cc
cuts-fault domain p number at kind (a ∷ b ∷ c ∷ []) six = absurd cc
cuts-fault domain p number at kind (a ∷ b ∷ c ∷ d ∷ []) six = absurd cc
cuts-fault domain p number at kind (a ∷ b ∷ c ∷ d ∷ e ∷ []) six = six-faults domain p number at kind a b c d e
cuts-fault domain p number at kind (a ∷ b ∷ c ∷ d ∷ e ∷ f ∷ others) six = absurd (grind (arith, nat_tests))

abbrev aces_read : Option SecurityId → List (List ℕ) → Found (List AccessControlEntry)
aces_read domain texts = each (λ a. ace_reads domain (ace_cuts a)) texts

each-fault : {A B : Type 0} (reads : A → Found B) (x : A) (xs : List A)
    → result_err (each reads (x ∷ xs)) ≡ option_or (result_err (reads x)) (result_err (each reads xs))
each-fault reads x xs = then-fault (reads x) _ (result_err (each reads xs)) (λ y _. last (each reads xs) y)
  where
    last : {B : Type 0} (ys : Found (List B)) (y : B) → result_err (and_then ys (λ l. Ok (y ∷ l))) ≡ result_err ys
    last (Ok l) y = refl
    last (Err e) y = refl

aces-fault : (domain : Option SecurityId) (p : Part) (body : List Piece) (number at : ℕ) → HaveSix (aces body)
    → result_err (aces_read domain (aces body))
    ≡ fault_at (first_faulty domain (fields_in_aces p (aces_from number at body)))
aces-fault domain p [] number at six = refl
aces-fault domain p (byte b ∷ ps) number at six = aces-fault domain p ps number (at + 1) six
aces-fault domain p (ace a ∷ ps) number at six =
    let here : PlacedAce = record { number = number; at = at; text = a } in
    let others = fields_in_aces p (aces_from (number + 1) (at + (length a + 2)) ps) in
    each-fault (λ t. ace_reads domain (ace_cuts t)) a (aces ps)
    ∙ rw (
      cuts-fault domain p number (at + 1) (cut_at_semicolons a).first (cut_at_semicolons a).others six.0,
      aces-fault domain p ps (number + 1) (at + (length a + 2)) six.1,
    )
    (sym (or-fault (first_faulty domain (fields_in_ace p here)) (first_faulty domain others))
    ∙ ap fault_at (sym (first-append domain (fields_in_ace p here) others)))

-- 4. A section.

no-aces : (body : List Piece) (number at : ℕ) → has_aces body ≡ false → aces_from number at body ≡ []
no-aces [] number at e = refl
no-aces (byte b ∷ ps) number at e = no-aces ps number (at + 1) e
no-aces (ace a ∷ ps) number at e = absurd cc

module _ (domain : Option SecurityId) (w : Which) (body : List Piece) (at : ℕ) (six : HaveSix (aces body)) where
  abbrev ace_faults : Option SddlFault
  ace_faults = fault_at (first_faulty domain (fields_in_aces (part_of w) (aces_from 0 at body)))

  abbrev with_part : AclFront → Found Said
  with_part f = and_then (acl_part_reads domain f.null body) (λ a. Ok (acl_said w f.flags a))

  abbrev null_fault : Bool → Bool → AclFront → Option SddlFault
  null_fault null has f = result_err {T = AclFront} (if null && has then Err fault.Flags else Ok f)

  null-part : (has : Bool) → has_aces body ≡ has → (f : AclFront)
      → result_err (and_then (if has then Err fault.Flags else Ok acl.Null) (λ a. Ok (acl_said w f.flags a)))
      ≡ option_or (null_fault true has f) ace_faults
  null-part true e f = refl
  null-part false e f =
      sym (ap (λ (found : List PlacedAce). fault_at (first_faulty domain (fields_in_aces (part_of w) found)))
      (no-aces body 0 at e))

  list-part : (f : AclFront) (x : Found (List AccessControlEntry)) → result_err
      (and_then (and_then x (λ es. Ok (acl.List es))) (λ a. Ok (acl_said w f.flags a))) ≡ result_err x
  list-part f (Ok es) = refl
  list-part f (Err e) = refl

  part-fault : (f : AclFront) (null : Bool) → f.null ≡ null
      → result_err (and_then (acl_part_reads domain null body) (λ a. Ok (acl_said w f.flags a)))
      ≡ option_or (null_fault null (has_aces body) f) ace_faults
  unfolding acl_part_reads
  part-fault f true e = null-part (has_aces body) refl f
  part-fault f false e = list-part f (aces_read domain (aces body)) ∙ aces-fault domain (part_of w) body 0 at six

  acl-fault : (x : Found AclFront) → result_err (and_then x with_part)
      ≡ option_or (result_err (and_then x (unless_null_with_aces (has_aces body)))) ace_faults
  acl-fault (Err e) = refl
  acl-fault (Ok f) = part-fault f f.null refl

sid-said : (x : Found SecurityId) (with : SecurityId → Said)
    → result_err (and_then x (λ s. Ok (with s))) ≡ option_or (result_err x) None
sid-said (Ok s) with = refl
sid-said (Err e) with = refl

body-fault : (domain : Option SecurityId) (h : Head) (body : List Piece) (at : ℕ) → is_body h body ≡ true
    → result_err (body_reads domain h body) ≡ fault_at (first_faulty domain (fields_in_body h at body))
unfolding body_reads
body-fault domain (head.Sid p) body at shaped =
    sid-said (sid_field_reads domain (trim (front body))) (sid_said p)
    ∙ sym (first-cons domain (front_field (sid_part_of p) (slot.Sid p) at (front body)) [])
body-fault domain (head.Acl w) body at shaped =
    acl-fault domain w body at (acl-six body shaped) (field_reads fault.Flags front_reads (trim (front body)))
    ∙ sym (first-cons domain (front_field (part_of w) (slot.AclFlags w (has_aces body)) at (front body))
    (fields_in_aces (part_of w) (aces_from 0 at body)))

sections-fault : (domain : Option SecurityId) (ss : List Section) (at : ℕ) → are_shaped ss ≡ true
    → result_err (each (section_reads domain) ss) ≡ fault_at (first_faulty domain (fields_in (placed at ss)))
sections-fault domain [] at shaped = refl
sections-fault domain (s ∷ ss) at shaped =
    let parts = and_parts (is_body s.head s.body) _ shaped in
    let here = fields_in_body s.head (at + 2) s.body in
    let others = fields_in (placed (at + (pieces_size s.body + 2)) ss) in
    each-fault (section_reads domain) s ss
    ∙ rw (
      body-fault domain s.head s.body (at + 2) parts.0,
      sections-fault domain ss (at +
          (pieces_size s.body + 2)) parts.1,
    )
    (sym (or-fault (first_faulty domain here) (first_faulty domain others))
    ∙ ap fault_at (sym (first-append domain here others)))

-- 5. An ACL that is too large.

-- what a reading that succeeds gives to what follows it
abbrev from_ok : {A : Type 0} → A → Found A → A
from_ok d (Ok a) = a
from_ok d (Err e) = d

from-same : {A : Type 0} (d : A) (x y : Found A) → x ≡ y → from_ok d x ≡ from_ok d y
from-same d x y e = ap (from_ok d) e

record Reads {A B : Type 0} (x : Found A) (next : A → Found B) (b : B) : Type 0 where
  value : A
  here : x ≡ Ok value
  after : next value ≡ Ok b

read-on : {A B : Type 0} (x : Found A) (next : A → Found B) (b : B) → and_then x next ≡ Ok b → Reads x next b
read-on (Ok a) next b e = record { value = a; here = refl; after = e }
read-on (Err f) next b e = absurd cc

record EachRead {A B : Type 0} (reads : A → Found B) (x : A) (xs : List A) (l : List B) : Type 0 where
  first : B
  others : List B
  here : reads x ≡ Ok first
  after : each reads xs ≡ Ok others
  shape : first ∷ others ≡ l

each-on : {A B : Type 0} (reads : A → Found B) (x : A) (xs : List A) (l : List B) → each reads (x ∷ xs) ≡ Ok l
    → EachRead reads x xs l
each-on reads x xs l e =
    let f = read-on (reads x) (λ y. and_then (each reads xs) (λ ys. Ok (y ∷ ys))) l e in
    let o = read-on (each reads xs) (λ ys. Ok (f.value ∷ ys)) l f.after in
    record { first = f.value; others = o.value; here = f.here; after = o.here; shape = cc (o.after) }

field-value : {A : Type 0} (f : SddlFault) (read : List ℕ → Option A) (text : List ℕ) (a : A)
    → field_reads f read text ≡ Ok a → read text ≡ Some a
field-value f read text a e = by_test (is_unreadable text) (read text) e
  where
    by_test : (x : Bool) (o : Option _) → (if x then Err f else ok_or o f) ≡ Ok a → o ≡ Some a
    by_test true o e = absurd cc
    by_test false None e = absurd cc
    by_test false (Some b) e = cc

sid-value : (domain : Option SecurityId) (text : List ℕ) (s : SecurityId) → sid_field_reads domain text ≡ Ok s
    → sid_reads text domain ≡ Ok s
sid-value domain text s e = by_test (is_unreadable text) (sid_reads text domain) e
  where
    by_test : (x : Bool) (o : Result SecurityId SidFault) → (if x then Err (fault.Sid SidForm) else sid_or_fault o)
        ≡ Ok s → o ≡ Ok s
    by_test true o e = absurd cc
    by_test false (Err f) e = absurd cc
    by_test false (Ok b) e = cc

module _ (domain : Option SecurityId) (kind flags rights object inherited sid : List ℕ) (a : AccessControlEntry) where
  abbrev cut_size : ℕ
  cut_size =
      sid_offset (kind_in kind) (object_in (kind_in kind) object) (object_in (kind_in kind) inherited)
      + read_size (sid_reads sid domain)

  six-size : ace_reads domain (kind ∷ flags ∷ rights ∷ object ∷ inherited ∷ sid ∷ []) ≡ Ok a → cut_size ≡ ace_size a
  six-size e =
      let all : six_read domain kind flags rights object inherited sid ≡ Ok a = sym
      (six-are domain kind flags rights object inherited sid) ∙ e in
      let k = read-on (field_reads fault.Kind kind_reads kind)
      (from_kind domain kind flags rights object inherited sid) a all in
      let f = read-on (field_reads fault.Flags flags_reads flags)
      (after_kind domain kind flags rights object inherited sid k.value) a k.after in
      let m = read-on (field_reads fault.Rights rights_reads rights)
      (after_flags domain kind flags rights object inherited sid k.value f.value) a f.after in
      let o = read-on (field_reads fault.Guid (object_reads k.value) object)
      (after_rights domain kind flags rights object inherited sid k.value f.value m.value) a m.after in
      let i = read-on (field_reads fault.Guid (object_reads k.value) inherited)
      (after_object domain kind flags rights object inherited sid k.value f.value m.value o.value) a o.after in
      let s = read-on (sid_field_reads domain sid)
      (after_inherited domain kind flags rights object inherited sid k.value f.value m.value o.value i.value) a
      i.after in
      let made : AccessControlEntry = record {
        kind = k.value;
        flags = f.value;
        mask = m.value;
        object = o.value;
        inherited = i.value;
        sid = s.value;
      } in
      let same : made ≡ a = from-same made (Ok made) (Ok a) s.after in
      rw (
        kind-read kind k.value k.here,
        field-value fault.Guid (object_reads k.value) object o.value o.here,
        field-value fault.Guid (object_reads k.value) inherited i.value i.here,
        sid-value domain sid s.value s.here,
      ) (ap ace_size same)

cuts-size : (domain : Option SecurityId) (text : List ℕ) (cuts : List (List ℕ)) (a : AccessControlEntry)
    → ace_cuts text ≡ cuts → (length cuts == 6) ≡ true → ace_reads domain cuts ≡ Ok a → size_in domain text ≡ ace_size a
cuts-size domain text [] a same six e = absurd cc
cuts-size domain text (k ∷ []) a same six e = absurd cc
cuts-size domain text (k ∷ f ∷ []) a same six e = absurd cc
cuts-size domain text (k ∷ f ∷ m ∷ []) a same six e = absurd cc
cuts-size domain text (k ∷ f ∷ m ∷ o ∷ []) a same six e = absurd cc
cuts-size domain text (k ∷ f ∷ m ∷ o ∷ i ∷ []) a same six e = absurd cc
cuts-size domain text (k ∷ f ∷ m ∷ o ∷ i ∷ s ∷ []) a same six e = rw same (six-size domain k f m o i s a e)
cuts-size domain text (k ∷ f ∷ m ∷ o ∷ i ∷ s ∷ t ∷ more) a same six e = absurd (grind (arith, nat_tests))

passing-large : (domain : Option SecurityId) (body : List Piece) (number at size : ℕ) (es : List AccessControlEntry)
    → HaveSix (aces body) → size ≤ 65535 → aces_read domain (aces body) ≡ Ok es
    → is_some (passing domain size (aces_from number at body)) ≡ nat_lt 65535 (size + aces_size es)
passing-large domain [] number at size es six low e =
    let none : [] ≡ es = cc in rw (← none) (grind (arith, nat_tests))
passing-large domain (byte b ∷ ps) number at size es six low e =
    passing-large domain ps number (at + 1) size es six low e
passing-large domain (ace a ∷ ps) number at size es six low e =
    let r = each-on (λ t. ace_reads domain (ace_cuts t)) a (aces ps) es e in
    let here : size_in domain a ≡ ace_size r.first =
    cuts-size domain a (ace_cuts a) r.first refl (six-cuts (cut_at_semicolons a).others six.0) r.here in
    rw (← r.shape, here) (by_test (ace_size r.first) (record { number = number; at = at; text = a })
    (nat_lt 65535 (size + ace_size r.first)) refl r.others
    (λ low. passing-large domain ps (number + 1) (at + (length a + 2))
    (size + ace_size r.first) r.others six.1 low r.after))
  where
    six-cuts : (others : List (List ℕ)) → (length others == 5) ≡ true → (suc (length others) == 6) ≡ true
    six-cuts others h = grind (arith, nat_tests)

    by_test : (x : ℕ) (p : PlacedAce) (t : Bool) → nat_lt 65535 (size + x) ≡ t → (rest : List AccessControlEntry)
        → (size + x ≤ 65535 → is_some (passing domain (size + x) (aces_from (number + 1) (at + (length a + 2)) ps))
        ≡ nat_lt 65535 (size + x + aces_size rest))
        → is_some (if t then Some p else passing domain (size + x) (aces_from (number + 1) (at + (length a + 2)) ps))
        ≡ nat_lt 65535 (size + (x + aces_size rest))
    by_test x p true t rest more = grind (arith, nat_tests)
    by_test x p false t rest more = more (grind (arith, nat_tests)) ∙ ap (nat_lt 65535) (omega arith)

abbrev large_said : Said → Option Which
large_said (sid_said p s) = None
large_said (acl_said w f a) = if nat_lt 65535 (acl_part_size a) then Some w else None

first-or : (x : Said) (xs : List Said) → first_said (x ∷ xs) ≡ option_or (large_said x) (first_said xs)
first-or (sid_said p s) xs = refl
first-or (acl_said w f a) xs = by_test (nat_lt 65535 (acl_part_size a))
  where
    by_test : (b : Bool)
        → (if b then Some w else first_said xs) ≡ option_or (if b then Some w else None) (first_said xs)
    by_test true = refl
    by_test false = refl

abbrev too_large : Option Which → Option SddlFault
too_large large = option_map fault.AclTooLarge large

or-large : (x y : Option Which) → too_large (option_or x y) ≡ option_or (too_large x) (too_large y)
or-large None y = refl
or-large (Some w) y = refl

module _ (domain : Option SecurityId) (w : Which) (body : List Piece) (at : ℕ) (six : HaveSix (aces body)) where
  abbrev here_large : Option (SddlFault × FaultPlace)
  here_large = large_in domain at body (head.Acl w)

  passed : (o : Option PlacedAce) (b : Bool) → is_some o ≡ b
      → fault_at (option_map (λ a. (
        fault.AclTooLarge w,
        place (Some (part_of w)) (Some a.number) None a.at
            (length a.text + 2),
      )) o)
      ≡ too_large (if b then Some w else None)
  passed None true e = absurd cc
  passed None false e = refl
  passed (Some a) true e = refl
  passed (Some a) false e = absurd cc

  acl-large : (f : AclFront) (null : Bool) (a : AclPart) → acl_part_reads domain null body ≡ Ok a
      → fault_at here_large ≡ too_large (large_said (acl_said w f.flags a))
  unfolding acl_part_reads
  acl-large f true a e = by_aces (has_aces body) refl e
    where
      by_aces : (has : Bool) → has_aces body ≡ has → (if has then Err fault.Flags else Ok acl.Null) ≡ Ok a
          → fault_at here_large ≡ too_large (large_said (acl_said w f.flags a))
      by_aces true h k = absurd cc
      by_aces false h k =
          let same : acl.Null ≡ a = cc in rw (no-aces body 0 at h, ← same) refl
  acl-large f false a e =
      let r = read-on (aces_read domain (aces body)) (λ es. Ok (acl.List es)) a e in
      let same : acl.List r.value ≡ a = cc (r.after) in
      passed (passing domain 8 (aces_from 0 at body)) (nat_lt 65535 (8 + aces_size r.value))
      (passing-large domain body 0 at 8 r.value six (omega arith) r.here)
      ∙ ap (λ (p : AclPart). too_large (large_said (acl_said w f.flags p))) same

body-large : (domain : Option SecurityId) (h : Head) (body : List Piece) (at : ℕ) (x : Said) → is_body h body ≡ true
    → body_reads domain h body ≡ Ok x → fault_at (large_in domain at body h) ≡ too_large (large_said x)
unfolding body_reads
body-large domain (head.Sid p) body at x shaped e =
    let r = read-on (sid_field_reads domain (trim (front body))) (λ s. Ok (sid_said p s)) x e in
    let same : sid_said p r.value ≡ x = cc (r.after) in rw (← same) refl
body-large domain (head.Acl w) body at x shaped e =
    let f = read-on (field_reads fault.Flags front_reads (trim (front body)))
    (λ f. and_then (acl_part_reads domain f.null body) (λ a. Ok (acl_said w f.flags a))) x e in
    let a = read-on (acl_part_reads domain f.value.null body) (λ a. Ok (acl_said w f.value.flags a)) x f.after in
    let same : acl_said w f.value.flags a.value ≡ x = cc (a.after) in
    rw (← same) (acl-large domain w body at (acl-six body shaped) f.value f.value.null a.value a.here)

sections-large : (domain : Option SecurityId) (ss : List Section) (at : ℕ) (xs : List Said) → are_shaped ss ≡ true
    → each (section_reads domain) ss ≡ Ok xs
    → fault_at (first_large domain (placed at ss)) ≡ too_large (first_said xs)
sections-large domain [] at xs shaped e = let none : [] ≡ xs = cc in rw (← none) refl
sections-large domain (s ∷ ss) at xs shaped e =
    let parts = and_parts (is_body s.head s.body) _ shaped in
    let r = each-on (section_reads domain) s ss xs e in
    rw (← r.shape, first-or r.first r.others, or-large (large_said r.first) (first_said r.others))
    (or-fault (large_in domain (at + 2) s.body s.head) (first_large domain (placed (at + (pieces_size s.body + 2)) ss))
    ∙ rw (
      body-large domain s.head s.body (at + 2) r.first parts.0 r.here,
      sections-large domain ss (at + (pieces_size s.body + 2)) r.others parts.1 r.after,
    ) refl)

-- 6. The text.

sections-faults : (domain : Option SecurityId) (ss : List Section) (at : ℕ) → are_shaped ss ≡ true
    → fault_at (option_or (first_faulty domain (fields_in (placed at ss))) (first_large domain (placed at ss)))
    ≡ result_err (sections_mean domain ss)
sections-faults domain ss at shaped =
    or-fault (first_faulty domain (fields_in (placed at ss))) (first_large domain (placed at ss))
    ∙ rw (← sections-fault domain ss at shaped) (by_said (each (section_reads domain) ss) refl)
  where
    unless-large : (l : Option Which) (xs : List Said) → too_large l ≡ result_err (unless_large l (descriptor_of xs))
    unless-large None xs = refl
    unless-large (Some w) xs = refl

    by_said : (x : Found (List Said)) → each (section_reads domain) ss ≡ x
        → option_or (result_err x) (fault_at (first_large domain (placed at ss)))
        ≡ result_err (and_then x (λ xs. unless_large (first_said xs) (descriptor_of xs)))
    by_said (Err f) e = refl
    by_said (Ok xs) e = sections-large domain ss at xs shaped e ∙ unless-large (first_said xs) xs

pub same-fault : (text : List ℕ) (domain : Option SecurityId)
    → fault_at (place_of_sddl_fault text domain) ≡ result_err (means text domain)
unfolding means
same-fault text domain = by_shape (is_shaped text) refl
  where
    ss : List Section
    ss = (sections_of text).parts

    by_second : (o : Option FaultPlace) (twice : Bool) → is_some o ≡ twice → are_shaped (sections_of text).parts ≡ true
        → fault_at (option_or (option_map (λ p. (fault.PartTwice, p)) o) (option_or
        (first_faulty domain (fields_in (parts_in text))) (first_large domain (parts_in text))))
        ≡ result_err (if twice then Err fault.PartTwice else sections_mean domain (sections_of text).parts)
    by_second None true e shaped = absurd cc
    by_second (Some p) false e shaped = absurd cc
    by_second (Some p) true e shaped = refl
    by_second None false e shaped =
        sections-faults domain (sections_of text).parts (pieces_size (sections_of text).before) shaped

    by_shape : (shaped : Bool) → is_shaped text ≡ shaped
        → fault_at (if shaped then place_in_parts domain (parts_in text) else Some (fault.Shape, place_of_shape text))
        ≡ result_err (if not shaped then Err fault.Shape else (if has_twice (sections_of text).parts
        then Err fault.PartTwice else sections_mean domain (sections_of text).parts))
    by_shape false e = refl
    by_shape true e =
        by_second (second_head (each_part false) (parts_in text)) (has_twice (sections_of text).parts)
        (second-twice (sections_of text).parts (each_part false) (pieces_size (sections_of text).before)
        ∙ rw (none-seen (sections_of text).parts) refl) (line-shaped text e)

-- 7. The first field with a fault.

fault-step : (domain : Option SecurityId) (x : PlacedField) (xs : List PlacedField) (f : SddlFault) (at : FaultPlace)
    → (first_faulty domain xs ≡ Some (f, at) → IsFirstFault domain xs f at)
    → (o : Option SddlFault) → field_fault domain x ≡ o → if_faulty x.place (first_faulty domain xs) o ≡ Some (f, at)
    → IsFirstFault domain (x ∷ xs) f at
fault-step domain x xs f at more (Some g) n k =
    let both : (g, x.place) ≡ (f, at) = cc (k) in
    let same : g ≡ f = ap (λ (r : SddlFault × FaultPlace). r.0) both in
    record {
      before = [];
      faulty = x;
      after = xs;
      among = refl;
      sound = tt;
      named = rw (← same) n;
      placed = ap (λ
          (r : SddlFault × FaultPlace). r.1) both;
    }
fault-step domain x xs f at more None n k =
    let m = more k in record {
      before = x ∷ m.before;
      faulty = m.faulty;
      after = m.after;
      among = ap (λ (l : List PlacedField). x ∷ l) m.among;
      sound = (n, m.sound);
      named = m.named;
      placed = m.placed;
    }

pub first-fault : (domain : Option SecurityId) (fields : List PlacedField) (f : SddlFault) (at : FaultPlace)
    → first_faulty domain fields ≡ Some (f, at) → IsFirstFault domain fields f at
first-fault domain [] f at e = absurd cc
first-fault domain (x ∷ xs) f at e = fault-step domain x xs f at (first-fault domain xs f at)
    (field_fault domain x) refl e
