-- Printed parts read back: ACEs one after the other, ACLs, owners and groups.
use Rattle.std.proofs.Common.{◌≡◌, ◌<◌, ℕ, ◌+◌, ◌^◌, Bool, true, false, List, [], ◌∷◌, ◌++◌, map, Option, Some, None}
use Rattle.std.proofs.Common.{Result, Ok, refl, ap, sym, ◌∙◌, arith, append-nil, append_assoc}
use Rattle.std.specs.Prelude.{IfSome, nat_lt}
use Rattle.std.specs.List.{AllByRecursion, flat_map}
use Rattle.std.proofs.lemmas.Bool.Decides.{nat_tests}
use Rattle.sd_ace.specs.Ace.{AccessControlEntry, GuidsFit, IsAce, IsGuid}
use Rattle.sd_kinds.specs.Kinds.{is_object}
use Rattle.sd_sid.specs.Sid.{IsSid, SecurityId}
use Rattle.sd_acl_view.specs.Acl.{acl_size, aces_size}
use Rattle.sd_view.specs.Descriptor.{IsAclPart}
use Rattle.sd_view.specs.declared.acl_part.AclPart.{AclPart}
use Rattle.sd_view.specs.declared.acl_part.AclPart.TheVariants as acl
use Rattle.sd_parts.specs.declared.control.AclFlags.{AclFlags}
use Rattle.sd_sddl_builder.specs.declared.fault.SddlFault.{SddlFault}
use Rattle.sd_sddl_builder.specs.declared.slot.AceField.TheVariants as field
use Rattle.sd_sddl_builder.specs.declared.slot.Head.TheVariants as head
use Rattle.sd_parts.specs.declared.part.SidPart.{SidPart}
use Rattle.sd_sddl_builder.specs.declared.slot.Slot.TheVariants as slot
use Rattle.sd_sid.specs.declared.naming.Naming.{Naming}
use Rattle.sd_ace.specs.declared.ace_parts.AceFields.{AceFields}
use Rattle.sd_parts.specs.declared.part.Which.{Which}
use Rattle.sd_parts.specs.declared.part.Which.TheVariants as which
use Rattle.sd_builder.specs.Draft.{DraftParts, begun, closed, with_ace, with_acl}
use Rattle.sd_sddl_builder.specs.FoldedReading.{Field, FieldsRead, ace_fields, grown, large_in, no_fields, read_fields}
use Rattle.sd_sddl_builder.specs.FoldedReading.{take_field, with_flags, with_owner_or_group, with_trustee}
use Rattle.sd_sddl_builder.specs.Line.{ace, byte, has_aces}
use Rattle.sd_text.specs.Chains.{and_then}
use Rattle.std.specs.Option.{option_or}
use Rattle.sd_sddl_fields.proofs.laws.FlagRuns.{or-none}
use Rattle.sd_sddl_printer.specs.Printed.{trustee_text}
use Rattle.sd_sddl_builder.proofs.laws.FoldedSections.{read-append}
use Rattle.sd_sddl_printer.proofs.AceTexts.{field_at, inner-fields, inner_text, inner_text-is}
use Rattle.sd_sddl_printer.proofs.FieldsBack.{front_text, front_text-plain, null_front_text, null_front_text-plain}
use Rattle.sd_sddl_printer.proofs.FieldsBack.{take-flags, take-inherited, take-kind, take-list, take-null, take-object}
use Rattle.sd_sddl_printer.proofs.FieldsBack.{take-rights, take-sid, take-trustee}
use Rattle.sd_sddl_printer.proofs.LineCuts.{Body, IsInner, IsPart}
use Rattle.sd_sddl_printer.proofs.LineFields.{listed_parts, part_fields, text-no_aces}
use Rattle.sd_sddl_printer.proofs.PlainTexts.{trustee-plain}

-- 1. Fields one after the other.

-- fields that are read, before others
pub read-on : (domain : Option SecurityId) (fs gs : List Field) (r after : FieldsRead)
    → read_fields domain fs r ≡ Ok after
    → read_fields domain (fs ++ gs) r ≡ read_fields domain gs after
read-on domain fs gs r after e = read-append domain fs gs r
    ∙ ap (λ (t : Result FieldsRead SddlFault). and_then t (read_fields domain gs)) e

TakesField : Option SecurityId → Field → FieldsRead → FieldsRead → Type 0
TakesField domain f r after = take_field domain r f.slot f.text ≡ Ok after

read-one : (domain : Option SecurityId) (f : Field) (r after : FieldsRead) → TakesField domain f r after
    → read_fields domain (f ∷ []) r ≡ Ok after
unfolding TakesField
read-one domain f r after e = ap (λ (t : Result FieldsRead SddlFault). and_then t (read_fields domain [])) e

read-six : (domain : Option SecurityId) (k f m o i s : Field) (r0 r1 r2 r3 r4 r5 r6 : FieldsRead)
    → TakesField domain k r0 r1 → TakesField domain f r1 r2 → TakesField domain m r2 r3 → TakesField domain o r3 r4
    → TakesField domain i r4 r5
    → TakesField domain s r5 r6
    → read_fields domain (k ∷ f ∷ m ∷ o ∷ i ∷ s ∷ []) r0 ≡ Ok r6
unfolding TakesField
read-six domain k f m o i s r0 r1 r2 r3 r4 r5 r6 h1 h2 h3 h4 h5 h6 = rw (h1, h2, h3, h4, h5, h6) refl

-- 2. An ACE.

object-fits : (b : Bool) (o i : Option (List ℕ)) → GuidsFit b o i → IfSome o IsGuid
    → IfSome o (λ g. (b ≡ true) × IsGuid g)
object-fits b None i h k = tt
object-fits true (Some g) i h k = (refl, k)
object-fits false (Some g) i h k = absurd h

inherited-fits : (b : Bool) (o i : Option (List ℕ)) → GuidsFit b o i → IfSome i IsGuid
    → IfSome i (λ g. (b ≡ true) × IsGuid g)
inherited-fits b o None h k = tt
inherited-fits true o (Some g) h k = (refl, k)
inherited-fits false None (Some g) h k = absurd h
inherited-fits false (Some o) (Some g) h k = absurd h

abbrev fields_of_ace : AccessControlEntry → AceFields
fields_of_ace a = record { kind = a.kind; flags = a.flags; mask = a.mask; object = a.object; inherited = a.inherited }

abbrev with_fields : AceFields → FieldsRead → FieldsRead
with_fields f r = record r { ace = f }

-- an ACL that is open, with its ACEs so far
abbrev opened : Which → List AccessControlEntry → FieldsRead → FieldsRead
opened w done r = record r { parts = record r.parts { «open» = Some (w, done) } }

not-large : (w : Which) (aces : List AccessControlEntry) → acl_size aces < 2 ^ 16 → large_in (Some (w, aces)) ≡ None
not-large w aces small = let no : nat_lt 65535 (acl_size aces) ≡ false = grind (arith, nat_tests) in rw no refl

grown-open : (w : Which) (done : List AccessControlEntry) (a : AccessControlEntry) (r : FieldsRead)
    → acl_size (done ++ a ∷ []) < 2 ^ 16
    → grown (opened w done r) (with_ace a (opened w done r).parts) ≡ opened w (done ++ a ∷ []) r
grown-open w done a r small =
    ap (λ (l : Option Which). record (opened w (done ++ a ∷ []) r) { large = l })
    (ap (option_or r.large) (not-large w (done ++ a ∷ []) small) ∙ or-none r.large)

ace-back : (naming : Naming) (w : Which) (done : List AccessControlEntry) (a : AccessControlEntry) (r : FieldsRead)
    → IsAce a → acl_size (done ++ a ∷ []) < 2 ^ 16
    → read_fields naming.domain (ace_fields (inner_text naming a)) (opened w done r) ≡ Ok
    (opened w (done ++ a ∷ []) (with_fields (fields_of_ace a) r))
unfolding TakesField
ace-back naming w done a r h small =
    let domain = naming.domain in
    let at = field_at naming a in
    -- the fields so far, and the reading with them
    let kind = record no_fields { kind = a.kind } in
    let flags = record kind { flags = a.flags } in
    let mask = record flags { mask = a.mask } in
    let object = record mask { object = a.object } in
    let whole = fields_of_ace a in
    let here = λ (f : AceFields). opened w done (with_fields f r) in
    -- the steps
    let start = opened w done r in
    let end = with_trustee (here whole) a.sid in
    let to_kind = take-kind domain start a.kind in
    let to_flags = take-flags domain (here kind) a.flags h.flags h.clear in
    let to_mask = take-rights domain (here flags) a.kind a.mask h.mask in
    let to_object = take-object domain (here mask) a.object
    (object-fits (is_object a.kind) a.object a.inherited h.fit h.object) in
    let to_inherited = take-inherited domain (here object) a.inherited
    (inherited-fits (is_object a.kind) a.object a.inherited h.fit h.inherited) in
    let to_end = take-trustee naming (here whole) a.sid h.sid in
    let read =
    read-six domain (at field.Kind) (at field.Flags) (at field.Rights) (at field.Object) (at field.Inherited)
    (at field.Sid)
    start (here kind) (here flags) (here mask) (here object) (here whole) end
    to_kind to_flags to_mask to_object to_inherited to_end in
    ap (λ (fs : List Field). read_fields domain fs start) (inner-fields naming a h) ∙ read
    ∙ ap (λ (x : FieldsRead). Ok x) (grown-open w done a (with_fields whole r) small)

-- 3. The ACEs of an ACL.

-- the fields of the last ACE
abbrev last_fields : AceFields → List AccessControlEntry → AceFields
last_fields f [] = f
last_fields f (a ∷ others) = last_fields (fields_of_ace a) others

size-append : (xs ys : List AccessControlEntry) → aces_size (xs ++ ys) ≡ aces_size xs + aces_size ys
size-append [] ys = omega arith
size-append (a ∷ others) ys = omega (arith, size-append others ys)

aces-back : (naming : Naming) (w : Which) (done aces : List AccessControlEntry) (r : FieldsRead)
    → AllByRecursion IsAce aces → acl_size (done ++ aces) < 2 ^ 16
    → read_fields naming.domain (flat_map ace_fields (map (inner_text naming) aces)) (opened w done r) ≡ Ok
    (opened w (done ++ aces) (with_fields (last_fields r.ace aces) r))
aces-back naming w done [] r h small = ap (λ (x : List AccessControlEntry). Ok (opened w x r)) (sym (append-nil done))
aces-back naming w done (a ∷ others) r h small =
    let more = done ++ a ∷ [] in
    let after = with_fields (fields_of_ace a) r in
    let same : more ++ others ≡ done ++ a ∷ others = append_assoc done (a ∷ []) others in
    let fits : acl_size (more ++ others) < 2 ^ 16 = rw same small in
    let first = ace-back naming w done a r h.0 (omega (arith, fits, size-append more others)) in
    let rest = flat_map ace_fields (map (inner_text naming) others) in
    read-on naming.domain (ace_fields (inner_text naming a)) rest (opened w done r) (opened w more after) first
    ∙ aces-back naming w more others after h.1 fits
    ∙ ap (λ (x : List AccessControlEntry). Ok (opened w x (with_fields (last_fields (fields_of_ace a) others) r))) same

-- 4. Owner and group.

abbrev pub sid_body : Naming → Option SecurityId → Option Body
sid_body naming None = None
sid_body naming (Some s) = Some (record { text = trustee_text naming s; inners = [] })

abbrev pub with_sid_part : SidPart → Option SecurityId → FieldsRead → FieldsRead
with_sid_part p None r = r
with_sid_part p (Some s) r = with_owner_or_group p r s

pub sid-back : (naming : Naming) (p : SidPart) (o : Option SecurityId) (r : FieldsRead) → IfSome o IsSid
    → read_fields naming.domain (flat_map part_fields (listed_parts (head.Sid p) (sid_body naming o))) r ≡ Ok
    (with_sid_part p o r)
unfolding TakesField
sid-back naming p None r h = refl
sid-back naming p (Some s) r h =
    read-one naming.domain (record { slot = slot.Sid p; text = trustee_text naming s }) r (with_owner_or_group p r s)
    (take-sid naming r p s h)

pub sid-is_part : (naming : Naming) (p : SidPart) (o : Option SecurityId) → IfSome o IsSid
    → AllByRecursion IsPart (listed_parts (head.Sid p) (sid_body naming o))
sid-is_part naming p None h = tt
sid-is_part naming p (Some s) h = (record { plain = trustee-plain naming s h; inners = tt; may_hold = refl }, tt)

-- 5. ACLs.

abbrev pub acl_body : Naming → AclFlags → AclPart → Option Body
acl_body naming f acl.Absent = None
acl_body naming f acl.Null = Some (record { text = null_front_text f; inners = [] })
acl_body naming f (acl.List aces) = Some (record { text = front_text f; inners = map (inner_text naming) aces })

-- an ACL begins, and the one before it is closed
abbrev begun_acl : Which → AclFlags → FieldsRead → FieldsRead
begun_acl w f r = with_flags w f (record r { parts = closed r.parts })

abbrev pub with_acl_part : Which → AclFlags → AclPart → FieldsRead → FieldsRead
with_acl_part w f acl.Absent r = r
with_acl_part w f acl.Null r = with_flags w f (record r { parts = with_acl w acl.Null (closed r.parts) })
with_acl_part w f (acl.List aces) r = opened w aces
    (with_fields (last_fields (begun_acl w f r).ace aces) (begun_acl w f r))

first-opened : (w : Which) (f : AclFlags) (r : FieldsRead) (t : DraftParts)
    → with_flags w f (record r { parts = begun w t }) ≡ opened w [] (with_flags w f (record r { parts = t }))
first-opened which.Sacl f r t = refl
first-opened which.Dacl f r t = refl

pub acl-back : (naming : Naming) (w : Which) (f : AclFlags) (present : Bool) (part : AclPart) (r : FieldsRead)
    → IsAclPart present part
    → read_fields naming.domain (flat_map part_fields (listed_parts (head.Acl w) (acl_body naming f part))) r ≡ Ok
    (with_acl_part w f part r)
unfolding TakesField
acl-back naming w f present acl.Absent r h = refl
acl-back naming w f present acl.Null r h =
    let has = has_aces (map byte (null_front_text f) ++ []) in
    let front : Field = record { slot = slot.AclFlags w has; text = null_front_text f } in
    read-one naming.domain front r (with_acl_part w f acl.Null r)
    (take-null naming.domain r w has f (text-no_aces (null_front_text f)))
acl-back naming w f present (acl.List aces) r h =
    let inners = map (inner_text naming) aces in
    let has = has_aces (map byte (front_text f) ++ map ace inners) in
    let front : Field = record { slot = slot.AclFlags w has; text = front_text f } in
    let start = opened w [] (begun_acl w f r) in
    let first = take-list naming.domain r w has f
    ∙ ap (λ (x : FieldsRead). Ok x) (first-opened w f r (closed r.parts)) in
    ap (λ (fs : List Field). read_fields naming.domain (front ∷ fs) r) (append-nil (flat_map ace_fields inners))
    ∙ read-on naming.domain (front ∷ []) (flat_map ace_fields inners) r start
    (read-one naming.domain front r start first)
    ∙ aces-back naming w [] aces (begun_acl w f r) h.1.each h.1.fits

inners-are : (naming : Naming) (aces : List AccessControlEntry) → AllByRecursion IsAce aces
    → AllByRecursion IsInner (map (inner_text naming) aces)
inners-are naming [] h = tt
inners-are naming (a ∷ others) h = (inner_text-is naming a h.0, inners-are naming others h.1)

pub acl-is_part : (naming : Naming) (w : Which) (f : AclFlags) (present : Bool) (part : AclPart)
    → IsAclPart present part
    → AllByRecursion IsPart (listed_parts (head.Acl w) (acl_body naming f part))
acl-is_part naming w f present acl.Absent h = tt
acl-is_part naming w f present acl.Null h = (record { plain = null_front_text-plain f; inners = tt; may_hold = tt }, tt)
acl-is_part naming w f present (acl.List aces) h =
    (record { plain = front_text-plain f; inners = inners-are naming aces h.1.each; may_hold = tt }, tt)
