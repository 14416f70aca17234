-- Which parts are given, and which ACL is open, after one field more.
use Rattle.std.proofs.Common.{◌≡◌, ℕ, List, Option, Some, None, Bool, true, false, refl, ap, ◌∙◌, subst}
use Rattle.std.specs.Prelude.{if◌then◌else◌, ◌&&◌, IfOk, Result, Ok, Err}
use Rattle.sd_ace.specs.Ace.{AccessControlEntry}
use Rattle.sd_sid.specs.Sid.{SecurityId}
use Rattle.sd_kinds.specs.Flags.{flags_reads}
use Rattle.sd_rights.specs.Rights.{rights_reads}
use Rattle.sd_sid.specs.SidText.{sid_reads}
use Rattle.sd_sid.specs.declared.sid_text.SidFault.{SidFault}
use Rattle.sd_view.specs.declared.acl_part.AclPart.TheVariants as acl
use Rattle.sd_builder.specs.Draft.{DraftParts, IsOpen, IsOpenIn, acl_for, closed, closed_in, more_in, with_ace}
use Rattle.sd_sddl_builder.specs.Line.{same_head}
use Rattle.sd_sddl_builder.specs.FoldedReading.{FieldsRead, ace_of_fields, begun_or_null, fault_of}
use Rattle.sd_sddl_builder.specs.FoldedReading.{take_ace_field, take_field, take_front, take_readable, with_flags}
use Rattle.sd_sddl_builder.specs.FoldedReading.{with_owner_or_group, with_sid, with_trustee, with_value}
use Rattle.sd_sddl_builder.specs.Meaning.{is_unreadable}
use Rattle.sd_sddl_fields.specs.FieldTexts.{front_reads, kind_reads, object_reads}
use Rattle.sd_sddl_builder.specs.FieldReading.{Lacks}
use Rattle.sd_parts.specs.declared.control.AclFlags.{AclFlags}
use Rattle.sd_sddl_builder.specs.declared.fault.SddlFault.{SddlFault}
use Rattle.sd_sddl_builder.specs.declared.fault.SddlFault.TheVariants as fault
use Rattle.sd_sddl_builder.specs.declared.slot.AceField.{AceField}
use Rattle.sd_sddl_builder.specs.declared.slot.AceField.TheVariants as field
use Rattle.sd_sddl_builder.specs.declared.slot.Head.{Head}
use Rattle.sd_sddl_builder.specs.declared.slot.Head.TheVariants as head
use Rattle.sd_parts.specs.declared.part.SidPart.{SidPart}
use Rattle.sd_parts.specs.declared.part.SidPart.TheVariants as sid_part
use Rattle.sd_sddl_builder.specs.declared.slot.Slot.{Slot}
use Rattle.sd_sddl_builder.specs.declared.slot.Slot.TheVariants as slot
use Rattle.sd_ace.specs.declared.ace_parts.AceFields.{AceFields}
use Rattle.sd_sddl_fields.specs.declared.field_texts.AclFront.{AclFront}
use Rattle.sd_parts.specs.declared.part.Which.{Which}
use Rattle.sd_parts.specs.declared.part.Which.TheVariants as which

-- 1. The ACL at hand is closed into its part, and the other parts stay.

abbrev acl_in : DraftParts → Option (Which × List AccessControlEntry) → DraftParts
acl_in p o = record p { «open» = o }

-- no ACL is at hand then, and owner and group are as they were
pub record IsClosed (p q : DraftParts) : Type 0 where
  pub none : q.«open» ≡ None
  owner : q.owner ≡ p.owner
  group : q.group ≡ p.group

pub is-closed : (p : DraftParts) → IsClosed p (closed p)
is-closed p = cases p.«open»
  where
    listed : (w : Which) (aces : List AccessControlEntry) → IsClosed p (closed (acl_in p (Some (w, aces))))
    listed which.Sacl aces = record { none = refl; owner = refl; group = refl }
    listed which.Dacl aces = record { none = refl; owner = refl; group = refl }

    cases : (o : Option (Which × List AccessControlEntry)) → IsClosed p (closed (acl_in p o))
    cases None = record { none = refl; owner = refl; group = refl }
    cases (Some o) = listed o.0 o.1

-- an ACL where none is at hand
acl-as-is : (v : Which) (q : DraftParts) → q.«open» ≡ None → acl_for v (closed q) ≡ acl_for v q
acl-as-is v q none = ap (λ o. acl_for v (closed_in o q)) none

-- an owner or a group
acl-beside-sid : (p : DraftParts) (owner group : Option SecurityId) (v : Which)
    → acl_for v (closed (record (closed p) { owner = owner; group = group })) ≡ acl_for v (closed p)
acl-beside-sid p owner group v =
    acl-as-is v (record (closed p) { owner = owner; group = group }) (is-closed p).none ∙ same v
  where
    same : (v : Which) → acl_for v (record (closed p) { owner = owner; group = group }) ≡ acl_for v (closed p)
    same which.Sacl = refl
    same which.Dacl = refl

-- an ACL that begins
acl-beside-acl : (p : DraftParts) (w : Which) (null : Bool) (v : Which) → same_head (head.Acl w) (head.Acl v) ≡ false
    → acl_for v (closed (begun_or_null w null (closed p))) ≡ acl_for v (closed p)
acl-beside-acl p which.Sacl null which.Sacl e = absurd cc
acl-beside-acl p which.Dacl null which.Dacl e = absurd cc
acl-beside-acl p which.Sacl true which.Dacl e = acl-as-is which.Dacl (begun_or_null which.Sacl true (closed p))
    (is-closed p).none
acl-beside-acl p which.Dacl true which.Sacl e = acl-as-is which.Sacl (begun_or_null which.Dacl true (closed p))
    (is-closed p).none
acl-beside-acl p which.Sacl false which.Dacl e = refl
acl-beside-acl p which.Dacl false which.Sacl e = refl

owner-begun : (p : DraftParts) (w : Which) (null : Bool) → (begun_or_null w null p).owner ≡ p.owner
owner-begun p w false = refl
owner-begun p which.Sacl true = refl
owner-begun p which.Dacl true = refl

group-begun : (p : DraftParts) (w : Which) (null : Bool) → (begun_or_null w null p).group ≡ p.group
group-begun p w false = refl
group-begun p which.Sacl true = refl
group-begun p which.Dacl true = refl

-- one ACE more in the ACL at hand
absent-with_ace : (p : DraftParts) (a : AccessControlEntry) (v : Which) → acl_for v (closed p) ≡ acl.Absent
    → acl_for v (closed (with_ace a p)) ≡ acl.Absent
absent-with_ace p a v e = cases p.«open» v e
  where
    listed : (w : Which) (aces : List AccessControlEntry) (v : Which)
        → acl_for v (closed (acl_in p (Some (w, aces)))) ≡ acl.Absent
        → acl_for v (closed (with_ace a (acl_in p (Some (w, aces))))) ≡ acl.Absent
    listed which.Sacl aces which.Sacl e = absurd cc
    listed which.Sacl aces which.Dacl e = e
    listed which.Dacl aces which.Sacl e = e
    listed which.Dacl aces which.Dacl e = absurd cc

    cases : (o : Option (Which × List AccessControlEntry)) (v : Which) → acl_for v (closed (acl_in p o)) ≡ acl.Absent
        → acl_for v (closed (with_ace a (acl_in p o))) ≡ acl.Absent
    cases None v e = e
    cases (Some o) v e = listed o.0 o.1 v e

open-with_ace : (p : DraftParts) (a : AccessControlEntry) → IsOpen p → IsOpen (with_ace a p)
open-with_ace p a o = cases p.«open» o
  where
    cases : (x : Option (Which × List AccessControlEntry)) → IsOpenIn x → IsOpenIn (more_in a x)
    cases None o = o
    cases (Some p) o = tt

-- 2. A field gives no part but its own.

-- the part that a field gives
abbrev pub fills : Slot → Head → Bool
fills (slot.Sid p) h = same_head (head.Sid p) h
fills (slot.AclFlags w has_aces) h = same_head (head.Acl w) h
fills (slot.Ace f) h = false

lacks-sid : (r : FieldsRead) (p : SidPart) (s : SecurityId) (h : Head) → same_head (head.Sid p) h ≡ false → Lacks h r
    → Lacks h (with_owner_or_group p r s)
lacks-sid r sid_part.Owner s (head.Sid sid_part.Owner) e l = absurd cc
lacks-sid r sid_part.Owner s (head.Sid sid_part.Group) e l = (is-closed r.parts).group ∙ l
lacks-sid r sid_part.Owner s (head.Acl v) e l = acl-beside-sid r.parts (Some s) (closed r.parts).group v ∙ l
lacks-sid r sid_part.Group s (head.Sid sid_part.Owner) e l = (is-closed r.parts).owner ∙ l
lacks-sid r sid_part.Group s (head.Sid sid_part.Group) e l = absurd cc
lacks-sid r sid_part.Group s (head.Acl v) e l = acl-beside-sid r.parts (closed r.parts).owner (Some s) v ∙ l

lacks-front : (r : FieldsRead) (w : Which) (f : AclFront) (h : Head) → same_head (head.Acl w) h ≡ false → Lacks h r
    → Lacks h (with_flags w f.flags (record r { parts = begun_or_null w f.null (closed r.parts) }))
lacks-front r which.Sacl f (head.Sid sid_part.Owner) e l = owner-begun (closed r.parts) which.Sacl f.null
    ∙ ((is-closed r.parts).owner ∙ l)
lacks-front r which.Sacl f (head.Sid sid_part.Group) e l = group-begun (closed r.parts) which.Sacl f.null
    ∙ ((is-closed r.parts).group ∙ l)
lacks-front r which.Sacl f (head.Acl v) e l = acl-beside-acl r.parts which.Sacl f.null v e ∙ l
lacks-front r which.Dacl f (head.Sid sid_part.Owner) e l = owner-begun (closed r.parts) which.Dacl f.null
    ∙ ((is-closed r.parts).owner ∙ l)
lacks-front r which.Dacl f (head.Sid sid_part.Group) e l = group-begun (closed r.parts) which.Dacl f.null
    ∙ ((is-closed r.parts).group ∙ l)
lacks-front r which.Dacl f (head.Acl v) e l = acl-beside-acl r.parts which.Dacl f.null v e ∙ l

lacks-trustee : (r : FieldsRead) (s : SecurityId) (h : Head) → Lacks h r → Lacks h (with_trustee r s)
lacks-trustee r s (head.Sid sid_part.Owner) l = l
lacks-trustee r s (head.Sid sid_part.Group) l = l
lacks-trustee r s (head.Acl v) l = absent-with_ace r.parts (ace_of_fields r.ace s) v l

-- what holds of each reading with a value holds of the one that is found
module _ (P : FieldsRead → Type 0) (u : FieldsRead) where
  pub if-ok : (x : Result FieldsRead SddlFault) → IfOk x P → x ≡ Ok u → P u
  if-ok x k e = subst (λ (y : Result FieldsRead SddlFault). IfOk y P) e k

  if-sid : (with : SecurityId → FieldsRead) (x : Result SecurityId SidFault) → ((s : SecurityId) → P (with s))
      → with_sid with x ≡ Ok u → P u
  if-sid with x k e = if-ok (with_sid with x) (cases x) e
    where
      cases : (x : Result SecurityId SidFault) → IfOk (with_sid with x) P
      cases (Ok s) = k s
      cases (Err f) = tt

  if-value : {A : Type 0} (f : SddlFault) (with : A → FieldsRead) (x : Option A) → ((y : A) → P (with y))
      → with_value f with x ≡ Ok u → P u
  if-value {A} f with x k e = if-ok (with_value f with x) (cases x) e
    where
      cases : (x : Option A) → IfOk (with_value f with x) P
      cases None = tt
      cases (Some y) = k y

  if-front : (w : Which) (has_aces : Bool) (r : FieldsRead) (x : Option AclFront)
      → ((f : AclFront) → (f.null && has_aces) ≡ false
      → P (with_flags w f.flags (record r { parts = begun_or_null w f.null (closed r.parts) })))
      → take_front w has_aces r x ≡ Ok u → P u
  unfolding take_front
  if-front w has_aces r x k e = if-ok (take_front w has_aces r x) (cases x) e
    where
      by_test : (f : AclFront) (b : Bool) → (f.null && has_aces) ≡ b
          → IfOk (if b then Err fault.Flags else Ok
          (with_flags w f.flags (record r { parts = begun_or_null w f.null (closed r.parts) }))) P
      by_test f true e = tt
      by_test f false e = k f e

      cases : (x : Option AclFront) → IfOk (take_front w has_aces r x) P
      cases None = tt
      cases (Some f) = by_test f (f.null && has_aces) refl

readable : (domain : Option SecurityId) (r u : FieldsRead) (s : Slot) (text : List ℕ)
    → take_field domain r s text ≡ Ok u → take_readable domain r s text ≡ Ok u
unfolding take_field
readable domain r u s text e = by_test (is_unreadable text) refl
  where
    by_test : (b : Bool) → is_unreadable text ≡ b → take_readable domain r s text ≡ Ok u
    by_test true f = absurd (let no : Err (fault_of s) ≡ Ok u = (rw f at e) in cc)
    by_test false f = (rw f at e)

ace_field : (P : FieldsRead → Type 0) (domain : Option SecurityId) (r u : FieldsRead) (f : AceField) (text : List ℕ)
    → ((a : AceFields) → P (record r { ace = a })) → ((s : SecurityId) → P (with_trustee r s))
    → take_ace_field domain r f text ≡ Ok u → P u
unfolding take_ace_field
ace_field P domain r u field.Kind text k l e = if-value P u _ _ (kind_reads text) (λ x. k _) e
ace_field P domain r u field.Flags text k l e = if-value P u _ _ (flags_reads text) (λ x. k _) e
ace_field P domain r u field.Rights text k l e = if-value P u _ _ (rights_reads text) (λ x. k _) e
ace_field P domain r u field.Object text k l e = if-value P u _ _ (object_reads r.ace.kind text) (λ x. k _) e
ace_field P domain r u field.Inherited text k l e = if-value P u _ _ (object_reads r.ace.kind text) (λ x. k _) e
ace_field P domain r u field.Sid text k l e = if-sid P u _ (sid_reads text domain) l e

pub lacks-taken : (domain : Option SecurityId) (r u : FieldsRead) (s : Slot) (text : List ℕ) (h : Head)
    → take_field domain r s text ≡ Ok u → fills s h ≡ false → Lacks h r → Lacks h u
lacks-taken domain r u (slot.Sid p) text h e g l =
    if-sid (λ x. Lacks h x) u (with_owner_or_group p r) (sid_reads text domain) (λ s. lacks-sid r p s h g l)
    (readable domain r u (slot.Sid p) text e)
lacks-taken domain r u (slot.AclFlags w has_aces) text h e g l =
    if-front (λ x. Lacks h x) u w has_aces r (front_reads text) (λ f _. lacks-front r w f h g l)
    (readable domain r u (slot.AclFlags w has_aces) text e)
lacks-taken domain r u (slot.Ace f) text h e g l =
    ace_field (λ x. Lacks h x) domain r u f text (λ a. same a h l) (λ s. lacks-trustee r s h l)
    (readable domain r u (slot.Ace f) text e)
  where
    same : (a : AceFields) (h : Head) → Lacks h r → Lacks h (record r { ace = a })
    same a (head.Sid sid_part.Owner) l = l
    same a (head.Sid sid_part.Group) l = l
    same a (head.Acl v) l = l

-- an ACL whose first parenthesis comes is open
pub open-front : (domain : Option SecurityId) (r u : FieldsRead) (w : Which) (text : List ℕ)
    → take_field domain r (slot.AclFlags w true) text ≡ Ok u → IsOpen u.parts
open-front domain r u w text e =
    if-front (λ x. IsOpen x.parts) u w true r (front_reads text) (λ f n. begins f.null f.flags n)
    (readable domain r u (slot.AclFlags w true) text e)
  where
    with_w : (w : Which) (flags : AclFlags) (p : DraftParts) → IsOpen p
        → IsOpen (with_flags w flags (record r { parts = p })).parts
    with_w which.Sacl flags p o = o
    with_w which.Dacl flags p o = o

    begins : (null : Bool) (flags : AclFlags) → (null && true) ≡ false
        → IsOpen (with_flags w flags (record r { parts = begun_or_null w null (closed r.parts) })).parts
    begins true flags n = absurd cc
    begins false flags n = with_w w flags _ tt

-- and stays so within its ACEs
pub open-taken : (domain : Option SecurityId) (r u : FieldsRead) (f : AceField) (text : List ℕ)
    → take_field domain r (slot.Ace f) text ≡ Ok u → IsOpen r.parts → IsOpen u.parts
open-taken domain r u f text e o =
    ace_field (λ x. IsOpen x.parts) domain r u f text (λ a. o) (λ s. open-with_ace r.parts (ace_of_fields r.ace s) o)
    (readable domain r u (slot.Ace f) text e)
