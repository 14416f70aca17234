-- SDDL has at most eight characters for each byte of the written descriptor, and 63.
use Rattle.std.proofs.Common.{◌≡◌, ◌≤◌, ◌<◌, ℕ, ◌+◌, ◌*◌, ◌^◌, Bool, true, false, cond, List, [], ◌∷◌, ◌++◌, length}
use Rattle.std.proofs.Common.{Option, Some, None, refl, arith, length-append}
use Rattle.std.specs.Prelude.{IfSome, codes}
use Rattle.std.specs.List.{flat_map, AllByRecursion}
use Rattle.sd_ace.specs.Ace.{AccessControlEntry, IsAce, ace_size, guid_size}
use Rattle.sd_kinds.specs.Kinds.{is_object}
use Rattle.sd_kinds.specs.Flags.{flags_text}
use Rattle.sd_rights.specs.Rights.{rights_text}
use Rattle.sd_sid.specs.Sid.{SecurityId, IsSid}
use Rattle.sd_sid.specs.SidText.{alias_of, sid_text}
use Rattle.sd_kinds.specs.declared.kinds.AceKind.{AceKind}
use Rattle.sd_kinds.proofs.laws.KindLaws.{letters-few}
use Rattle.sd_ace.proofs.laws.AceSizes.{offset-low}
use Rattle.sd_sid.proofs.laws.AliasNames.{IsName, alias_of-IsName}
use Rattle.sd_kinds.proofs.laws.FlagLaws.{flags_text-length}
use Rattle.sd_ace.proofs.laws.GuidTexts.{guid_text-length}
use Rattle.sd_rights.proofs.laws.RightsLaws.{rights_text-length}
use Rattle.sd_sid.proofs.laws.TextLaws.{length-sid_text}
use Rattle.sd_acl_view.specs.Acl.{aces_size}
use Rattle.sd_parts.specs.Control.{acl_flags, dacl_present, sacl_present}
use Rattle.sd_view.specs.Descriptor.{Descriptor, IsAclPart, IsDescriptor}
use Rattle.sd_view.specs.Layout.{acl_part_size, sid_part_size, size}
use Rattle.sd_view.specs.declared.acl_part.AclPart.{AclPart}
use Rattle.sd_view.specs.declared.acl_part.AclPart.TheVariants as acl
use Rattle.sd_sid.specs.declared.naming.Naming.{Naming}
use Rattle.sd_parts.specs.declared.part.Which.TheVariants as which
use Rattle.sd_parts.specs.declared.control.AclFlags.{AclFlags}
use Rattle.std.specs.Option.{unwrap_or}
use Rattle.sd_sddl_printer.specs.Printed.{ace_text, acl_flags_text, acl_text, dacl_text, flags_field, group_text}
use Rattle.sd_sddl_printer.specs.Printed.{kind_field, kind_text, object_field, object_text, owner_text, rights_field}
use Rattle.sd_sddl_printer.specs.Printed.{sacl_text, sddl, sid_text_of, text_if, trustee_field, trustee_text}

-- a SID takes at most 18 characters, and 11 for each sub-authority
named-length : (o : Option (List ℕ)) (text : List ℕ) (n : ℕ) → IsName o → 2 ≤ n → length text ≤ n
    → length (unwrap_or o text) ≤ n
named-length None text n h low k = k
named-length (Some name) text n h low k = omega (arith, h)

pub trustee-length : (naming : Naming) (s : SecurityId) → IsSid s
    → length (trustee_text naming s) ≤ 18 + 11 * length s.subs
unfolding trustee_text
trustee-length naming s h = by_naming naming.numeric
  where
    by_naming : (b : Bool)
        → length (unwrap_or (cond b None (alias_of s naming.domain)) (sid_text s)) ≤ 18 + 11 * length s.subs
    by_naming true = length-sid_text s h
    by_naming false = named-length (alias_of s naming.domain) (sid_text s) (18 + 11 * length s.subs)
        (alias_of-IsName s naming.domain) (omega arith) (length-sid_text s h)

-- an ACE takes at most eight characters a byte
pub kind-length : (kind : AceKind) → length (kind_text kind) ≤ 2
kind-length kind = (letters-few kind).1

object-length : (o : Option (List ℕ)) → length (object_text o) ≤ 3 * guid_size o
object-length None = omega arith
object-length (Some g) = let n = guid_text-length g in omega (arith, n)

-- the six fields
kind_field-length : (kind : AceKind) → length (kind_field kind) ≤ 4
unfolding kind_field
kind_field-length kind = let n = kind-length kind in omega (arith, n, length-append (kind_text kind) (codes ";"))

flags_field-length : (flags : ℕ) → length (flags_field flags) ≤ 15
unfolding flags_field
flags_field-length flags = let n = flags_text-length
    flags in omega (arith, n, length-append (flags_text flags) (codes ";"))

rights_field-length : (kind : AceKind) (mask : ℕ) → mask < 2 ^ 32 → length (rights_field kind mask) ≤ 35
unfolding rights_field
rights_field-length kind mask h = let n = rights_text-length kind mask
    h in omega (arith, n, length-append (rights_text kind mask) (codes ";"))

object_field-length : (o : Option (List ℕ)) → length (object_field o) ≤ 3 * guid_size o + 1
unfolding object_field
object_field-length o = let n = object-length o in omega (arith, n, length-append (object_text o) (codes ";"))

trustee_field-length : (naming : Naming) (s : SecurityId) → IsSid s
    → length (trustee_field naming s) ≤ 19 + 11 * length s.subs
unfolding trustee_field
trustee_field-length naming s h = let n = trustee-length naming s
    h in omega (arith, n, length-append (trustee_text naming s) (codes ")"))

ace-length : (naming : Naming) (a : AccessControlEntry) → IsAce a → length (ace_text naming a) ≤ 8 * ace_size a
unfolding ace_text
ace-length naming a h =
    let kind = kind_field a.kind in
    let flags = flags_field a.flags in
    let rights = rights_field a.kind a.mask in
    let object = object_field a.object in
    let inherited = object_field a.inherited in
    let trustee = trustee_field naming a.sid in
    let low = offset-low (is_object a.kind) a.object a.inherited h.fit in
    let front = length-append kind flags in
    let middle = length-append rights object in
    let back = length-append inherited trustee in
    let others = length-append (rights ++ object) (inherited ++ trustee) in
    let whole = length-append (kind ++ flags) ((rights ++ object) ++ (inherited ++ trustee)) in
    omega (
      arith,
      low,
      front,
      middle,
      back,
      others,
      whole,
      kind_field-length a.kind,
      flags_field-length a.flags,
      rights_field-length a.kind a.mask h.mask,
      object_field-length a.object,
      object_field-length a.inherited,
      trustee_field-length naming a.sid h.sid,
    )

aces-length : (naming : Naming) (aces : List AccessControlEntry) → AllByRecursion IsAce aces
    → length (flat_map (ace_text naming) aces) ≤ 8 * aces_size aces
aces-length naming [] h = omega arith
aces-length naming (a ∷ others) h =
    let whole = length-append (ace_text naming a) (flat_map (ace_text naming) others) in
    omega (arith, whole, ace-length naming a h.0, aces-length naming others h.1)

-- an ACL takes that, and at most 24 characters more
text_if-length : (b : Bool) (text : List ℕ) → length (text_if b text) ≤ length text
text_if-length true text = omega arith
text_if-length false text = omega arith

pub flags-length : (f : AclFlags) → length (acl_flags_text f) ≤ 5
unfolding acl_flags_text
flags-length f =
    let p = f.protected in
    let r = f.auto_inherit_required in
    let i = f.auto_inherited in
    let back = length-append (text_if r (codes "AR")) (text_if i (codes "AI")) in
    let whole = length-append (text_if p (codes "P")) (text_if r (codes "AR") ++ text_if i (codes "AI")) in
    omega (
      arith,
      back,
      whole,
      text_if-length p (codes "P"),
      text_if-length r (codes "AR"),
      text_if-length i (codes "AI"),
    )

acl-length : (naming : Naming) (head flags : List ℕ) (present : Bool) (p : AclPart) → length head ≡ 2 → length flags ≤ 5
    → IsAclPart present p
    → length (acl_text naming head flags p) ≤ 8 * acl_part_size p + 24
acl-length naming head flags present acl.Absent h k is = omega arith
acl-length naming head flags present acl.Null h k is =
    let back = length-append flags (codes "NO_ACCESS_CONTROL") in
    let whole = length-append head (flags ++ codes "NO_ACCESS_CONTROL") in
    omega (arith, back, whole, h, k)
acl-length naming head flags present (acl.List aces) h k is =
    let back = length-append flags (flat_map (ace_text naming) aces) in
    let whole = length-append head (flags ++ flat_map (ace_text naming) aces) in
    omega (arith, back, whole, h, k, aces-length naming aces is.1.each)

sid-length : (naming : Naming) (head : List ℕ) (o : Option SecurityId) → length head ≡ 2 → IfSome o IsSid
    → length (sid_text_of naming head o) ≤ 8 * sid_part_size o
sid-length naming head None h is = omega arith
sid-length naming head (Some s) h is =
    omega (arith, h, length-append head (trustee_text naming s), trustee-length naming s is)

-- the whole text
pub sddl-length : (naming : Naming) (d : Descriptor) → IsDescriptor d → length (sddl naming d) ≤ 8 * size d + 63
unfolding sddl owner_text group_text dacl_text sacl_text
sddl-length naming d h =
    let c = d.control in
    let df = acl_flags which.Dacl c in
    let sf = acl_flags which.Sacl c in
    let owner = sid-length naming (codes "O:") d.owner refl h.owner in
    let group = sid-length naming (codes "G:") d.group refl h.group in
    let dacl = acl-length naming (codes "D:") (acl_flags_text df) (dacl_present c) d.dacl refl
    (flags-length df) h.dacl in
    let sacl = acl-length naming (codes "S:") (acl_flags_text sf) (sacl_present c) d.sacl refl
    (flags-length sf) h.sacl in
    let sids = length-append (owner_text naming d) (group_text naming d) in
    let acls = length-append (dacl_text naming d) (sacl_text naming d) in
    let whole = length-append (owner_text naming d ++ group_text naming d) (dacl_text naming d ++ sacl_text naming d) in
    omega (arith, owner, group, dacl, sacl, sids, acls, whole)
