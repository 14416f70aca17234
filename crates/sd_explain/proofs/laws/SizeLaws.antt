-- An explanation has at most eight characters for each byte of the written descriptor, and 64.
use Rattle.std.proofs.Common.{◌≡◌, ◌≤◌, ◌<◌, ℕ, zero, suc, ◌+◌, ◌*◌, ◌/◌, ◌%◌, ◌^◌, Bool, true, false, cond, List, []}
use Rattle.std.proofs.Common.{◌∷◌, ◌++◌, length, Option, Some, None, refl, arith, length-append}
use Rattle.std.specs.Prelude.{IfSome, codes}
use Rattle.std.specs.Fmt.{decimal, digit_glyph}
use Rattle.std.specs.List.{flat_map, enumerate_from, AllByRecursion}
use Rattle.std.proofs.lemmas.Fmt.{length-decimal-le}
use Rattle.sd_ace.specs.Ace.{AccessControlEntry, IsAce, ace_size, guid_size}
use Rattle.sd_kinds.specs.Kinds.{is_object, kind_letters}
use Rattle.sd_kinds.specs.Flags.{flags_text}
use Rattle.sd_ace.specs.GuidText.{guid_text}
use Rattle.sd_sid.specs.Naming.{alias_by}
use Rattle.sd_rights.specs.Rights.{rights_text}
use Rattle.sd_sid.specs.Sid.{SecurityId, IsSid}
use Rattle.sd_sid.specs.SidText.{alias_of, sid_text}
use Rattle.sd_text.specs.Numbers.{hex_digits}
use Rattle.sd_kinds.specs.declared.kinds.AceKind.{AceKind}
use Rattle.sd_sid.specs.declared.naming.Naming.{Naming}
use Rattle.sd_ace.proofs.laws.AceSizes.{offset-low}
use Rattle.sd_sid.proofs.laws.AliasNames.{IsName, alias_of-IsName}
use Rattle.sd_kinds.proofs.laws.FlagLaws.{flags_text-length}
use Rattle.sd_ace.proofs.laws.GuidTexts.{guid_text-length}
use Rattle.sd_kinds.proofs.laws.KindLaws.{letters-few}
use Rattle.sd_rights.proofs.laws.RightsLaws.{rights_text-length}
use Rattle.sd_sid.proofs.laws.TextLaws.{length-sid_text}
use Rattle.sd_acl_view.specs.Acl.{aces_size}
use Rattle.sd_text.specs.Bits.{has_bit}
use Rattle.sd_view.specs.Descriptor.{Descriptor, IsAclPart, IsDescriptor}
use Rattle.sd_parts.specs.Control.{dacl_present, sacl_present}
use Rattle.sd_view.specs.Layout.{acl_part_size, sid_part_size, size}
use Rattle.sd_view.specs.declared.acl_part.AclPart.{AclPart}
use Rattle.sd_view.specs.declared.acl_part.AclPart.TheVariants as acl
use Rattle.sd_parts.specs.declared.control.ControlBit.{ControlBit}
use Rattle.sd_parts.specs.declared.control.TheConstants.{CONTROL_BITS}
use Rattle.sd_explain.specs.Explain.{ace_head, ace_line, ace_rights, ace_trustee, acl_lines, code_if, control_line}
use Rattle.sd_explain.specs.Explain.{count_line, explain, guid_words, name_after, or_none, rm_line, sid_line, sid_words}

-- 1. The header: at most 57 and 8 characters.

hex_digits-length : (k n : ℕ) → length (hex_digits k n) ≡ k
hex_digits-length zero n = refl
hex_digits-length (suc k) n =
    omega (arith, hex_digits-length k (n / 16), length-append (hex_digits k (n / 16)) (digit_glyph false (n % 16) ∷ []))

code-length : (b : Bool) (code : List ℕ) → length code ≡ 3 → length (cond b code []) ≤ 3
code-length true code e = omega (arith, e)
code-length false code e = omega arith

codes-length : (control : ℕ) (bits : List ControlBit) → length (flat_map (code_if control) bits) ≤ 3 * length bits
codes-length control [] = omega arith
codes-length control (b ∷ bs) =
    let one = code-length (has_bit b.bit control) (32 ∷ b.first ∷ b.second ∷ []) refl in
    omega (arith, one, length-append (code_if control b) (flat_map (code_if control) bs), codes-length control bs)

control_line-length : (control : ℕ) → length (control_line control) ≤ 57
unfolding control_line
control_line-length control =
    let words = flat_map (code_if control) CONTROL_BITS in
    omega (
      arith,
      hex_digits-length 4 control,
      codes-length control CONTROL_BITS,
      length-append words (codes "\n"),
      length-append (hex_digits 4 control) (words ++ codes "\n"),
    )

rm_line-length : (rm : ℕ) → length (rm_line rm) ≤ 8
unfolding rm_line
rm_line-length rm = omega (arith, hex_digits-length 2 rm, length-append (hex_digits 2 rm) (codes "\n"))

-- 2. SIDs: at most 21 characters, and 11 for each sub-authority.

name-length : (o : Option (List ℕ)) → IsName o → length (name_after o) ≤ 3
name-length None h = omega arith
name-length (Some name) h = omega (arith, h)

alias-length : (numeric : Bool) (o : Option (List ℕ)) → IsName o → length (name_after (cond numeric None o)) ≤ 3
alias-length true o h = omega arith
alias-length false o h = name-length o h

sid_words-length : (naming : Naming) (s : SecurityId) → IsSid s → length (sid_words naming s) ≤ 21 + 11 * length s.subs
unfolding sid_words
sid_words-length naming s h =
    let alias = alias-length naming.numeric (alias_of s naming.domain) (alias_of-IsName s naming.domain) in
    omega (arith, alias, length-sid_text s h, length-append (sid_text s) (name_after (alias_by naming s)))

sid_line-length : (naming : Naming) (part : List ℕ) (o : Option SecurityId) → length part ≡ 6 → IfSome o IsSid
    → length (sid_line naming part o) ≤ 8 * sid_part_size o + 11
unfolding sid_line
sid_line-length naming part None e h = omega (arith, e, length-append part (codes "none\n"))
sid_line-length naming part (Some s) e h =
    let words = sid_words naming s in
    let lf = codes "\n" in
    omega (arith, e, sid_words-length naming s h, length-append words lf, length-append part (words ++ lf))

-- 3. ACEs: at most eight characters a byte.

ace_head-length : (part : List ℕ) (n : ℕ) (kind : AceKind)
    → length part ≡ 5 → n < 10000 → length (ace_head part n kind) ≤ 12
unfolding ace_head
ace_head-length part n kind e small =
    let number = length-decimal-le 4 n (omega arith) (omega arith) (omega arith) in
    let back = codes " " ++ kind_letters kind in
    let words = decimal n ++ back in
    omega (arith, e, number, (letters-few kind).1, length-append (decimal n) back, length-append part words)

or_none-length : (text : List ℕ) → length text ≤ 14 → length (or_none text) ≤ 14
or_none-length [] h = omega arith
or_none-length (b ∷ bs) h = h

ace_rights-length : (kind : AceKind) (flags mask : ℕ) → mask < 2 ^ 32 → length (ace_rights kind flags mask) ≤ 79
unfolding ace_rights
ace_rights-length kind flags mask h =
    let names = or_none (flags_text flags) in
    let back = codes " rights " ++ rights_text kind mask in
    let middle = codes " mask 0x" ++ (hex_digits 8 mask ++ back) in
    omega (
      arith,
      or_none-length (flags_text flags) (flags_text-length flags),
      hex_digits-length 8 mask,
      rights_text-length kind mask h,
      length-append (hex_digits 8 mask) back,
      length-append names middle,
    )

guid_words-length : (name : List ℕ) (o : Option (List ℕ))
    → length name ≤ 11 → length (guid_words name o) ≤ 3 * guid_size o
guid_words-length name None h = omega arith
guid_words-length name (Some g) h = omega (arith, h, guid_text-length g, length-append name (guid_text g))

ace_trustee-length : (naming : Naming) (s : SecurityId)
    → IsSid s → length (ace_trustee naming s) ≤ 27 + 11 * length s.subs
unfolding ace_trustee
ace_trustee-length naming s h =
    omega (arith, sid_words-length naming s h, length-append (sid_words naming s) (codes "\n"))

ace_line-length : (naming : Naming) (part : List ℕ) (n : ℕ) (a : AccessControlEntry)
    → length part ≡ 5 → n < 10000 → IsAce a → length (ace_line naming part n a) ≤ 8 * ace_size a
unfolding ace_line
ace_line-length naming part n a e small h =
    let head = ace_head part n a.kind in
    let access = ace_rights a.kind a.flags a.mask in
    let object = guid_words (codes " object ") a.object in
    let inherited = guid_words (codes " inherited ") a.inherited in
    let trustee = ace_trustee naming a.sid in
    omega (
      arith,
      offset-low (is_object a.kind) a.object a.inherited h.fit,
      ace_head-length part n a.kind e small,
      ace_rights-length a.kind a.flags a.mask h.mask,
      guid_words-length (codes " object ") a.object (omega arith),
      guid_words-length (codes " inherited ") a.inherited (omega arith),
      ace_trustee-length naming a.sid h.sid,
      length-append inherited trustee,
      length-append object (inherited ++ trustee),
      length-append access (object ++ (inherited ++ trustee)),
      length-append head (access ++ (object ++ (inherited ++ trustee))),
    )

-- 4. ACLs: at most eight characters a byte, or twelve where none stands.

-- an ACE has 16 bytes or more, so there are at most 4,095
aces-few : (aces : List AccessControlEntry) → AllByRecursion IsAce aces → 16 * length aces ≤ aces_size aces
aces-few [] h = omega arith
aces-few (a ∷ others) h =
    omega (arith, offset-low (is_object a.kind) a.object a.inherited h.0.fit, aces-few others h.1)

numbered-length : (naming : Naming) (part : List ℕ) (n : ℕ) (aces : List AccessControlEntry)
    → length part ≡ 5 → n + length aces ≤ 10000 → AllByRecursion IsAce aces
    → length (flat_map (λ e. ace_line naming part e.0 e.1) (enumerate_from n aces)) ≤ 8 * aces_size aces
numbered-length naming part n [] e small h = omega arith
numbered-length naming part n (a ∷ others) e small h =
    let line = λ (e : ℕ × AccessControlEntry). ace_line naming part e.0 e.1 in
    let rest = flat_map line (enumerate_from (n + 1) others) in
    omega (
      arith,
      ace_line-length naming part n a e (omega arith) h.0,
      numbered-length naming part (n + 1) others e (omega arith) h.1,
      length-append (ace_line naming part n a) rest,
    )

count_line-length : (part : List ℕ) (n : ℕ) → length part ≡ 5 → n < 10000 → length (count_line part n) ≤ 15
unfolding count_line
count_line-length part n e small =
    let number = length-decimal-le 4 n (omega arith) (omega arith) (omega arith) in
    let words = codes "list " ++ (decimal n ++ codes "\n") in
    omega (arith, e, number, length-append (decimal n) (codes "\n"), length-append part words)

acl_lines-length : (naming : Naming) (part : List ℕ) (present : Bool) (p : AclPart)
    → length part ≡ 5 → IsAclPart present p
    → length (acl_lines naming part p) ≤ 8 * acl_part_size p + 12
acl_lines-length naming part present acl.Absent e is = omega (arith, e, length-append part (codes "absent\n"))
acl_lines-length naming part present acl.Null e is = omega (arith, e, length-append part (codes "null\n"))
acl_lines-length naming part present (acl.List aces) e is =
    let fits = is.1.fits in
    let few = aces-few aces is.1.each in
    let count = count_line-length part (length aces) e (omega arith) in
    let lines = numbered-length naming part 1 aces e (omega arith) is.1.each in
    let text = flat_map (λ (e : ℕ × AccessControlEntry). ace_line naming part e.0 e.1) (enumerate_from 1 aces) in
    omega (arith, count, lines, length-append (count_line part (length aces)) text)

-- 5. The whole block.

pub explain-length : (naming : Naming) (d : Descriptor) → IsDescriptor d → length (explain naming d) ≤ 8 * size d + 64
unfolding explain
explain-length naming d h =
    let control = control_line d.control in
    let rm = rm_line d.rm in
    let owner = sid_line naming (codes "owner ") d.owner in
    let group = sid_line naming (codes "group ") d.group in
    let dacl = acl_lines naming (codes "dacl ") d.dacl in
    let sacl = acl_lines naming (codes "sacl ") d.sacl in
    let last = codes "end\n" in
    omega (
      arith,
      control_line-length d.control,
      rm_line-length d.rm,
      sid_line-length naming (codes "owner ") d.owner refl h.owner,
      sid_line-length naming (codes "group ") d.group refl h.group,
      acl_lines-length naming (codes "dacl ") (dacl_present d.control) d.dacl refl h.dacl,
      acl_lines-length naming (codes "sacl ") (sacl_present d.control) d.sacl refl h.sacl,
      length-append sacl last,
      length-append dacl (sacl ++ last),
      length-append group (dacl ++ (sacl ++ last)),
      length-append owner (group ++ (dacl ++ (sacl ++ last))),
      length-append rm (owner ++ (group ++ (dacl ++ (sacl ++ last)))),
      length-append control (rm ++ (owner ++ (group ++ (dacl ++ (sacl ++ last))))),
    )
