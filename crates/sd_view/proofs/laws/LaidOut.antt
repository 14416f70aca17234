-- Bytes whose parts follow the header and each other are the layout of what they show.
use Rattle.std.proofs.Common.{◌≡◌, ◌≤◌, ◌+◌, ℕ, List, [], ◌∷◌, ◌++◌, length, take, drop, slice_index, Option, Some}
use Rattle.std.proofs.Common.{None, sym, ap, ◌∙◌, arith}
use Rattle.std.proofs.lemmas.List.{append-nil, drop_all, take-append-drop}
use Rattle.byteorder.specs.Endian.{little_bytes, little_number}
use Rattle.sd_sid.specs.Sid.{SecurityId, sid_bytes, sid_size}
use Rattle.sd_sid.proofs.laws.Numbers.{AreBytes, AreBytes-tail}
use Rattle.sd_sid.proofs.laws.SidLaws.{length-sid_bytes}
use Rattle.sd_parts.specs.Header.{header_bytes}
use Rattle.sd_parts.specs.declared.part.Parts.{Parts}
use Rattle.sd_acl_view.specs.Acl.{acl_size}
use Rattle.sd_acl_view.specs.AclLayout.{acl_bytes}
use Rattle.sd_acl_view.specs.Bytes.{u16_at, u32_at}
use Rattle.sd_acl_view.proofs.laws.AclLayoutSizes.{length-acl_bytes}
use Rattle.sd_acl_view.proofs.laws.NumberLaws.{number, number-first}
use Rattle.sd_view.specs.Descriptor.{Descriptor, Shows, ShowsSid, control_at, dacl_at, group_at, owner_at, sacl_at}
use Rattle.sd_view.specs.Layout.{acl_part, acl_part_size, dacl_offset, descriptor_header, group_offset, layout}
use Rattle.sd_view.specs.Layout.{offset_if, offsets, sacl_offset, sid_part, sid_part_size, size}
use Rattle.sd_view.specs.WrittenForm.{AclIsWritten, IsWritten}
use Rattle.sd_view.specs.declared.acl_part.AclPart.{AclPart}
use Rattle.sd_view.specs.declared.acl_part.AclPart.TheVariants as acl
use Rattle.sd_view.proofs.laws.Places.{after, offset-stands}

-- the offsets of the header
abbrev pub offsets_in : List ℕ → Parts ℕ
offsets_in bytes = record {
  owner = owner_at bytes;
  group = group_at bytes;
  sacl = sacl_at bytes;
  dacl = dacl_at bytes;
}

-- a header is its fields
fields : (revision rm : ℕ) (rest : List ℕ) → AreBytes rest → 18 ≤ length rest → revision ≡ 1
    → revision ∷ rm ∷ take 18 rest
    ≡ header_bytes rm (little_number 2 rest) (record {
      owner = little_number 4 (drop 2 rest);
      group = little_number 4 (drop 6 rest);
      sacl = little_number 4 (drop 10 rest);
      dacl = little_number 4 (drop 14 rest);
    })
unfolding header_bytes
fields revision rm rest b room e =
    ap (λ (x : ℕ). x ∷ rm ∷ take 18 rest) e
    ∙ ap (λ (xs : List ℕ). 1 ∷ rm ∷ xs) (number-first 2 16 0 rest b (omega arith)
    ∙ ap (λ (xs : List ℕ). little_bytes 2 (little_number 2 rest) ++ xs) (number-first 4 12 2 rest b (omega arith)
    ∙ ap (λ (xs : List ℕ). little_bytes 4 (little_number 4 (drop 2 rest)) ++ xs)
    (number-first 4 8 6 rest b (omega arith)
    ∙ ap (λ (xs : List ℕ). little_bytes 4 (little_number 4 (drop 6 rest)) ++ xs)
    (number-first 4 4 10 rest b (omega arith)
    ∙ ap (λ (xs : List ℕ). little_bytes 4 (little_number 4 (drop 10 rest)) ++ xs)
    (sym (number 4 14 rest b (omega arith)))))))

header-fields : (bytes : List ℕ) → AreBytes bytes → 20 ≤ length bytes → slice_index bytes 0 ≡ 1
    → take 20 bytes ≡ header_bytes (slice_index bytes 1) (control_at bytes) (offsets_in bytes)
unfolding u16_at u32_at
header-fields [] b room e = absurd (omega arith)
header-fields (x ∷ []) b room e = absurd (omega arith)
header-fields (x ∷ (y ∷ rest)) b room e =
    fields x y rest (AreBytes-tail y rest (AreBytes-tail x (y ∷ rest) b)) (omega arith) e

-- a part that stands where it begins, and what stands after it
follows : (start n : ℕ) (bytes part rest : List ℕ) → length part ≡ n → drop start bytes ≡ part ++ rest
    → drop start bytes ≡ part ++ drop (start + n) bytes
follows start n bytes part rest long shape =
    shape ∙ ap (λ (xs : List ℕ). part ++ xs) (sym (after start n bytes part rest long shape))

none-follows : (start : ℕ) (bytes : List ℕ) → drop start bytes ≡ drop (start + 0) bytes
none-follows start bytes = let same : start ≡ start + 0 = omega arith in ap (λ (n : ℕ). drop n bytes) same

sid-follows : (bytes : List ℕ) (offset start : ℕ) (o : Option SecurityId) → offset ≡ offset_if start (sid_part_size o)
    → ShowsSid bytes offset o
    → drop start bytes ≡ sid_part o ++ drop (start + sid_part_size o) bytes
sid-follows bytes offset start None at h = none-follows start bytes
sid-follows bytes offset start (Some s) at h =
    let same : offset ≡ start = at ∙ offset-stands start (sid_size s) (omega arith) in
    follows start (sid_size s) bytes (sid_bytes s) h.1.rest (length-sid_bytes s)
    (ap (λ (n : ℕ). drop n bytes) (sym same) ∙ h.1.shape)

acl-follows : (bytes : List ℕ) (offset start : ℕ) (p : AclPart) → offset ≡ offset_if start (acl_part_size p)
    → AclIsWritten bytes offset p
    → drop start bytes ≡ acl_part p ++ drop (start + acl_part_size p) bytes
acl-follows bytes offset start acl.Absent at h = none-follows start bytes
acl-follows bytes offset start acl.Null at h = none-follows start bytes
acl-follows bytes offset start (acl.List aces) at h =
    let same : offset ≡ start = at ∙ offset-stands start (acl_size aces) (omega arith) in
    follows start (acl_size aces) bytes (acl_bytes aces) h.0 (length-acl_bytes aces)
    (ap (λ (n : ℕ). drop n bytes) (sym same) ∙ h.1)

-- bytes in their written form are the layout, if each part stands at its offset
pub laid-out : (bytes : List ℕ) (d : Descriptor) → AreBytes bytes → Shows bytes d → IsWritten bytes d
    → offsets_in bytes ≡ offsets d
    → bytes ≡ layout d
laid-out bytes d b h w e =
    let header : take 20 bytes ≡ descriptor_header d =
    header-fields bytes b h.header h.revision ∙ (λ i. header_bytes (h.rm i) (h.control i) (e i)) in
    let owner = sid-follows bytes (owner_at bytes) 20 d.owner (λ i. (e i).owner) h.owner in
    let group = sid-follows bytes (group_at bytes) (group_offset d) d.group (λ i. (e i).group) h.group in
    let sacl = acl-follows bytes (sacl_at bytes) (sacl_offset d) d.sacl (λ i. (e i).sacl) w.sacl in
    let dacl = acl-follows bytes (dacl_at bytes) (dacl_offset d) d.dacl (λ i. (e i).dacl) w.dacl in
    let last : drop (size d) bytes ≡ [] = drop_all (size d) bytes (omega (arith, w.size)) in
    sym (take-append-drop 20 bytes)
    ∙ ap (λ (xs : List ℕ). xs ++ drop 20 bytes) header
    ∙ ap (λ (xs : List ℕ). descriptor_header d ++ xs) (owner
    ∙ ap (λ (xs : List ℕ). sid_part d.owner ++ xs) (group
    ∙ ap (λ (xs : List ℕ). sid_part d.group ++ xs) (sacl
    ∙ ap (λ (xs : List ℕ). acl_part d.sacl ++ xs) (dacl
    ∙ ap (λ (xs : List ℕ). acl_part d.dacl ++ xs) last
    ∙ append-nil (acl_part d.dacl)))))
