-- Worked rows, computed: what hex and base64 texts spell, what their bytes are read as, and what is laid out.
use Rattle.std.proofs.Common.{◌≡◌, ℕ, Bool, true, false, List, [], ◌∷◌, ◌++◌, map, Some, None, Result, Ok, Err, codes}
use Rattle.std.proofs.Common.{refl, replicate, rules}
use Prim.Native.String.{String}
use Rattle.base64.proofs.OnLiterals.{base64_on_literals}
use Rattle.base64.specs.Engines.{standard}
use Rattle.base64.specs.GeneralPurpose.{engine_symbols}
use Rattle.hex.specs.Hex.{decode_pairs}
use Rattle.sd_kinds.specs.Kinds.{kind_code, kind_entry, kind_of}
use Rattle.sd_sid.specs.Sid.{SecurityId, sid_at, sid_bytes}
use Rattle.sd_sid.proofs.laws.Everyone.{everyone}
use Rattle.sd_buffer.specs.declared.buffer.TextFault.{TextFault}
use Rattle.sd_buffer.specs.declared.buffer.TextFault.TheVariants.{Base64, HexDigit, HexOdd}
use Rattle.sd_parts.specs.declared.part.Part.TheVariants.{Owner, Group, Sacl, Dacl}
use Rattle.sd_view.specs.declared.fault.SdFault.TheVariants as faults
use Rattle.sd_acl_view.specs.Bytes.{u16_at, u32_at}
use Rattle.sd_parts.specs.Control.{acl_flags, flag_bits}
use Rattle.sd_parts.specs.declared.part.Which.{Which}
use Rattle.sd_parts.specs.declared.part.Which.TheVariants as which
use Rattle.sd_parts.specs.declared.control.AclFlags.{AclFlags}
use Rattle.sd_parts.specs.declared.control.ControlBit.{ControlBit}
use Rattle.sd_parts.specs.declared.control.TheConstants.{CONTROL_BITS}
use Rattle.sd_builder.specs.Draft.{CanBegin, Draft, begun, built, built_bytes, closed, ended, is_present}
use Rattle.sd_builder.specs.Draft.{no_parts, nothing_given, open_size, with_ace, with_acl, with_group, with_owner}
use Rattle.sd_view.specs.Descriptor.{Descriptor}
use Rattle.sd_parts.specs.Header.{header_bytes}
use Rattle.sd_view.specs.Layout.{layout, size}
use Rattle.sd_acl_view.specs.Ace.{announces_inherited, announces_object}
use Rattle.sd_acl_view.specs.AclReading.{ace_fault, aces_fault, aces_of, acl_fault, guid_if, inherited_in, kind_in}
use Rattle.sd_acl_view.specs.AclReading.{object_in, extent_fault, sid_offset_in}
use Rattle.sd_view.specs.declared.acl_part.AclPart.TheVariants as acl
use Rattle.sd_ace.specs.Ace.{AccessControlEntry}
use Rattle.sd_ace.proofs.laws.WorkedGuids.{user_class}
use Rattle.sd_kinds.specs.declared.kinds.AceKind.TheVariants as kinds
use Rattle.sd_view.specs.Reading.{acl_part_fault, acl_shown, fault, header_fault, overlap_fault, overlaps_fault}
use Rattle.sd_view.specs.Reading.{parts_fault, reading, sid_fault, sid_shown}
use Rattle.sd_buffer.specs.Text.{base64_spells, hex_spells}

spelled : Result (List ℕ) TextFault → List ℕ
spelled (Ok bytes) = bytes
spelled (Err fault) = []

-- the bytes of a hex text, and none of a text that spells none
hex : String → List ℕ
hex text = spelled (hex_spells (codes text))

-- `unfolding computed` lets `refl` compute a row
computed : Unit {0}
unfolding spelled hex hex_spells decode_pairs u16_at u32_at sid_at sid_shown header_fault sid_fault parts_fault
    overlap_fault overlaps_fault fault reading header_bytes acl_part_fault acl_shown acl_fault aces_fault aces_of
    ace_fault extent_fault kind_code kind_entry kind_of kind_in object_in inherited_in sid_offset_in guid_if
    announces_object announces_inherited
computed = tt

system : SecurityId
system = record { authority = 5; subs = 18 ∷ [] }

system_bytes : sid_bytes system ≡ hex "010100000000000512000000"
unfolding computed system
system_bytes = refl

-- hex texts

hex_texts : record {
  pairs_of_digits : hex_spells (codes "0100") ≡ Ok (1 ∷ 0 ∷ []);
  either_case : hex_spells (codes "aFFa09") ≡ Ok (0xaf ∷ 0xfa ∷ 0x09 ∷ []);
  no_digit : hex_spells (codes "zz") ≡ Err HexDigit;
  odd_before_no_digit : hex_spells (codes "zzz") ≡ Err HexOdd;
  no_text : hex_spells (codes "") ≡ Ok [];
}
unfolding computed
hex_texts = search rules

-- base64 texts

base64_texts : record {
  standard_alphabet : engine_symbols standard
      ≡ codes "ABCDEFGHIJKLMNOPQRSTUVWXYZabcdefghijklmnopqrstuvwxyz0123456789+/";
  three_bytes : base64_spells (codes "AQAE") ≡ Ok (1 ∷ 0 ∷ 4 ∷ []);
  one_byte : base64_spells (codes "AQ==") ≡ Ok (1 ∷ []);
  no_padding : base64_spells (codes "AQ") ≡ Err Base64;
  bits_behind_the_last_byte : base64_spells (codes "AR==") ≡ Err Base64;
  blank_inside : base64_spells (codes "AQ AE") ≡ Err Base64;
  letters_of_urls : base64_spells (codes "-_-_") ≡ Err Base64;
  no_base64_text : base64_spells (codes "") ≡ Ok [];
}
unfolding base64_spells base64_on_literals
base64_texts = search rules

-- a header without parts

bare : Descriptor
bare = record { control = 0x8000; rm = 0; owner = None; group = None; sacl = acl.Absent; dacl = acl.Absent }

header_without_parts : record {
  bare_is_read : reading (hex "0100008000000000000000000000000000000000") ≡ Ok bare;
  bare_is_laid_out : layout bare ≡ hex "0100008000000000000000000000000000000000";
}
unfolding computed bare
header_without_parts = search rules

-- an owner behind its group, with a gap between them

moved : Descriptor
moved = record {
  control = 0x8000;
  rm = 0;
  owner = Some system;
  group = Some everyone;
  sacl = acl.Absent;
  dacl = acl.Absent;
}

owner_behind_its_group : record {
  moved_is_read : reading
      (hex "0100008021000000140000000000000000000000010100000000000100000000aa010100000000000512000000") ≡ Ok moved;
  moved_is_laid_out : layout moved ≡ hex
      "0100008014000000200000000000000000000000010100000000000512000000010100000000000100000000";
  moved_size : size moved ≡ 44;
}
unfolding computed moved system everyone
owner_behind_its_group = search rules

-- an owner alone, which has no sub-authority and an authority that needs its high bytes

without_subs : Descriptor
without_subs = record {
  control = 0x8000;
  rm = 0;
  owner = Some (record { authority = 0x1_0000_0000; subs = [] });
  group = None;
  sacl = acl.Absent;
  dacl = acl.Absent;
}

owner_alone : record {
  without_subs_is_read : reading (hex "01000080140000000000000000000000000000000100000100000000") ≡ Ok without_subs;
  without_subs_is_laid_out : layout without_subs ≡ hex "01000080140000000000000000000000000000000100000100000000";
}
unfolding computed without_subs
owner_alone = search rules

-- two SIDs of fifteen sub-authorities

widest : SecurityId
widest = record { authority = 0; subs = replicate 15 0 }

largest_size : size (record
    { control = 0x8000; rm = 0; owner = Some widest; group = Some widest; sacl = acl.Absent; dacl = acl.Absent }) ≡ 156
unfolding widest
largest_size = refl

-- a group alone, under a resource manager byte and every other control bit; what follows is dropped

marked : Descriptor
marked = record {
  control = 0xffeb;
  rm = 0x7f;
  owner = None;
  group = Some everyone;
  sacl = acl.Absent;
  dacl = acl.Absent;
}

group_alone : record {
  marked_is_read : reading (hex "017febff0000000014000000ffffffffffffffff010100000000000100000000beef") ≡ Ok marked;
  marked_is_laid_out : layout marked ≡ hex "017febff00000000140000000000000000000000010100000000000100000000";
}
unfolding computed marked everyone
group_alone = search rules

-- faults, in the order in which they are looked for

short_and_more : record {
  short : reading (hex "0100048014") ≡ Err faults.Short;
  nineteen_bytes : reading (hex "02000400000000000000000000000000000000") ≡ Err faults.Short;
  revision : reading (hex "0200008000000000000000000000000000000000") ≡ Err faults.Revision;
  not_self_relative : reading (hex "0100000000000000000000000000000000000000") ≡ Err faults.NotSelfRelative;
  largest_offset : reading (hex "01000080ffffffff000000000000000000000000010100000000000512000000") ≡ Err
      (faults.Offset Owner);
  inside_header : reading (hex "0100008013000000140000000000000000000000010100000000000512000000") ≡ Err
      (faults.Offset Owner);
  too_few_bytes : reading (hex "010000800000000014000000000000000000000001000000000000") ≡ Err (faults.Offset Group);
  sixteen_subs : reading (hex "01000080140000000000000000000000000000000110000000000005") ≡ Err (faults.Sid Owner);
  cut_short : reading (hex "01000080000000001400000000000000000000000101000000000005120000") ≡ Err (faults.Sid Group);
  owner_before_group : reading (hex "0100008014000000150000000000000000000000020100000000000512000000") ≡ Err
      (faults.Sid Owner);
  shared_extent : reading (hex "0100008014000000140000000000000000000000010100000000000512000000") ≡ Err
      (faults.Overlap Owner Group);
}
unfolding computed
short_and_more = search rules

-- ---- ACLs

administrators : SecurityId
administrators = record { authority = 5; subs = 32 ∷ 544 ∷ [] }

-- everyone has full access
full_access : AccessControlEntry
full_access = record { kind = kinds.Allow; flags = 0; mask = 0x1f01ff; object = None; inherited = None; sid = everyone }

with_dacl : Descriptor
with_dacl = record {
  control = 0x8004;
  rm = 0;
  owner = Some administrators;
  group = Some system;
  sacl = acl.Absent;
  dacl = acl.List (full_access ∷ []);
}

acls : record {
  with_dacl_is_read : reading
      (hex "0100048040000000500000000000000015000000aa020028000100000000001400ff011f00010100000000000100000000"
      ++ hex "bbbbbbbbbbbbbbbbbbbbbbbbcccccc01020000000000052000000020020000010100000000000512000000") ≡ Ok with_dacl;
  with_dacl_is_laid_out : layout with_dacl
      ≡ hex "010004801400000024000000000000003000000001020000000000052000000020020000010100000000000512000000"
      ++ hex "02001c000100000000001400ff011f00010100000000000100000000";
}
unfolding computed with_dacl full_access administrators system everyone
acls = search rules

-- authenticated users may read one property, and the same with both GUIDs

authenticated : SecurityId
authenticated = record { authority = 5; subs = 11 ∷ [] }

read_property : AccessControlEntry
read_property = record {
  kind = kinds.ObjectAllow;
  flags = 2;
  mask = 0x10;
  object = Some user_class;
  inherited = None;
  sid = authenticated;
}

with_object : Descriptor
with_object = record {
  control = 0x8004;
  rm = 0;
  owner = None;
  group = None;
  sacl = acl.Absent;
  dacl = acl.List
      (read_property ∷ []);
}

label : AccessControlEntry
label = record {
  kind = kinds.Label;
  flags = 0;
  mask = 1;
  object = None;
  inherited = None;
  sid = record { authority = 16; subs = 8192 ∷ [] };
}

with_object_is_read_and_more : record {
  -- under revision 2, and with a bit among the object flags that means nothing
  with_object_is_read : reading
      (hex "01000480000000000000000000000000140000000200300001000000"
      ++ hex "050228001000000005000000ba7a96bfe60dd011a28500aa003049e201010000000000050b000000") ≡ Ok with_object;
  with_object_is_laid_out : layout with_object
      ≡ hex "01000480000000000000000000000000140000000400300001000000"
      ++ hex "050228001000000001000000ba7a96bfe60dd011a28500aa003049e201010000000000050b000000";
  -- a null SACL and an empty DACL with spare bytes
  null_and_empty : reading (hex "01001480000000000000000000000000140000000200100000000000ffffffffffffffff") ≡ Ok
      (record { control = 0x8014; rm = 0; owner = None; group = None; sacl = acl.Null; dacl = acl.List [] });
  label_in_sacl : reading
      (hex "010010800000000000000000140000000000000002001c000100000011001400010000000101000000000010"
      ++ hex "0020000000000000") ≡ Ok (record {
        control = 0x8010;
        rm = 0;
        owner = None;
        group = None;
        sacl = acl.List (label ∷ []);
        dacl = acl.Absent;
      });
  acl_of_another_revision : reading (hex "0100048000000000000000000000000014000000030008000000000000000000") ≡ Err
      (faults.Acl Dacl);
  one_ace_too_many : reading (hex "010004800000000000000000000000001400000002000800ffff0000")
      ≡ Err (faults.AceSize Dacl);
  ace_of_another_type : reading
      (hex "0100048000000000000000000000000014000000020018000100000009001000000000000100000000000000") ≡ Err
      (faults.AceType Dacl);
  ace_with_the_unused_flag : reading
      (hex "0100108000000000000000001400000000000000020018000100000000201000000000000100000000000000") ≡ Err
      (faults.AceFlags Sacl);
  guids_past_the_ace : reading
      (hex "0100048000000000000000000000000014000000020018000100000005001000000000000100000000000000") ≡ Err
      (faults.AceSize Dacl);
  sid_past_the_ace : reading
      (hex "0100048000000000000000000000000014000000020018000100000000001000000000000101000000000000") ≡ Err
      (faults.Sid Dacl);
  shared_acls : reading (hex "01001480000000000000000014000000140000000200080000000000")
      ≡ Err (faults.Overlap Sacl Dacl);
  shared_owner_and_acl : reading (hex "010004801400000000000000000000001c00000001020000000000050200080000000000") ≡ Err
      (faults.Overlap Owner Dacl);
  -- a null SACL has no bytes and no offset
  null_and_empty_is_laid_out : layout
      (record { control = 0x8014; rm = 0; owner = None; group = None; sacl = acl.Null; dacl = acl.List [] })
      ≡ hex "01001480000000000000000000000000140000000200080000000000";
  -- revision 4 without an object ACE
  fourth_revision : reading (hex "01000480000000000000000000000000140000000400080000000000") ≡ Ok
      (record { control = 0x8004; rm = 0; owner = None; group = None; sacl = acl.Absent; dacl = acl.List [] });
  -- two ACEs of different sizes
  two_aces : reading
      (hex "010004800000000000000000000000001400000002003400020000000000140000000000010100000000000100000000"
      ++ hex "00001800ff011f0001020000000000052000000020020000") ≡ Ok (record {
        control = 0x8004;
        rm = 0;
        owner = None;
        group = None;
        sacl = acl.Absent;
        dacl = acl.List (record full_access { mask = 0 } ∷ record full_access { sid = administrators } ∷ []);
      });
  -- and a fault of the second one
  second_ace_of_another_type : reading
      (hex "010004800000000000000000000000001400000002003000020000000000140000000000010100000000000100000000"
      ++ hex "0900140000000000010100000000000100000000")
      ≡ Err (faults.AceType Dacl);
  -- an inherited object type alone
  with_inherited : reading
      (hex "01000480000000000000000000000000140000000400300001000000050228001000000002000000"
      ++ hex "ba7a96bfe60dd011a28500aa003049e201010000000000050b000000") ≡ Ok (record with_object {
        dacl = acl.List (record read_property { object = None; inherited = Some user_class } ∷ []);
      });
  -- what follows the ACL is no part of it
  ace_behind_the_acl : reading
      (hex "010004800000000000000000000000001400000002000800010000000000140000000000010100000000000100000000") ≡ Err
      (faults.AceSize Dacl);
}
unfolding computed with_object read_property user_class authenticated label full_access administrators everyone
with_object_is_read_and_more = search rules

-- an ACE of 12 bytes, one of 20 where 16 are left, and one of 18

ace_of_12_bytes : record {
  short_ace : reading
      (hex "010004800000000000000000000000001400000002001800010000000000" ++ hex "0c00000000000100000000000001") ≡ Err
      (faults.AceSize Dacl);
  long_ace : reading
      (hex "010004800000000000000000000000001400000002001800010000000000" ++ hex "1400000000000100000000000001") ≡ Err
      (faults.AceSize Dacl);
  ace_of_18_bytes : reading
      (hex "010004800000000000000000000000001400000002001a00010000000000" ++ hex "12000000000001000000000000010000")
      ≡ Err
      (faults.AceSize Dacl);
  -- the unused flag beside another
  two_flags : reading
      (hex "0100108000000000000000001400000000000000020018000100000000601000000000000100000000000000") ≡ Err
      (faults.AceFlags Sacl);
}
unfolding computed
ace_of_12_bytes = search rules

-- an ACL of 7 bytes, one that passes the end, and one inside the header

acl_of_7_bytes : record {
  short_acl : reading (hex "01000480000000000000000000000000140000000200070000000000") ≡ Err (faults.Acl Dacl);
  long_acl : reading (hex "01000480000000000000000000000000140000000200090000000000") ≡ Err (faults.Acl Dacl);
  acl_in_the_header : reading (hex "01001080000000000000000013000000000000000200080000000000")
      ≡ Err (faults.Offset Sacl);
}
unfolding computed
acl_of_7_bytes = search rules

-- the other pairs of parts

other_pairs_of_parts : record {
  shared_owner_and_sacl : reading (hex "0100108014000000000000001c0000000000000001020000000000050200080000000000") ≡ Err
      (faults.Overlap Owner Sacl);
  shared_group_and_sacl : reading (hex "0100108000000000140000001c0000000000000001020000000000050200080000000000") ≡ Err
      (faults.Overlap Group Sacl);
  shared_group_and_dacl : reading (hex "010004800000000014000000000000001c00000001020000000000050200080000000000") ≡ Err
      (faults.Overlap Group Dacl);
}
unfolding computed
other_pairs_of_parts = search rules

-- the control word: the names and the bits of MS-DTYP 2.4.6

lettered : List ControlBit → List (List ℕ × ℕ)
lettered bits = map (λ b. (b.first ∷ b.second ∷ [], b.bit)) bits

flags : Bool → Bool → Bool → AclFlags
flags p r i = record { protected = p; auto_inherit_required = r; auto_inherited = i }

control_word : record {
  named_bits : lettered CONTROL_BITS ≡
      (codes "OD", 0x1) ∷ (codes "GD", 0x2) ∷ (codes "DP", 0x4) ∷ (codes "DD", 0x8) ∷ (codes "SP", 0x10)
      ∷ (codes "SD", 0x20)
      ∷ (codes "DC", 0x100) ∷ (codes "SC", 0x200) ∷ (codes "DI", 0x400) ∷ (codes "SI", 0x800) ∷ (codes "PD", 0x1000)
      ∷ (codes "PS", 0x2000) ∷ (codes "RM", 0x4000) ∷ (codes "SR", 0x8000) ∷ [];
  -- SR, PD, DI and DP
  flags_of_a_protected_dacl : acl_flags which.Dacl 0x9404 ≡ flags true false true;
  no_flags_of_its_sacl : acl_flags which.Sacl 0x9404 ≡ flags false false false;
  -- PS, SC and SI; PD, DC and DI
  bits_of_the_flags_of_a_sacl : flag_bits which.Sacl (flags true true true) ≡ 0x2a00;
  bits_of_the_flags_of_a_dacl : flag_bits which.Dacl (flags true true true) ≡ 0x1500;
}
unfolding lettered flags
control_word = search rules

-- ---- what a builder was given: the descriptor, and its bytes in the order of the calls

opened : Which → Draft → Draft
opened w t = record t { parts = begun w t.parts }

given : AccessControlEntry → Draft → Draft
given a t = record t { parts = with_ace a t.parts }

-- a group, a DACL and an owner
out_of_order : Draft
out_of_order =
    with_owner administrators (ended (given full_access (opened which.Dacl (with_group everyone nothing_given))))

-- an owner, a SACL, a null DACL and a group, under every control bit and a resource manager byte
labelled : Draft
labelled = ended (given label (opened which.Sacl (with_owner everyone nothing_given)))

with_null : Draft
with_null = with_group system (record labelled { parts = with_acl which.Dacl acl.Null labelled.parts })

with_null_is_built : built 0xffff 0xab with_null.parts ≡ record {
  control = 0xffff;
  rm = 0xab;
  owner = Some everyone;
  group = Some system;
  sacl = acl.List (label ∷ []);
  dacl = acl.Null;
}
unfolding with_null labelled opened given label everyone system
with_null_is_built = refl

-- an ACL can begin where none is open and its part is not given
first_can_begin : CanBegin which.Sacl no_parts
first_can_begin = (refl, refl)

other_can_begin : CanBegin which.Dacl (with_acl which.Sacl acl.Null no_parts)
other_can_begin = (refl, refl)

sacl_can_begin : CanBegin which.Sacl (with_acl which.Dacl acl.Null no_parts)
sacl_can_begin = (refl, refl)

sacl_cannot_begin : CanBegin which.Sacl (with_acl which.Sacl acl.Null no_parts) → ⊥
sacl_cannot_begin h = let e = h.1 in cc

given_cannot_begin : CanBegin which.Dacl (with_acl which.Dacl acl.Null no_parts) → ⊥
given_cannot_begin h = let e = h.1 in cc

open_cannot_begin : CanBegin which.Dacl (begun which.Sacl no_parts) → ⊥
open_cannot_begin h = let e = h.0 in cc

out_of_order_is_built_and_more : record {
  out_of_order_is_built : built 0 0 out_of_order.parts ≡ record with_dacl { group = Some everyone };
  out_of_order_bytes : built_bytes 0 0 out_of_order
      ≡ hex "010004803c000000140000000000000020000000010100000000000100000000"
      ++ hex "02001c000100000000001400ff011f00010100000000000100000000"
      ++ hex "01020000000000052000000020020000";
  with_null_bytes : built_bytes 0xffff 0xab with_null
      ≡ hex "01abffff140000003c0000002000000000000000010100000000000100000000"
      ++ hex "02001c000100000011001400010000000101000000000010002000000101000000000005"
      ++ hex "12000000";
  -- nothing: neither SP nor DP, whatever was asked for
  nothing_bytes : built_bytes 0x14 0 nothing_given ≡ hex "0100008000000000000000000000000000000000";
  -- an ACL that is open has its header and its ACEs; without one there is no size
  open_sizes : open_size no_parts ∷ open_size (begun which.Sacl no_parts)
      ∷ open_size (with_ace full_access (begun which.Dacl no_parts)) ∷ [] ≡ 0 ∷ 8 ∷ 28 ∷ [];
  presence : is_present acl.Absent ∷ is_present acl.Null ∷ is_present (acl.List []) ∷ [] ≡ false ∷ true ∷ true ∷ [];
  closed_is_a_list : closed (with_ace full_access (begun which.Sacl no_parts))
      ≡ record no_parts { sacl = acl.List (full_access ∷ []) };
}
unfolding out_of_order opened given with_dacl full_access administrators everyone system computed with_null labelled
    label
out_of_order_is_built_and_more = search rules
