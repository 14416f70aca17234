-- Worked texts, computed: flags and access rights, each name, and what generic rights stand for.
use Rattle.std.proofs.Common.{◌≡◌, ℕ, ◌^◌, List, [], ◌∷◌, Some, None, codes, arith, rules}
use Rattle.std.specs.Prelude.{map}
use Rattle.std.specs.Fmt.{digits}
use Rattle.sd_text.specs.Names.{run_of}
use Rattle.sd_kinds.specs.Flags.{flags_reads, flags_text}
use Rattle.sd_rights.specs.AccessRights.{below_system_security, every_right, first_reserved, generic_all}
use Rattle.sd_rights.specs.AccessRights.{generic_execute, generic_read, generic_write, maximum_allowed, owner_mask}
use Rattle.sd_rights.specs.AccessRights.{read_control, second_reserved, system_security, system_security_mask}
use Rattle.sd_rights.specs.AccessRights.{write_dac, write_owner, write_owner_mask}
use Rattle.sd_rights.specs.Mapping.{GenericMapping, IsMapping, directory_mapping, file_mapping, key_mapping, mapped}
use Rattle.sd_rights.specs.Rights.{rights_reads, rights_text}
use Rattle.sd_kinds.specs.declared.kinds.AceKind.TheVariants as kinds

-- `unfolding computed` lets `refl` compute a row
computed : Unit {0}
unfolding digits run_of flags_reads flags_text rights_reads rights_text mapped
computed = tt

-- 1. Flags.

every_flag_and_more : record {
  every_flag : flags_text 0xdf ≡ codes "OICINPIOIDSAFA";
  unnamed_flag : flags_text 0x20 ≡ [];
  flags_in_any_order : flags_reads (codes "faOIoiId") ≡ Some 0x91;
  no_flags : flags_reads [] ≡ Some 0;
  half_a_flag : flags_reads (codes "OIC") ≡ None;
  right_as_flag : flags_reads (codes "GA") ≡ None;
}
unfolding computed
every_flag_and_more = search rules

-- 2. Access rights.

file_all_and_more : record {
  file_all : rights_text kinds.Allow 0x1f01ff ≡ codes "FA";
  key_execute_is_key_read : rights_text kinds.Deny 0x20019 ≡ codes "KR";
  every_bit : rights_text kinds.ObjectAllow 0xf00f01ff ≡ codes "CCDCLCSWRPWPDTLOCRSDRCWDWOGAGXGWGR";
  synchronize : rights_text kinds.Audit 0x100001 ≡ codes "0x100001";
  nothing : rights_text kinds.Allow 0 ≡ codes "0x0";
  label : rights_text kinds.Label 7 ≡ codes "NWNRNX";
  file_all_in_a_label : rights_text kinds.Label 0x1f01ff ≡ codes "0x1f01ff";
  rights_in_any_order : rights_reads (codes "kxNWgaga") ≡ Some 0x10020019;
  hex_rights : rights_reads (codes "0X00100000") ≡ Some 0x100000;
  octal_rights : rights_reads (codes "017") ≡ Some 15;
  no_octal_digit : rights_reads (codes "08") ≡ None;
  largest_mask : rights_reads (codes "4294967295") ≡ Some 0xffffffff;
  larger_mask : rights_reads (codes "4294967296") ≡ None;
  hex_without_digits : rights_reads (codes "0x") ≡ None;
  -- nothing, a zero alone, a single digit and hex digits; and what is none of these
  short_numbers : map rights_reads
      ([] ∷ codes "0" ∷ codes "7" ∷ codes "0xA0" ∷ codes "00x1" ∷ codes "0y1" ∷ codes "9F" ∷ [])
      ≡ Some 0 ∷ Some 0 ∷ Some 7 ∷ Some 0xa0 ∷ None ∷ None ∷ None ∷ [];
  -- a run of names has no limit but that of the field
  long_run : rights_reads (codes "CCDCLCSWRPWPDTLOCRSDRCWDWOGAGXGWGR") ≡ Some 0xf00f01ff;
  mixed_rights : rights_reads (codes "GA1") ≡ None;
}
unfolding computed
file_all_and_more = search rules

-- 3. Each name with its number (MS-DTYP 2.4.3, 2.5.1.1).

every_name_and_more : record {
  every_name : map rights_reads
      (codes "CC" ∷ codes "DC" ∷ codes "LC" ∷ codes "SW" ∷ codes "RP" ∷ codes "WP" ∷ codes "DT" ∷ codes "LO"
      ∷ codes "CR" ∷ codes "SD" ∷ codes "RC" ∷ codes "WD" ∷ codes "WO" ∷ codes "GA" ∷ codes "GX" ∷ codes "GW"
      ∷ codes "GR" ∷ codes "FA" ∷ codes "FR" ∷ codes "FW" ∷ codes "FX" ∷ codes "KA" ∷ codes "KR" ∷ codes "KW"
      ∷ codes "KX" ∷ codes "NW" ∷ codes "NR" ∷ codes "NX" ∷ [])
      ≡ Some 0x1 ∷ Some 0x2 ∷ Some 0x4 ∷ Some 0x8 ∷ Some 0x10 ∷ Some 0x20 ∷ Some 0x40 ∷ Some 0x80 ∷ Some 0x100
      ∷ Some 0x10000 ∷ Some 0x20000 ∷ Some 0x40000 ∷ Some 0x80000 ∷ Some 0x10000000 ∷ Some 0x20000000
      ∷ Some 0x40000000 ∷ Some 0x80000000 ∷ Some 0x1f01ff ∷ Some 0x120089 ∷ Some 0x120116 ∷ Some 0x1200a0
      ∷ Some 0xf003f ∷ Some 0x20019 ∷ Some 0x20006 ∷ Some 0x20019 ∷ Some 0x1 ∷ Some 0x2 ∷ Some 0x4 ∷ [];
  single_names : map (rights_text kinds.Allow)
      (0x1 ∷ 0x2 ∷ 0x4 ∷ 0x8 ∷ 0x10 ∷ 0x20 ∷ 0x40 ∷ 0x80 ∷ 0x100 ∷ 0x10000 ∷ 0x20000 ∷ 0x40000 ∷ 0x80000
      ∷ 0x10000000 ∷ 0x20000000 ∷ 0x40000000 ∷ 0x80000000 ∷ [])
      ≡ codes "CC" ∷ codes "DC" ∷ codes "LC" ∷ codes "SW" ∷ codes "RP" ∷ codes "WP" ∷ codes "DT" ∷ codes "LO"
      ∷ codes "CR" ∷ codes "SD" ∷ codes "RC" ∷ codes "WD" ∷ codes "WO" ∷ codes "GA" ∷ codes "GX" ∷ codes "GW"
      ∷ codes "GR" ∷ [];
  compound_names : map (rights_text kinds.ObjectDeny)
      (0x1f01ff ∷ 0x120089 ∷ 0x120116 ∷ 0x1200a0 ∷ 0xf003f ∷ 0x20019 ∷ 0x20006 ∷ [])
      ≡ codes "FA" ∷ codes "FR" ∷ codes "FW" ∷ codes "FX" ∷ codes "KA" ∷ codes "KR" ∷ codes "KW" ∷ [];
  label_names : map (rights_text kinds.Label)
      (0 ∷ 1 ∷ 2 ∷ 3 ∷ 4 ∷ 5 ∷ 6 ∷ 8 ∷ [])
      ≡ codes "0x0" ∷ codes "NW" ∷ codes "NR" ∷ codes "NWNR" ∷ codes "NX" ∷ codes "NWNX" ∷ codes "NRNX"
      ∷ codes "0x8" ∷ [];
}
unfolding computed
every_name_and_more = search rules

-- 4. The places of rights, and what generic rights stand for (2.4.3, and the mappings of files, keys and directories).

places_and_more : record {
  places : map (λ right. 2 ^ right) (read_control ∷ write_dac ∷ write_owner ∷ system_security ∷ maximum_allowed
      ∷ first_reserved ∷ second_reserved ∷ generic_all ∷ generic_execute ∷ generic_write ∷ generic_read ∷ [])
      ≡ 0x20000 ∷ 0x40000 ∷ 0x80000 ∷ 0x1000000 ∷ 0x2000000 ∷ 0x4000000 ∷ 0x8000000 ∷ 0x10000000 ∷ 0x20000000
      ∷ 0x40000000 ∷ 0x80000000 ∷ [];
  masks : write_owner_mask ∷ system_security_mask ∷ owner_mask ∷ below_system_security ∷ every_right ∷ []
      ≡ 0x80000 ∷ 0x1000000 ∷ 0x60000 ∷ 0xffffff ∷ 0x1ffffff ∷ [];
}
places_and_more = search rules

-- the four masks of a mapping have the rights 0 to 24: all of them, and one of them with bit 25

of_every_right : IsMapping (record { read = 0x1ffffff; write = 0x1ffffff; execute = 0x1ffffff; all = 0x1ffffff })
of_every_right = record { read = omega arith; write = omega arith; execute = omega arith; all = omega arith }

of_one_more_to_read : IsMapping (record { read = 0x2000000; write = 0; execute = 0; all = 0 }) → ⊥
of_one_more_to_read h = let more = h.read in omega arith

of_one_more_to_write : IsMapping (record { read = 0; write = 0x2000000; execute = 0; all = 0 }) → ⊥
of_one_more_to_write h = let more = h.write in omega arith

of_one_more_to_execute : IsMapping (record { read = 0; write = 0; execute = 0x2000000; all = 0 }) → ⊥
of_one_more_to_execute h = let more = h.execute in omega arith

of_one_more_of_all : IsMapping (record { read = 0; write = 0; execute = 0; all = 0x2000000 }) → ⊥
of_one_more_of_all h = let more = h.all in omega arith

-- read, write, execute, all, and none of them
generic : GenericMapping → List ℕ
generic m = map (mapped m) (0x80000000 ∷ 0x40000000 ∷ 0x20000000 ∷ 0x10000000 ∷ 0x0f0f0f0f ∷ [])

what_rights_stand_for : record {
  of_files : generic file_mapping ≡ 0x120089 ∷ 0x120116 ∷ 0x1200a0 ∷ 0x1f01ff ∷ 0x0f0f0f0f ∷ [];
  of_keys : generic key_mapping ≡ 0x20019 ∷ 0x20006 ∷ 0x20019 ∷ 0xf003f ∷ 0x0f0f0f0f ∷ [];
  of_directories : generic directory_mapping ≡ 0x20094 ∷ 0x20028 ∷ 0x20004 ∷ 0xf01ff ∷ 0x0f0f0f0f ∷ [];
}
unfolding computed generic
what_rights_stand_for = search rules
