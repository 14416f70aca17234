-- The kinds and the flags of ACEs, each with the number and the letters of MS-DTYP 2.4.4.1 and 2.5.1.1.
use Rattle.std.proofs.Common.{◌≡◌, ℕ, zero, suc, List, [], ◌∷◌, Some, None, true, false, codes, rules}
use Rattle.std.specs.Prelude.{map}
use Rattle.sd_text.specs.Names.{run_of}
use Rattle.sd_kinds.specs.Flags.{flags_reads, flags_text, is_flag}
use Rattle.sd_kinds.specs.Kinds.{is_object, kind_code, kind_entry, kind_letters, kind_named, kind_of}
use Rattle.sd_kinds.specs.declared.kinds.AceKind.{AceKind}
use Rattle.sd_kinds.specs.declared.kinds.AceKind.TheVariants as kinds

-- `unfolding computed` lets `refl` compute a row
computed : Unit {0}
unfolding run_of flags_reads flags_text kind_code kind_entry kind_letters kind_named kind_of
computed = tt

every_kind : List AceKind
every_kind =
    kinds.Allow ∷ kinds.Deny ∷ kinds.Audit ∷ kinds.ObjectAllow ∷ kinds.ObjectDeny ∷ kinds.ObjectAudit ∷ kinds.Label ∷ []

type_bytes_and_more : record {
  type_bytes : map kind_code every_kind ≡ 0 ∷ 1 ∷ 2 ∷ 5 ∷ 6 ∷ 7 ∷ 17 ∷ [];
  letters : map kind_letters every_kind
      ≡ codes "A" ∷ codes "D" ∷ codes "AU" ∷ codes "OA" ∷ codes "OD" ∷ codes "OU" ∷ codes "ML" ∷ [];
  kinds_of_objects : map is_object every_kind ≡ false ∷ false ∷ false ∷ true ∷ true ∷ true ∷ false ∷ [];
  -- types 3 and 8 are alarms, 4 is compound, 9 is a callback ACE, 0x12 is a resource attribute
  types : map kind_of (0 ∷ 1 ∷ 2 ∷ 3 ∷ 4 ∷ 5 ∷ 6 ∷ 7 ∷ 8 ∷ 9 ∷ 16 ∷ 17 ∷ 18 ∷ [])
      ≡ Some kinds.Allow ∷ Some kinds.Deny ∷ Some kinds.Audit ∷ None ∷ None ∷ Some kinds.ObjectAllow
      ∷ Some kinds.ObjectDeny ∷ Some kinds.ObjectAudit ∷ None ∷ None ∷ None ∷ Some kinds.Label ∷ None ∷ [];
  named : map kind_named (codes "a" ∷ codes "ou" ∷ codes "Ml" ∷ codes "XA" ∷ codes "AUD" ∷ [] ∷ [])
      ≡ Some kinds.Allow ∷ Some kinds.ObjectAudit ∷ Some kinds.Label ∷ None ∷ None ∷ None ∷ [];
  flag_numbers : map flags_reads
      (codes "OI" ∷ codes "CI" ∷ codes "NP" ∷ codes "IO" ∷ codes "ID" ∷ codes "SA" ∷ codes "FA" ∷ [])
      ≡ Some 1 ∷ Some 2 ∷ Some 4 ∷ Some 8 ∷ Some 16 ∷ Some 64 ∷ Some 128 ∷ [];
  flag_texts : map flags_text (1 ∷ 2 ∷ 4 ∷ 8 ∷ 16 ∷ 64 ∷ 128 ∷ [])
      ≡ codes "OI" ∷ codes "CI" ∷ codes "NP" ∷ codes "IO" ∷ codes "ID" ∷ codes "SA" ∷ codes "FA" ∷ [];
}
unfolding computed every_kind
type_bytes_and_more = search rules

-- names may be repeated, in at most 183 bytes

repeated : ℕ → List ℕ
repeated zero = []
repeated (suc n) = 79 ∷ 73 ∷ repeated n

names_may_be_repeated : record {
  long_texts : map flags_reads (repeated 91 ∷ repeated 92 ∷ []) ≡ Some 1 ∷ None ∷ [];
  -- 0x20 has no name
  each_bit : map is_flag (1 ∷ 2 ∷ 4 ∷ 8 ∷ 16 ∷ 32 ∷ 64 ∷ 128 ∷ 256 ∷ [])
      ≡ true ∷ true ∷ true ∷ true ∷ true ∷ false ∷ true ∷ true ∷ false ∷ [];
}
unfolding computed repeated
names_may_be_repeated = search rules
