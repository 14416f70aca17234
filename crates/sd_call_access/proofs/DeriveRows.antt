-- The arguments of a derivation, what it gives and what is told of its origins, by hand from include/sdtool.h (MS-DTYP
-- 2.4.6 and 2.5.3.4).
use Rattle.std.proofs.Common.{◌≡◌, ℕ, List, [], ◌∷◌, length, map, Some, None, Ok, Err, refl, replicate, rules}
use Rattle.sd_sid.specs.Sid.{sid_at}
use Rattle.sd_rights.specs.Mapping.{file_mapping, key_mapping}
use Rattle.sd_inherit.specs.Derived.{derive_fault, derived}
use Rattle.sd_inherit.specs.declared.derivation.DeriveFault.{DeriveFault}
use Rattle.sd_inherit.specs.declared.derivation.DeriveFault.TheVariants.{DerivedTooLarge}
use Rattle.sd_inherit.specs.declared.origin.OriginFault.TheVariants.{Derive, TooSmall}
use Rattle.sd_inherit.specs.declared.plan.Target.TheVariants as target
use Rattle.sd_acl_view.specs.Bytes.{u16_at, u32_at}
use Rattle.sd_parts.specs.declared.part.Which.TheVariants.{Dacl, Sacl}
use Rattle.sd_view.specs.Descriptor.{Descriptor}
use Rattle.sd_view.specs.Layout.{layout}
use Rattle.sd_view.specs.Reading.{acl_part_fault, acl_shown, fault, header_fault, overlap_fault, overlaps_fault}
use Rattle.sd_view.specs.Reading.{parts_fault, reading, sid_fault, sid_shown}
use Rattle.sd_view.specs.declared.acl_part.AclPart.TheVariants as acl
use Rattle.sd_view.specs.declared.fault.SdFault.TheVariants as sd
use Rattle.sd_faults.specs.declared.line_fault.LineFault.TheVariants as line
use Rattle.sd_call.specs.Arguments.{descriptor_in}
use Rattle.sd_call.specs.declared.argument.Argument.TheVariants as which
use Rattle.sd_call.specs.declared.outcome.CallFault.TheVariants as call
use Rattle.sd_call_access.specs.Derivations.{creator_in, derivation, input_in, new_layout, plan_in, target_in}
use Rattle.sd_call_access.specs.OriginsTold.{counts_of, nothing_derived, refused}
use Rattle.sd_call_access.specs.declared.derivations.DerivationInput.{DerivationInput}

-- enum sdtool_kind
targets : (target_in 0 ≡ Ok target.File) × (target_in 1 ≡ Ok target.Container)
    × (target_in 2 ≡ Err (call.Argument which.Kind 0))
targets = (refl, refl, refl)

-- SDTOOL_MOST_BYTES: one byte more is no descriptor, whatever the bytes are
creator_of_too_many_bytes : (bytes : List ℕ) → length bytes ≡ 131227
    → creator_in bytes ≡ Err (call.Argument which.Creator 0)
unfolding creator_in descriptor_in
creator_of_too_many_bytes bytes h = rw h refl

abbrev everyone : List ℕ
everyone = 1 ∷ 1 ∷ 0 ∷ 0 ∷ 0 ∷ 0 ∷ 0 ∷ 1 ∷ 0 ∷ 0 ∷ 0 ∷ 0 ∷ []

abbrev system : List ℕ
system = 1 ∷ 1 ∷ 0 ∷ 0 ∷ 0 ∷ 0 ∷ 0 ∷ 5 ∷ 18 ∷ 0 ∷ 0 ∷ 0 ∷ []

plan : plan_in 1 1 everyone system ≡ Ok (record {
  target = target.Container;
  owner = record { authority = 1; subs = 0 ∷ [] };
  group = record { authority = 5; subs = 18 ∷ [] };
  mapping = key_mapping;
})
unfolding plan_in sid_at
plan = refl

parent_of_too_many_bytes : (bytes : List ℕ) → length bytes ≡ 131227
    → input_in bytes [] everyone system 1 1 ≡ Err (call.Line line.TooLong)
unfolding input_in plan_in sid_at creator_in descriptor_in
parent_of_too_many_bytes bytes h = rw h refl

-- a header alone, with a resource manager byte
abbrev header : ℕ → List ℕ
header rm = 1 ∷ rm ∷ 0 ∷ 0x80 ∷ 0 ∷ 0 ∷ 0 ∷ 0 ∷ 0 ∷ 0 ∷ 0 ∷ 0 ∷ 0 ∷ 0 ∷ 0 ∷ 0 ∷ 0 ∷ 0 ∷ 0 ∷ 0 ∷ []

abbrev empty : ℕ → Descriptor
empty rm = record { control = 0x8000; rm = rm; owner = None; group = None; sacl = acl.Absent; dacl = acl.Absent }

-- the descriptor that the creator brings is not that of the container
input : input_in (header 3) (header 4) everyone system 0 0 ≡ Ok (record {
  parent = empty 3;
  creator = Some (empty 4);
  plan = record {
    target = target.File;
    owner = record { authority = 1; subs = 0 ∷ [] };
    group = record { authority = 5; subs = 18 ∷ [] };
    mapping = file_mapping;
  };
})
unfolding input_in plan_in sid_at creator_in descriptor_in reading fault header_fault parts_fault sid_fault sid_shown
    acl_part_fault acl_shown overlaps_fault overlap_fault u16_at u32_at
input = refl

-- a container that hands nothing on: the new DACL is empty, and was made by automatic inheritance
nothing_inherited : derivation (header 3) [] everyone system 0 0 ≡ Ok (layout (record {
  control = 0x8404;
  rm = 0;
  owner = Some (record { authority = 1; subs = 0 ∷ [] });
  group = Some (record { authority = 5; subs = 18 ∷ [] });
  sacl = acl.Absent;
  dacl = acl.List [];
}))
unfolding input_in plan_in sid_at creator_in descriptor_in reading fault header_fault parts_fault sid_fault sid_shown
    acl_part_fault acl_shown overlaps_fault overlap_fault u16_at u32_at derived derive_fault
nothing_inherited = refl

-- an ACL that is too large is told as the program does
too_large : (from : DerivationInput) (why : DeriveFault) → derive_fault from.parent from.creator from.plan ≡ Some why
    → new_layout from ≡ Err (call.Line (line.Derive why))
too_large from why h = rw h refl

-- Too few cells: the counts say how many are needed. After any other fault there are none.
counts_are_told : refused (TooSmall (record { sacl = 3; dacl = 4095 })) ≡ record {
  outcome = record { fault = 71; part = 0; other_part = 0; argument = 0; entry = 0; length = 0 };
  sacl_count = 3;
  dacl_count = 4095;
}
counts_are_told = refl

no_counts : map (λ w. refused (Derive (DerivedTooLarge w))) (Sacl ∷ Dacl ∷ []) ≡ map (λ part. record {
  outcome = record { fault = 40; part = part; other_part = 0; argument = 0; entry = 0; length = 0 };
  sacl_count = 0;
  dacl_count = 0;
}) (3 ∷ 4 ∷ [])
no_counts = refl

no_counts_of_a_wrong_creator : nothing_derived (call.Argument which.Creator 0) ≡ record {
  outcome = record { fault = 70; part = 0; other_part = 0; argument = 7; entry = 0; length = 0 };
  sacl_count = 0;
  dacl_count = 0;
}
no_counts_of_a_wrong_creator = refl

-- a new DACL without ACEs needs no cell
no_cells : counts_of (record {
  parent = empty 3;
  creator = None;
  plan = record {
    target = target.File;
    owner = record { authority = 1; subs = 0 ∷ [] };
    group = record { authority = 5; subs = 18 ∷ [] };
    mapping = file_mapping;
  };
}) 0 0 ≡ Ok (record { sacl = 0; dacl = 0 })
unfolding derived derive_fault
no_cells = refl

wide_targets_and_more : record {
  -- a number is not cut to 8 or 16 bits
  wide_targets : map target_in (256 ∷ 257 ∷ 0x1_0000 ∷ 0x1_0001 ∷ 0xffff_ffff ∷ [])
      ≡ replicate 5 (Err (call.Argument which.Kind 0));
  no_creator : creator_in [] ≡ Ok None;
  wrong_creator : creator_in (1 ∷ []) ≡ Err (call.Argument which.Creator 0);
  -- The arguments are looked at in this order: kind, mapping, owner, group.
  kind_first : plan_in 2 3 [] [] ≡ Err (call.Argument which.Kind 0);
  mapping_second : plan_in 1 3 [] [] ≡ Err (call.Argument which.Mapping 0);
  owner_third : plan_in 1 2 [] [] ≡ Err (call.Argument which.Owner 0);
  group_last : plan_in 0 0 everyone [] ≡ Err (call.Argument which.Group 0);
  -- Then the creator's descriptor is looked at, and the container's last.
  creator_before_parent : input_in [] (1 ∷ []) everyone system 1 1 ≡ Err (call.Argument which.Creator 0);
  parent_last : input_in [] [] everyone system 1 1 ≡ Err (call.Line (line.Sd sd.Short));
}
unfolding creator_in descriptor_in reading fault header_fault plan_in sid_at input_in
wide_targets_and_more = search rules
