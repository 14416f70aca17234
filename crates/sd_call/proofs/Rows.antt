-- The numbers that a caller sees, as include/sdtool.h writes them out, and what a number means.
use Rattle.std.proofs.Common.{◌≡◌, inl, inr, ℕ, List, [], ◌∷◌, length, map, take, Some, None, Ok, Err, codes, refl}
use Rattle.std.proofs.Common.{replicate, arith, rules}
use Rattle.std.specs.List.{flat_map}
use Rattle.sd_text.specs.Chains.{fault_as}
use Rattle.sd_faults.specs.declared.line_fault.LineFault.TheVariants as line
use Rattle.sd_check.specs.declared.ask.AskFault.TheVariants as ask
use Rattle.sd_parts.specs.declared.part.Part.TheVariants as part
use Rattle.sd_sid.specs.Sid.{sid_at}
use Rattle.sd_view.specs.Reading.{reading}
use Rattle.sd_view.specs.declared.fault.SdFault.TheVariants as sd
use Rattle.sd_call.specs.Arguments.{descriptor_in, domain_in, mapping_in, optional_sid_in, sid_in}
use Rattle.sd_call.specs.FaultNames.{name_of}
use Rattle.sd_call.specs.Outcomes.{Answers, AnswersWithin, Fills, Gives, Refused, argument_number, done, failed}
use Rattle.sd_call.specs.Outcomes.{no_memory, number, too_small}
use Rattle.sd_call.specs.declared.outcome.Outcome.{Outcome}
use Rattle.sd_call.specs.declared.argument.Argument.TheVariants as which
use Rattle.sd_call.specs.declared.outcome.CallFault.TheVariants as call

-- enum sdtool_fault
own_numbers : (number (call.Line line.TooLong) ≡ 1) × (number (call.Ask ask.EmptyRequest) ≡ 50)
    × (number (call.Ask ask.ReservedBits) ≡ 51) × (number (call.Argument which.Domain 9) ≡ 70)
own_numbers = (refl, refl, refl, refl)

-- enum sdtool_argument
arguments_of_checks : (argument_number which.Domain ≡ 1) × (argument_number which.Sids ≡ 2)
    × (argument_number which.Entries ≡ 3) × (argument_number which.Object ≡ 4)
    × (argument_number which.PrincipalSelf ≡ 5) × (argument_number which.Mapping ≡ 6)
arguments_of_checks = (refl, refl, refl, refl, refl, refl)

other_arguments : (argument_number which.Creator ≡ 7) × (argument_number which.Owner ≡ 8)
    × (argument_number which.Group ≡ 9) × (argument_number which.Kind ≡ 10) × (argument_number which.Fault ≡ 11)
    × (argument_number which.Sid ≡ 12) × (argument_number which.Sacl ≡ 13) × (argument_number which.Dacl ≡ 14)
    × (argument_number which.Token ≡ 15) × (argument_number which.Changes ≡ 16)
other_arguments = (refl, refl, refl, refl, refl, refl, refl, refl, refl, refl)

later_arguments : (argument_number which.Options ≡ 17) × (argument_number which.Ace ≡ 18)
    × (argument_number which.Flags ≡ 19) × (argument_number which.Guid ≡ 20) × (argument_number which.Offsets ≡ 21)
    × (argument_number which.Conversion ≡ 22)
later_arguments = (refl, refl, refl, refl, refl, refl)

none_and_empty : (optional_sid_in which.Domain [] ≡ Ok None)
    × (sid_in which.Owner [] ≡ Err (call.Argument which.Owner 0))
unfolding optional_sid_in sid_at
none_and_empty = (refl, refl)

domains : (domain_in [] ≡ Ok None) × (domain_in (1 ∷ []) ≡ Err (call.Argument which.Domain 0))
unfolding optional_sid_in sid_at
domains = (refl, refl)

-- The longest SID, of 15 sub-authorities, is a domain too: that it has no room for one more is no fault of the
-- argument.
abbrev longest_domain : List ℕ
longest_domain = 1 ∷ 15 ∷ 0 ∷ 0 ∷ 0 ∷ 0 ∷ 0 ∷ 5 ∷ flat_map (λ n. n ∷ 0 ∷ 0 ∷ 0 ∷ [])
    (21 ∷ 2 ∷ 3 ∷ 4 ∷ 5 ∷ 6 ∷ 7 ∷ 8 ∷ 9 ∷ 10 ∷ 11 ∷ 12 ∷ 13 ∷ 14 ∷ 15 ∷ [])

domain_without_room : domain_in longest_domain ≡ Ok (Some (record {
  authority = 5;
  subs = 21 ∷ 2 ∷ 3 ∷ 4 ∷ 5 ∷ 6 ∷ 7 ∷ 8 ∷ 9 ∷ 10 ∷ 11 ∷ 12 ∷ 13 ∷ 14 ∷ 15 ∷ [];
}))
unfolding optional_sid_in sid_at
domain_without_room = refl

-- SDTOOL_MOST_BYTES: so many bytes are read, and one byte more is too long, whatever the bytes are
longest : (bytes : List ℕ) → length bytes ≡ 131226
    → descriptor_in bytes ≡ fault_as (λ fault. call.Line (line.Sd fault)) (reading bytes)
unfolding descriptor_in
longest bytes h = rw h refl

too_long : (bytes : List ℕ) → length bytes ≡ 131227 → descriptor_in bytes ≡ Err (call.Line line.TooLong)
unfolding descriptor_in
too_long bytes h = rw h refl

-- sdtool_fault_text
names : (name_of 1 ≡ Ok (codes "too-long")) × (name_of 25 ≡ Ok (codes "sid-form"))
    × (name_of 72 ≡ Ok (codes "no-memory")) × (name_of 73 ≡ Ok (codes "change"))
unfolding name_of
names = (refl, refl, refl, refl)

no_names : (name_of 0 ≡ Err (call.Argument which.Fault 0)) × (name_of 74 ≡ Err (call.Argument which.Fault 0))
unfolding name_of
no_names = (refl, refl)

-- Two bytes: an output of two has room for them, and one of a single byte has not.
abbrev two : List ℕ
two = 7 ∷ 8 ∷ []

room_for_two : (new : List ℕ) (outcome : Outcome) → Gives two (0 ∷ 0 ∷ []) new outcome
    → (outcome ≡ done 2) × (take 2 new ≡ two)
room_for_two new outcome h = h.fits (omega arith)

room_for_one : (new : List ℕ) (outcome : Outcome) → Gives two (0 ∷ []) new outcome → outcome ≡ too_small 2
room_for_one new outcome h = h.short (omega arith)

given : Gives two (0 ∷ 0 ∷ []) two (done 2)
given = record { fits = λ _. (refl, refl); short = λ less. absurd (omega arith) }

-- A fault of the arguments is told whether there is memory or not, and the output stays.
told_without_memory : (new : List ℕ) (outcome : Outcome)
    → AnswersWithin {A = List ℕ} (Err (call.Line line.TooLong)) (Ok two) (0 ∷ 0 ∷ []) new outcome
    → (outcome ≡ failed (call.Line line.TooLong)) × (new ≡ 0 ∷ 0 ∷ [])
told_without_memory new outcome h = h

-- Behind the arguments there is an answer, or memory was refused and the output stays.
answered_within : AnswersWithin (Ok two) (Ok two) (0 ∷ 0 ∷ []) two (done 2)
    × AnswersWithin (Ok two) (Ok two) (0 ∷ 0 ∷ []) (0 ∷ 0 ∷ []) no_memory
answered_within = (inl given, inr (refl, refl))

stays_without_memory : (new : List ℕ) (outcome : Outcome) → Refused (0 ∷ 0 ∷ []) new outcome
    → (outcome ≡ no_memory) × (new ≡ 0 ∷ 0 ∷ [])
stays_without_memory new outcome h = h

-- After a fault the output stays.
stays_after_a_fault : (new : List ℕ) (outcome : Outcome)
    → Answers (Err (call.Argument which.Sid 0)) (0 ∷ 0 ∷ []) new outcome
    → (outcome ≡ failed (call.Argument which.Sid 0)) × (new ≡ 0 ∷ 0 ∷ [])
stays_after_a_fault new outcome h = h

filled : Fills 2 two (0 ∷ 0 ∷ []) two
filled = record { count = refl; within = omega arith; front = refl }

third_sid_and_more : record {
  -- struct sdtool_outcome
  third_sid : failed (call.Argument which.Sids 3)
      ≡ record { fault = 70; part = 0; other_part = 0; argument = 2; entry = 3; length = 0 };
  shared_byte : failed (call.Line (line.Sd (sd.Overlap part.Sacl part.Dacl)))
      ≡ record { fault = 14; part = 3; other_part = 4; argument = 0; entry = 0; length = 0 };
  -- A request is no argument.
  nothing_is_asked : failed (call.Ask ask.EmptyRequest)
      ≡ record { fault = 50; part = 0; other_part = 0; argument = 0; entry = 0; length = 0 };
  without_fault : done 7 ≡ record { fault = 0; part = 0; other_part = 0; argument = 0; entry = 0; length = 7 };
  no_room : too_small 7 ≡ record { fault = 71; part = 0; other_part = 0; argument = 0; entry = 0; length = 7 };
  refused_malloc : no_memory ≡ record { fault = 72; part = 0; other_part = 0; argument = 0; entry = 0; length = 0 };
  -- enum sdtool_mapping: files, keys and directory objects, and no other number
  of_files : mapping_in 0 ≡ Ok (record { read = 0x120089; write = 0x120116; execute = 0x1200a0; all = 0x1f01ff });
  of_keys : mapping_in 1 ≡ Ok (record { read = 0x20019; write = 0x20006; execute = 0x20019; all = 0xf003f });
  of_directories : mapping_in 2 ≡ Ok (record { read = 0x20094; write = 0x20028; execute = 0x20004; all = 0xf01ff });
  of_nothing : mapping_in 3 ≡ Err (call.Argument which.Mapping 0);
  -- a number is not cut to 8 or 16 bits
  of_wide_numbers : map mapping_in (256 ∷ 257 ∷ 258 ∷ 0x1_0000 ∷ 0x1_0001 ∷ 0xffff_ffff ∷ [])
      ≡ replicate 6 (Err (call.Argument which.Mapping 0));
  -- A SID takes all bytes of its argument: S-1-1-0, with a byte behind it, and cut.
  everyone : sid_in which.Owner (1 ∷ 1 ∷ 0 ∷ 0 ∷ 0 ∷ 0 ∷ 0 ∷ 1 ∷ 0 ∷ 0 ∷ 0 ∷ 0 ∷ [])
      ≡ Ok (record { authority = 1; subs = 0 ∷ [] });
  byte_behind : sid_in which.Owner (1 ∷ 1 ∷ 0 ∷ 0 ∷ 0 ∷ 0 ∷ 0 ∷ 1 ∷ 0 ∷ 0 ∷ 0 ∷ 0 ∷ 0 ∷ [])
      ≡ Err (call.Argument which.Owner 0);
  cut_short : sid_in which.Group (1 ∷ 1 ∷ 0 ∷ 0 ∷ 0 ∷ 0 ∷ 0 ∷ 1 ∷ 0 ∷ 0 ∷ 0 ∷ [])
      ≡ Err (call.Argument which.Group 0);
  -- and so is the shortest, S-1-5
  shortest_domain : domain_in (1 ∷ 0 ∷ 0 ∷ 0 ∷ 0 ∷ 0 ∷ 0 ∷ 5 ∷ []) ≡ Ok (Some (record { authority = 5; subs = [] }));
  -- neither is the number of a fault
  wide_names : map name_of (256 ∷ 257 ∷ 0x1_0001 ∷ 0xffff_ffff ∷ []) ≡ replicate 4 (Err (call.Argument which.Fault 0));
}
unfolding sid_at optional_sid_in name_of
third_sid_and_more = search rules
