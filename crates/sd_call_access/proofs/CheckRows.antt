-- Tokens and verdicts as a caller spells and sees them, by hand from include/sdtool.h.
use Rattle.std.proofs.Common.{◌≡◌, inl, inr, [], ◌∷◌, ◌++◌, true, false, Some, None, Ok, Err, length, take, ap, refl}
use Rattle.std.proofs.Common.{replicate, rules}
use Rattle.std.specs.Prelude.{List, ℕ}
use Rattle.sd_rights.specs.Mapping.{file_mapping, key_mapping, mapped}
use Rattle.sd_sid.specs.Sid.{sid_at}
use Rattle.sd_token.specs.Token.{Entry}
use Rattle.sd_token.specs.declared.token.EntryKind.TheVariants.{DenyOnly, Enabled}
use Rattle.sd_check.specs.Ask.{Asked}
use Rattle.sd_check.specs.declared.ask.AskFault.TheVariants.{EmptyRequest, ReservedBits}
use Rattle.sd_check.specs.declared.verdict.Verdict.TheVariants.{Denied, Granted}
use Rattle.sd_call.specs.Arguments.{descriptor_in, optional_sid_in}
use Rattle.sd_call.specs.declared.argument.Argument.TheVariants as which
use Rattle.sd_call.specs.declared.outcome.CallFault.TheVariants as call
use Rattle.sd_call_access.specs.Checks.{Tells, ask_in, asked, asker_in, checked, entries_from, entries_in, kind_in}
use Rattle.sd_call_access.specs.Checks.{level_of, object_in, options_in, told, told_without_memory, untold, verdict_on}
use Rattle.sd_call.specs.declared.outcome.Outcome.{Outcome}
use Rattle.sd_call_access.specs.declared.request.Asker.{Asker}
use Rattle.sd_call_access.specs.declared.request.Request.{Request}
use Rattle.sd_call_access.specs.declared.verdict.VerdictOutcome.{VerdictOutcome}
use Rattle.sd_call_access.specs.TokenMemory.{ReadsToken, checked_held, entries_held, holds_token, read_or_failed}
use Rattle.sd_call_access.specs.TokenMemory.{reading, token_size}
use Rattle.sd_call.specs.Outcomes.{done, failed, too_small}

-- enum sdtool_entry
kinds : (kind_in 4 0 ≡ Ok Enabled) × (kind_in 4 1 ≡ Ok DenyOnly) × (kind_in 4 2 ≡ Err (call.Argument which.Entries 4))
kinds = (refl, refl, refl)

abbrev everyone : List ℕ
everyone = 1 ∷ 1 ∷ 0 ∷ 0 ∷ 0 ∷ 0 ∷ 0 ∷ 1 ∷ 0 ∷ 0 ∷ 0 ∷ 0 ∷ []

abbrev system : List ℕ
system = 1 ∷ 1 ∷ 0 ∷ 0 ∷ 0 ∷ 0 ∷ 0 ∷ 5 ∷ 18 ∷ 0 ∷ 0 ∷ 0 ∷ []

-- SDTOOL_MOST_SIDS: so many are read, and with one more the entry behind the last one is wrong, whatever they are
most_sids : (sids kinds : List ℕ) → length kinds ≡ 1024 → entries_in sids kinds ≡ entries_from 0 sids kinds
unfolding entries_in
most_sids sids kinds h = rw h refl

one_sid_more : (sids kinds : List ℕ) → length kinds ≡ 1025
    → entries_in sids kinds ≡ Err (call.Argument which.Entries 1024)
unfolding entries_in
one_sid_more sids kinds h = rw h refl

-- bytes 00 01 02 .. 0f, and the GUID that they spell: 03020100-0504-0706-0809-0a0b0c0d0e0f
abbrev type_bytes : List ℕ
type_bytes = 0 ∷ 1 ∷ 2 ∷ 3 ∷ 4 ∷ 5 ∷ 6 ∷ 7 ∷ 8 ∷ 9 ∷ 10 ∷ 11 ∷ 12 ∷ 13 ∷ 14 ∷ 15 ∷ []

abbrev type : List ℕ
type = 3 ∷ 2 ∷ 1 ∷ 0 ∷ 5 ∷ 4 ∷ 7 ∷ 6 ∷ 8 ∷ 9 ∷ 10 ∷ 11 ∷ 12 ∷ 13 ∷ 14 ∷ 15 ∷ []

object : object_in type_bytes ≡ Ok (Some type)
unfolding object_in
object = refl

no_object : (object_in [] ≡ Ok None) × (object_in (0 ∷ []) ≡ Err (call.Argument which.Object 0))
unfolding object_in
no_object = (refl, refl)

-- struct sdtool_asker, with options of its own
abbrev of_key : ℕ → Asker
of_key options = record { mapping = 1; level = 8192; options = options }

-- struct sdtool_request: GENERIC_READ of a key is KEY_READ
abbrev request : Request
request = record { asker = of_key 3; wanted = 0x80000000; options = 0 }

-- Everyone, deny-only, and what it asks by the request, with SYSTEM as PRINCIPAL SELF
abbrev everyone_denied : List Entry
everyone_denied = (record { authority = 1; subs = 0 ∷ [] }, DenyOnly) ∷ []

abbrev requested : Asked
requested = record {
  wanted = 0x20019;
  maximum = false;
  mapping = key_mapping;
  object = None;
  principal_self = Some (record { authority = 5; subs = 18 ∷ [] });
  security = true;
  take_ownership = false;
}

-- All that is granted is asked for by MAXIMUM, and by bit 25 of what is wanted (MAXIMUM_ALLOWED of MS-DTYP 2.4.3).
maximum : (asked (record request { wanted = 1; options = 1 }) file_mapping None None).maximum
    ∷ (asked (record request { wanted = 0x0200_0001 }) file_mapping None None).maximum
    ∷ (asked (record request { wanted = 1 }) file_mapping None None).maximum ∷ [] ≡ true ∷ true ∷ false ∷ []
maximum = refl

take_ownership : asked (record request { wanted = 2; asker = of_key 4 }) file_mapping None None
    ≡ record requested {
      wanted = 2;
      mapping = file_mapping;
      principal_self = None;
      security = false;
      take_ownership = true;
    }
unfolding mapped
take_ownership = refl

-- the first right of a key, of an object type
abbrev asked_of_a_type : Asked
asked_of_a_type = record requested { wanted = 1; object = Some type; principal_self = None; security = false }

-- The token is looked at first, and then mapping, options, object type, PRINCIPAL SELF and what is wanted.
abbrev of_no_mapping : Request
of_no_mapping = record request { asker = record (of_key 8) { mapping = 3 } }

order : (asker_in [] (2 ∷ []) (0 ∷ []) (0 ∷ []) of_no_mapping ≡ Err (call.Argument which.Entries 0))
    × (asker_in [] [] (0 ∷ []) (0 ∷ []) of_no_mapping ≡ Err (call.Argument which.Mapping 0))
    × (asker_in [] [] (0 ∷ []) (0 ∷ []) (record request { options = 2 }) ≡ Err (call.Argument which.Options 0))
    × (asker_in [] [] (0 ∷ []) (0 ∷ []) (record request { wanted = 0 }) ≡ Err (call.Argument which.Object 0))
    × (asker_in [] [] [] (0 ∷ []) (record request { wanted = 0 }) ≡ Err (call.Argument which.PrincipalSelf 0))
    × (asker_in [] [] [] [] (record request { wanted = 0 }) ≡ Err (call.Ask EmptyRequest))
    × (asker_in [] [] [] [] (record request { wanted = 0x04000000 }) ≡ Err (call.Ask ReservedBits))
unfolding asker_in entries_in ask_in object_in optional_sid_in sid_at
order = (refl, refl, refl, refl, refl, refl, refl)

-- The descriptor is looked at last, whatever its bytes are: with the asker of `asker`, and behind what is wrong with
-- it.
descriptor_last : (bytes : List ℕ)
    → (checked bytes [] (2 ∷ []) [] [] (record request { wanted = 0 }) ≡ Err (call.Argument which.Entries 0))
    × (checked bytes [] [] [] [] (record request { wanted = 0 }) ≡ Err (call.Ask EmptyRequest))
    × (checked bytes everyone (1 ∷ []) type_bytes system (record request { asker = of_key 2 }) ≡ verdict_on bytes
    (record { entries = everyone_denied; level = None }) (record requested { object = Some type }))
unfolding asker_in entries_in ask_in object_in optional_sid_in sid_at mapped
descriptor_last bytes = (refl, refl, refl)

-- struct sdtool_outcome of a verdict, which names no part here
abbrev told_by : ℕ → ℕ → ℕ → Outcome
told_by fault argument entry =
    record { fault = fault; part = 0; other_part = 0; argument = argument; entry = entry; length = 0 }

-- SDTOOL_MOST_BYTES: one byte more is too long, whatever the bytes are
abbrev too_long : VerdictOutcome
too_long = record { outcome = told_by 1 0 0; mask = 0; granted = false }

too_many_bytes : (bytes : List ℕ) → length bytes ≡ 131227
    → told (checked bytes everyone (1 ∷ []) [] [] request) ≡ too_long
unfolding asker_in entries_in ask_in object_in optional_sid_in sid_at mapped verdict_on descriptor_in
too_many_bytes bytes h = rw h refl

-- struct sdtool_verdict
granted : told (Ok (Granted 0x120089))
    ≡ record { outcome = told_by 0 0 0; mask = 0x120089; granted = true }
granted = refl

-- Without memory a fault is told, and no verdict.
without_memory : (told_without_memory (Ok (Granted 1)) ≡ untold)
    × (told_without_memory (Err (call.Ask EmptyRequest)) ≡ told (Err (call.Ask EmptyRequest)))
without_memory = (refl, refl)

tells : Tells (Ok (Denied 2)) (told (Ok (Denied 2))) × Tells (Ok (Denied 2)) untold
tells = (inl refl, inr refl)

tells_no_other_verdict : Tells (Ok (Denied 2)) (told (Ok (Granted 2))) → ⊥
tells_no_other_verdict (inl same) = let flag : true ≡ false = ap (λ (v : VerdictOutcome). v.granted) same in cc
tells_no_other_verdict (inr same) = let flag : true ≡ false = ap (λ (v : VerdictOutcome). v.granted) same in cc

-- A token in memory: the mark, one SID, its key, and its numbers; S-1-1-0, deny-only.
everyone_memory : List ℕ
everyone_memory =
    0x6B6F_7473 ∷ 1 ∷ 0x1000_0000
    ∷ 0 ∷ 1 ∷ 1 ∷ 1 ∷ 0 ∷ 0 ∷ 0 ∷ 0 ∷ 0 ∷ 0 ∷ 0 ∷ 0 ∷ 0 ∷ 0 ∷ 0 ∷ 0 ∷ 0 ∷ 0 ∷ 0 ∷ []

sizes : (token_size 0 ≡ 2) × (token_size 1 ≡ 22) × (token_size 20 ≡ 402) × (length everyone_memory ≡ 22)
unfolding everyone_memory
sizes = (refl, refl, refl, refl)

-- SDTOOL_MOST_SIDS and SDTOOL_TOKEN_WORDS(SDTOOL_MOST_SIDS): more SIDs are told before the size
read_most_sids : (sids kinds : List ℕ) → length kinds ≡ 1024
    → reading sids kinds 20482 ≡ read_or_failed (entries_from 0 sids kinds)
unfolding reading
read_most_sids sids kinds h = rw h refl

most_sids_without_room : (sids kinds : List ℕ) → length kinds ≡ 1024 → reading sids kinds 20481 ≡ Err (too_small 20482)
unfolding reading
most_sids_without_room sids kinds h = rw h refl

read_one_sid_more : (sids kinds : List ℕ) → length kinds ≡ 1025
    → reading sids kinds 0 ≡ Err (failed (call.Argument which.Entries 1024))
unfolding reading
read_one_sid_more sids kinds h = rw h refl

-- 20480 numbers behind the mark and the number of SIDs are those of 1,024 SIDs
holds_most_sids : (numbers : List ℕ) → length numbers ≡ 20480 → holds_token (0x6B6F_7473 ∷ 1024 ∷ numbers) ≡ true
holds_most_sids numbers h = rw h refl

holds_no_more_sids : (numbers : List ℕ) → holds_token (0x6B6F_7473 ∷ 1025 ∷ numbers) ≡ false
holds_no_more_sids numbers = refl

-- what the memory holds after a token was read, and after a wrong entry
reads_everyone : ReadsToken everyone (1 ∷ []) (replicate 22 7) everyone_memory (done 22)
unfolding reading sid_at entries_held everyone_memory
reads_everyone = (refl, refl)

reads_wrong_entry : ReadsToken everyone (2 ∷ []) everyone_memory (0 ∷ []) (failed (call.Argument which.Entries 0))
unfolding reading entries_held everyone_memory
reads_wrong_entry = (refl, refl)

leaves_the_earlier_token : ReadsToken everyone (2 ∷ []) everyone_memory everyone_memory
    (failed (call.Argument which.Entries 0)) → ⊥
unfolding reading entries_held everyone_memory
leaves_the_earlier_token h = let none = h.1 in cc

two_entries_and_more : record {
  two_entries : entries_from 0 (everyone ++ system) (0 ∷ 1 ∷ []) ≡ Ok (
      (record { authority = 1; subs = 0 ∷ [] }, Enabled) ∷ (record { authority = 5; subs = 18 ∷ [] }, DenyOnly) ∷ []);
  -- one SID too few, and one too many
  missing_sid : entries_from 0 everyone (0 ∷ 0 ∷ []) ≡ Err (call.Argument which.Sids 1);
  spare_sid : entries_from 0 (everyone ++ system) (0 ∷ []) ≡ Err (call.Argument which.Sids 1);
  -- The kind of an entry is looked at before its SID.
  kind_first : entries_from 0 [] (2 ∷ []) ≡ Err (call.Argument which.Entries 0);
  -- Without SDTOOL_HAS_LEVEL the level means nothing, and with it 0 is a level.
  levels : level_of (record request { asker = of_key 6 })
      ∷ level_of (record request { asker = record (of_key 1) { level = 0 } }) ∷ level_of request ∷ []
      ≡ None ∷ Some 0 ∷ Some 8192 ∷ [];
  -- each option, and each other bit: of who asks, and of a request
  options : options_in (record request { asker = of_key 7; options = 1 }) ≡ Ok tt;
  no_option : options_in (record request { asker = of_key 8 }) ≡ Err (call.Argument which.Options 0);
  highest_bit : options_in (record request { asker = of_key 0x8000_0007 }) ≡ Err (call.Argument which.Options 0);
  no_option_of_a_request : options_in (record request { options = 2 }) ≡ Err (call.Argument which.Options 0);
  highest_bit_of_a_request : options_in (record request { options = 0x8000_0001 })
      ≡ Err (call.Argument which.Options 0);
  asker : asker_in everyone (1 ∷ []) [] system request
      ≡ Ok (record { entries = everyone_denied; level = Some 8192 }, requested);
  object_is_asked : ask_in (record request { wanted = 1; asker = of_key 1 }) type_bytes [] ≡ Ok asked_of_a_type;
  denied : told (Ok (Denied 2))
      ≡ record { outcome = told_by 0 0 0; mask = 2; granted = false };
  -- A fault grants nothing.
  empty_request : told (Err (call.Ask EmptyRequest))
      ≡ record { outcome = told_by 50 0 0; mask = 0; granted = false };
  reserved_bits : told (Err (call.Ask ReservedBits))
      ≡ record { outcome = told_by 51 0 0; mask = 0; granted = false };
  wrong_entry : told (Err (call.Argument which.Entries 7))
      ≡ record { outcome = told_by 70 3 7; mask = 0; granted = false };
  refused_malloc : untold
      ≡ record { outcome = told_by 72 0 0; mask = 0; granted = false };
  held : entries_held everyone_memory ≡ Ok everyone_denied;
  -- memory with room behind the token
  held_in_more : entries_held (everyone_memory ++ 7 ∷ []) ≡ Ok everyone_denied;
  -- S-1-5, whose key is 0
  without_sub_authorities : entries_held (0x6B6F_7473 ∷ 1 ∷ 0 ∷ 0 ∷ 5 ∷ 0 ∷ 0 ∷ replicate 15 0)
      ≡ Ok ((record { authority = 5; subs = [] }, Enabled) ∷ []);
  -- a token of no SIDs, memory that is empty, zeros, or another mark, a token that is cut, and one of 1,025
  no_sids : entries_held (0x6B6F_7473 ∷ 0 ∷ []) ≡ Ok [];
  no_memory_token : entries_held [] ≡ Err (call.Argument which.Token 0);
  never_filled : entries_held (0 ∷ 0 ∷ []) ≡ Err (call.Argument which.Token 0);
  mark_alone : entries_held (0x6B6F_7473 ∷ []) ≡ Err (call.Argument which.Token 0);
  cut_token : entries_held (take 21 everyone_memory) ≡ Err (call.Argument which.Token 0);
  too_many : entries_held (0x6B6F_7473 ∷ 1025 ∷ []) ≡ Err (call.Argument which.Token 0);
  -- what is told of memory without room, and of a wrong SID
  short_of_room : reading everyone (1 ∷ []) 21 ≡ Err (too_small 22);
  read_everyone : reading everyone (1 ∷ []) 22 ≡ Ok everyone_denied;
  read_without_room_first : reading [] (2 ∷ []) 21 ≡ Err (too_small 22);
  read_wrong_entry : reading [] (2 ∷ []) 22 ≡ Err (failed (call.Argument which.Entries 0));
  read_no_sids : reading [] [] 2 ≡ Ok [];
}
unfolding sid_at asker_in entries_in ask_in object_in optional_sid_in mapped entries_held everyone_memory reading
two_entries_and_more = search rules

-- ---- a check with a token in memory

-- TOKEN is looked at first, then what is asked, and the descriptor last.
order_with_a_token : (bytes : List ℕ)
    → (checked_held bytes (0 ∷ 0 ∷ []) (0 ∷ []) (0 ∷ []) of_no_mapping
    ≡ Err (call.Argument which.Token 0))
    × (checked_held bytes [] [] [] (record request { wanted = 0 }) ≡ Err (call.Argument which.Token 0))
    × (checked_held bytes everyone_memory (0 ∷ []) (0 ∷ []) of_no_mapping
    ≡ Err (call.Argument which.Mapping 0))
    × (checked_held bytes everyone_memory [] [] (record request { wanted = 0 }) ≡ Err (call.Ask EmptyRequest))
unfolding ask_in object_in optional_sid_in entries_held everyone_memory
order_with_a_token bytes = (refl, refl, refl, refl)

too_many_bytes_with_a_token : (bytes : List ℕ) → length bytes ≡ 131227
    → told (checked_held bytes everyone_memory [] [] request) ≡ too_long
unfolding ask_in object_in optional_sid_in mapped entries_held everyone_memory verdict_on descriptor_in
too_many_bytes_with_a_token bytes h = rw h refl

-- what is asked by an entry of the token, with the level of the request and without it
with_a_token : (bytes : List ℕ)
    → (checked_held bytes everyone_memory type_bytes [] (record request { wanted = 1; asker = of_key 1 })
    ≡ verdict_on bytes
    (record { entries = everyone_denied; level = Some 8192 }) asked_of_a_type)
    × (checked_held bytes everyone_memory [] system (record request { asker = of_key 6 })
    ≡ verdict_on bytes
    (record { entries = everyone_denied; level = None }) (record requested { take_ownership = true }))
unfolding ask_in object_in optional_sid_in sid_at mapped entries_held everyone_memory
with_a_token bytes = (refl, refl)
