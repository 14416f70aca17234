-- Worked rows of lines and answers, computed.
use Rattle.std.proofs.Common.{◌≡◌, ◌∙◌, ℕ, ◌+◌, ◌*◌, ◌-◌, ◌/◌, ◌^◌, List, [], ◌∷◌, ◌++◌, Option, Some, None, Ok, Err}
use Rattle.std.proofs.Common.{true, false, codes, ap, drop, length, min, refl, sym, arith, rules}
use Rattle.std.specs.Fmt.{digits}
use Rattle.std.specs.Prelude.{map}
use Rattle.base64.proofs.OnLiterals.{base64_on_literals}
use Rattle.hex.proofs.OnLiterals.{hex_on_literals}
use Rattle.sd_text.specs.Limits.{most_base64_text, most_hex_text, most_sddl_text}
use Rattle.sd_sid.specs.Sid.{SecurityId, sid_at}
use Rattle.sd_sid.specs.SidText.{alias_of, has_form, letters_read, numbers_read, sid_reads}
use Rattle.sd_sid.specs.declared.sid_text.SidFault.TheVariants as sid
use Rattle.sd_parts.specs.declared.part.Which.TheVariants as which
use Rattle.sd_inherit.specs.Derived.{derive_fault, derived}
use Rattle.sd_inherit.specs.declared.derivation.DeriveFault.TheVariants.{DerivedTooLarge}
use Rattle.sd_inherit.specs.declared.plan.Plan.{Plan}
use Rattle.sd_inherit.specs.declared.plan.Target.TheVariants.{File}
use Rattle.sd_sddl_builder.specs.Meaning.{body_reads, means}
use Rattle.sd_sddl_builder.specs.declared.fault.SddlFault.TheVariants as sddl
use Rattle.sd_parts.specs.declared.limits.TheConstants.{CAPACITY}
use Rattle.sd_parts.specs.Header.{header_bytes}
use Rattle.sd_buffer.specs.Text.{base64_spells, hex_spells}
use Rattle.sd_acl_view.specs.Bytes.{u16_at, u32_at}
use Rattle.sd_view.specs.Reading.{acl_part_fault, acl_shown, fault, header_fault, overlap_fault, overlaps_fault}
use Rattle.sd_view.specs.Reading.{parts_fault, reading, sid_fault, sid_shown}
use Rattle.sd_view.specs.declared.acl_part.AclPart.TheVariants as acl
use Rattle.sd_view.specs.Descriptor.{Descriptor}
use Rattle.sd_explain.specs.Explain.{control_line, explain, rm_line, sid_line, sid_words}
use Rattle.sd_sddl_printer.specs.Printed.{acl_flags_text, dacl_text, group_text, owner_text, sacl_text, sddl as sddl_of}
use Rattle.sd_sddl_printer.specs.Printed.{trustee_text}
use Rattle.sd_sink.specs.Sink.{SinkTold}
use Rattle.sd_check.specs.declared.verdict.Verdict.TheVariants.{Denied, Granted}
use Rattle.sd_token.specs.Token.{Holder}
use Rattle.sd_token.specs.declared.token.EntryKind.TheVariants.{Enabled}
use Rattle.sd_check.specs.Ask.{Asked}
use Rattle.sd_check.specs.Granted.{granted}
use Rattle.sd_check.specs.Verdict.{missing, rights_below, verdict, won}
use Rattle.sd_answer.specs.Answer.{act_outcome, answer, bound, form_text, is_error, line_limit, line_means, output_of}
use Rattle.sd_answer.specs.Answer.{printed_size, text_means, verdict_text}
use Rattle.sd_faults.specs.Faults.{fault_text}
use Rattle.sd_answer.specs.Inner.Reading.{HasRead}
use Rattle.sd_answer.specs.LineEnd.{without_cr}
use Rattle.sd_answer.specs.LineInHand.{Holds, HoldsText, PutsAnswer, pending}
use Rattle.sd_answer.specs.declared.line.Line.{Line}
use Rattle.sd_faults.specs.declared.line_fault.LineFault.TheVariants.{Sddl, TooLong}
use Rattle.sd_answer.specs.declared.job.Act.{Act}
use Rattle.sd_answer.specs.declared.job.Act.TheVariants.{Check, Convert, Derive as DeriveAct, Explain}
use Rattle.sd_answer.specs.declared.job.Form.{Form}
use Rattle.sd_answer.specs.declared.job.Form.TheVariants.{Base64, Hex, Sddl as SddlForm}
use Rattle.sd_answer.specs.declared.job.Job.{Job}
use Rattle.sd_answer.specs.declared.job.OutputForm.TheVariants as output
use Rattle.sd_answer.specs.declared.job.Task.{Task}

-- the longest descriptor that is held, and the limits of a line that follow from it
pub longest : CAPACITY ≡ 131226
longest = refl

pub longest_lines : (most_hex_text ≡ 2 * CAPACITY) × (most_base64_text ≡ 4 * (CAPACITY / 3))
    × (most_sddl_text ≡ 8 * CAPACITY + 64)
longest_lines = (refl, refl, refl)

abbrev nobody : Holder
nobody = record { entries = []; level = None }

abbrev alone : Job → Task
alone job = record { job = job; creator = None }

-- a job over lines of hex
abbrev hex_to : Act → Job
hex_to act = record { line_form = Hex; act = act; domain = None; numeric = false }

abbrev hex_to_hex : Job
hex_to_hex = hex_to (Convert output.Hex)

pub empty_answer : answer (alone hex_to_hex) nobody [] ≡ 10 ∷ []
unfolding answer
empty_answer = refl

pub short_answer : answer (alone hex_to_hex) nobody (codes "0100048014") ≡ codes "error 5 short" ++ 10 ∷ []
unfolding answer line_means hex_spells hex_on_literals reading fault header_fault fault_text digits
short_answer = refl

pub sid_answer : answer (alone hex_to_hex) nobody
    (codes "01000080140000000000000000000000000000000110000000000005") ≡ codes "error 9 sid owner" ++ 10 ∷ []
unfolding answer line_means hex_spells hex_on_literals reading fault header_fault parts_fault sid_fault sid_at u16_at
    u32_at fault_text digits
sid_answer = refl

pub header_answer : answer (alone hex_to_hex) nobody (codes "01FF008000000000000000000000000000000000") ≡ codes
    "01ff008000000000000000000000000000000000" ++ 10 ∷ []
unfolding answer line_means form_text hex_spells hex_on_literals reading fault header_fault parts_fault sid_fault
    sid_shown acl_part_fault acl_shown overlaps_fault overlap_fault u16_at u32_at header_bytes
header_answer = refl

abbrev base64_to_hex : Job
base64_to_hex = record hex_to_hex { line_form = Base64 }

pub base64_answer : answer (alone base64_to_hex) nobody (codes "Af8AgAAAAAAAAAAAAAAAAAAAAAA=") ≡ codes
    "01ff008000000000000000000000000000000000" ++ 10 ∷ []
unfolding answer line_means form_text base64_spells base64_on_literals hex_on_literals reading fault header_fault
    parts_fault sid_fault sid_shown acl_part_fault acl_shown overlaps_fault overlap_fault u16_at u32_at header_bytes
base64_answer = refl

abbrev hex_to_base64 : Job
hex_to_base64 = hex_to (Convert output.Base64)

pub answer_in_base64 : answer (alone hex_to_base64) nobody (codes "01FF008000000000000000000000000000000000") ≡ codes
    "Af8AgAAAAAAAAAAAAAAAAAAAAAA=" ++ 10 ∷ []
unfolding answer line_means form_text hex_spells base64_on_literals hex_on_literals reading fault header_fault
    parts_fault sid_fault sid_shown acl_part_fault acl_shown overlaps_fault overlap_fault u16_at u32_at header_bytes
answer_in_base64 = refl

-- a verdict has eight digits
verdicts : map verdict_text (Granted 0x1200a9 ∷ Denied 0 ∷ [])
    ≡ codes "granted 0x001200a9" ∷ codes "denied 0x00000000" ∷ []
verdicts = refl

-- each form of a line, with its limit and the form of an answer

limits_and_more : record {
  limits : map line_limit (Hex ∷ Base64 ∷ SddlForm ∷ []) ≡ 262452 ∷ 174968 ∷ 1049872 ∷ [];
  outputs : map output_of (Hex ∷ Base64 ∷ SddlForm ∷ []) ≡ output.Hex ∷ output.Base64 ∷ output.Sddl ∷ [];
  -- one CR at the end of a line is dropped, and no LF
  ends : map without_cr (codes "a\r" ∷ codes "a\r\r" ∷ codes "\ra" ∷ codes "a\n" ∷ [] ∷ [])
      ≡ codes "a" ∷ codes "a\r" ∷ codes "\ra" ∷ codes "a\n" ∷ [] ∷ [];
}
unfolding without_cr
limits_and_more = search rules

-- what is counted of each answer: whether it is an error, and the comparisons that it may need

header_alone : List ℕ
header_alone = codes "0100008000000000000000000000000000000000"

-- everyone twice
two_entries : Holder
two_entries = record {
  entries = (record { authority = 1; subs = 0 ∷ [] }, Enabled) ∷ (record { authority = 1; subs = 0 ∷ [] }, Enabled)
      ∷ [];
  level = None;
}

first_right : Asked
first_right = record {
  wanted = 1;
  maximum = false;
  mapping = record { read = 1; write = 2; execute = 4; all = 7 };
  object = None;
  principal_self = None;
  security = false;
  take_ownership = false;
}

counted : Unit {0}
unfolding answer is_error bound line_means hex_spells hex_on_literals reading fault header_fault parts_fault sid_fault
    sid_shown acl_part_fault acl_shown overlaps_fault overlap_fault u16_at u32_at header_bytes header_alone
    two_entries
counted = tt

errors_and_more : record {
  errors : is_error (alone hex_to_hex) two_entries (codes "zz")
      ∷ is_error (alone hex_to_hex) two_entries header_alone
      ∷ is_error (alone (hex_to Explain)) two_entries header_alone
      ∷ is_error (alone (hex_to (Check first_right))) two_entries header_alone
      ∷ is_error (alone (hex_to Explain)) two_entries [] ∷ [] ≡ true ∷ false ∷ false ∷ false ∷ false ∷ [];
  comparisons : bound (alone hex_to_hex) two_entries (codes "zz")
      ∷ bound (alone hex_to_hex) two_entries header_alone
      ∷ bound (alone (hex_to Explain)) two_entries header_alone
      ∷ bound (alone (hex_to (Check first_right))) two_entries header_alone
      ∷ bound (alone (hex_to (Check first_right))) two_entries [] ∷ [] ≡ 0 ∷ 0 ∷ 0 ∷ 2 ∷ 0 ∷ [];
  check_answer : answer (alone (hex_to (Check first_right))) two_entries header_alone
      ≡ codes "granted 0x00000001" ++ 10 ∷ [];
  explain_answer : answer (alone (hex_to Explain)) two_entries header_alone
      ≡ codes "control 0x8000 SR\nrm 0x00\nowner none\ngroup none\ndacl absent\nsacl absent\nend\n";
  -- a verdict prints no descriptor
  printed_sizes : printed_size None ∷ printed_size (Some (record
      { control = 0x8000; rm = 0; owner = None; group = None; sacl = acl.Absent; dacl = acl.Absent })) ∷ []
      ≡ 0 ∷ 20 ∷ [];
}
unfolding counted first_right granted missing rights_below verdict won explain control_line rm_line sid_line
errors_and_more = search rules

-- the edge of each form's limit: a line of so many bytes is read, and one of a byte more is too long, whatever it has

abbrev AreRead : Form → ℕ → Type 0
AreRead form size = (line : List ℕ) → length line ≡ size → line_means form None line ≡ text_means form None line

abbrev AreTooLong : Form → ℕ → Type 0
AreTooLong form size = (line : List ℕ) → length line ≡ size → line_means form None line ≡ Err TooLong

longest_lines_are_read : AreRead Hex 262452 × AreRead Base64 174968 × AreRead SddlForm 1049872
unfolding line_means
longest_lines_are_read = (λ line n. rw n refl, λ line n. rw n refl, λ line n. rw n refl)

longer_lines_are_too_long : AreTooLong Hex 262453 × AreTooLong Base64 174969 × AreTooLong SddlForm 1049873
unfolding line_means
longer_lines_are_too_long = (λ line n. rw n refl, λ line n. rw n refl, λ line n. rw n refl)

-- ---- more than a header

-- `unfolding answered` lets `refl` compute an answer
answered : Unit {0}
unfolding counted form_text base64_spells base64_on_literals sid_at means body_reads sid_reads has_form letters_read
    numbers_read explain control_line rm_line sid_line sid_words sddl_of owner_text group_text dacl_text sacl_text
    acl_flags_text trustee_text alias_of digits derived derive_fault fault_text
answered = tt

-- Everyone as the owner, behind four bytes that no part has, and a null DACL; and without these bytes
loose : List ℕ
loose = codes "0100048018000000000000000000000000000000eeeeeeee010100000000000100000000"

forms_of_loose : map (λ form. answer (alone (hex_to (Convert form))) nobody loose)
    (output.Hex ∷ output.Base64 ∷ output.Sddl ∷ [])
    ≡ codes "0100048014000000000000000000000000000000010100000000000100000000\n"
    ∷ codes "AQAEgBQAAAAAAAAAAAAAAAAAAAABAQAAAAAAAQAAAAA=\n" ∷ codes "O:WDD:NO_ACCESS_CONTROL\n" ∷ []
unfolding answered loose
forms_of_loose = refl

-- the same from base64, and an owner and a group from SDDL

same_from_base64 : record {
  base64_of_loose : answer (alone base64_to_hex) nobody (codes "AQAEgBgAAAAAAAAAAAAAAAAAAADu7u7uAQEAAAAAAAEAAAAA")
      ≡ codes "0100048014000000000000000000000000000000010100000000000100000000\n";
  two_sids : answer (alone (record base64_to_hex { line_form = SddlForm })) nobody (codes "G:SYO:WD")
      ≡ codes "0100008014000000200000000000000000000000" ++ codes "010100000000000100000000"
      ++ codes "010100000000000512000000\n";
}
unfolding answered
same_from_base64 = search rules

-- ---- a domain: S-1-5-21-1-2-3, whose administrators are the owner

a_domain : SecurityId
a_domain = record { authority = 5; subs = 21 ∷ 1 ∷ 2 ∷ 3 ∷ [] }

owned_by_admins : List ℕ
owned_by_admins =
    codes "0100008014000000000000000000000000000000" ++ codes "01050000000000051500000001000000020000000300000000020000"

under_domain : Act → Job
under_domain act = record (hex_to act) { domain = Some a_domain }

-- a line of SDDL is read under it
admins : SecurityId
admins = record { authority = 5; subs = 21 ∷ 1 ∷ 2 ∷ 3 ∷ 512 ∷ [] }

answers_in_a_domain :
    answer (alone (record (under_domain (Convert output.Hex)) { line_form = SddlForm })) nobody (codes "O:DA")
    ∷ answer (alone (record hex_to_hex { line_form = SddlForm })) nobody (codes "O:DA") ∷ []
    ≡ (owned_by_admins ++ 10 ∷ []) ∷ codes "error 23 needs-domain\n" ∷ []
unfolding answered a_domain owned_by_admins under_domain
answers_in_a_domain = refl

printed_in_a_domain_and_more : record {
  -- an alias of the domain is printed under it alone, and not where numbers are asked for
  printed_in_a_domain : answer (alone (under_domain (Convert output.Sddl))) nobody owned_by_admins
      ∷ answer (alone (record (under_domain (Convert output.Sddl)) { numeric = true })) nobody owned_by_admins
      ∷ answer (alone (hex_to (Convert output.Sddl))) nobody owned_by_admins ∷ []
      ≡ codes "O:DA\n" ∷ codes "O:S-1-5-21-1-2-3-512\n" ∷ codes "O:S-1-5-21-1-2-3-512\n" ∷ [];
  explained_in_a_domain : answer (alone (under_domain Explain)) nobody owned_by_admins
      ∷ answer (alone (record (under_domain Explain) { numeric = true })) nobody owned_by_admins ∷ []
      ≡ codes "control 0x8000 SR\nrm 0x00\nowner S-1-5-21-1-2-3-512 DA\ngroup none\ndacl absent\nsacl absent\nend\n"
      ∷ codes "control 0x8000 SR\nrm 0x00\nowner S-1-5-21-1-2-3-512\ngroup none\ndacl absent\nsacl absent\nend\n" ∷ [];
  read_in_a_domain : line_means SddlForm (Some a_domain) (codes "O:DA") ∷ line_means SddlForm None (codes "O:DA") ∷ []
      ≡ Ok (record
      { control = 0x8000; rm = 0; owner = Some admins; group = None; sacl = acl.Absent; dacl = acl.Absent })
      ∷ Err (Sddl (sddl.Sid sid.NeedsDomain)) ∷ [];
}
unfolding answered a_domain owned_by_admins under_domain admins
printed_in_a_domain_and_more = search rules

-- ---- a derivation, from a container that hands nothing on (MS-DTYP 2.5.3.4)

for_a_file : Plan
for_a_file = record {
  target = File;
  owner = record { authority = 5; subs = 18 ∷ [] };
  group = record { authority = 1; subs = 0 ∷ [] };
  mapping = record { read = 1; write = 2; execute = 4; all = 7 };
}

with_null_dacl : Descriptor
with_null_dacl =
    record { control = 0x8004; rm = 0; owner = None; group = None; sacl = acl.Absent; dacl = acl.Null }

derive_with : Option Descriptor → Task
derive_with creator = record { job = hex_to (DeriveAct for_a_file output.Sddl); creator = creator }

-- a null DACL of the creator's stays null, and without a creator the DACL is empty
derived_answers : answer (derive_with (Some with_null_dacl)) nobody header_alone
    ∷ answer (derive_with None) nobody header_alone ∷ []
    ≡ codes "O:SYG:WDD:NO_ACCESS_CONTROL\n" ∷ codes "O:SYG:WDD:AI\n" ∷ []
unfolding answered for_a_file with_null_dacl derive_with
derived_answers = refl

-- what cannot be derived, with the creator's descriptor, is `error 40`
derived_too_large : (d : Descriptor) (creator : Option Descriptor)
    → derive_fault d creator for_a_file ≡ Some (DerivedTooLarge which.Dacl)
    → act_outcome (derive_with creator) nobody (DeriveAct for_a_file output.Hex) d
    ≡ record { text = codes "error 40 derived-too-large dacl\n"; is_error = true; bound = 0; printed = None }
unfolding fault_text digits derive_with
derived_too_large d creator h = rw h refl

-- ---- the line in hand

-- one that is as long as its limit is held whole
holds_the_longest : (line : Line) (text : List ℕ) → length text ≡ 174968 → HoldsText base64_to_hex line text
    → HasRead line.reader line.read line.held None text
holds_the_longest line text n h = h.whole (omega arith)

-- its bytes are counted, up to 2^64 - 1
counts_bytes : (line : Line) → HoldsText base64_to_hex line (codes "abc") → line.count ≡ 3
counts_bytes line h = h.counted

counts_no_more : (line : Line) (text : List ℕ) → length text ≡ 2 ^ 64 → HoldsText base64_to_hex line text
    → line.count ≡ 18446744073709551615
counts_no_more line text n h = h.counted ∙ ap (λ bytes. min bytes (2 ^ 64 - 1)) n

-- a CR at the end waits, and is not counted
cr_waits : (line : Line) → Holds base64_to_hex line (codes "a\r") → (line.count ≡ 1) × (pending line.cr ≡ 13 ∷ [])
unfolding without_cr
cr_waits line h = (h.text.counted, sym (ap (λ bytes. drop 1 bytes) h.waits))

no_cr_waits : (line : Line) → Holds base64_to_hex line (codes "\ra") → (line.count ≡ 2) × (pending line.cr ≡ [])
unfolding without_cr
no_cr_waits line h = (h.text.counted, sym (ap (λ bytes. drop 2 bytes) h.waits))

-- an answer tells whether it is an error
tells_errors : (old new : SinkTold) → PutsAnswer old new (codes "error 5 short\n") true (Ok false) → ⊥
tells_errors old new h = let same = h.1 in cc
