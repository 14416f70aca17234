-- Worked rows of command lines, computed.
use Rattle.std.proofs.Common.{◌≡◌, ◌≤◌, ◌+◌, ℕ, List, [], ◌∷◌, ◌++◌, None, Some, Result, Ok, Err, true, false, codes}
use Rattle.std.proofs.Common.{Global, String, arith, inl, inr, refl, rules}
use Rattle.std.specs.List.{flat_map}
use Rattle.std.specs.Option.{option_map}
use Rattle.std.specs.Prelude.{length, map, replicate}
use Rattle.std.specs.String.{string_bytes}
use Rattle.clap.specs.Words.{Text, fault_of, takes}
use Rattle.clap.proofs.OnLiterals.{clap_on_literals}
use Rattle.uuid.specs.Text.{by_index}
use Rattle.sd_text.specs.Names.{run_of}
use Rattle.sd_sid.specs.Sid.{SecurityId}
use Rattle.sd_sid.specs.SidText.{has_form, letters_read, numbers_read, sid_reads}
use Rattle.sd_ace.specs.GuidText.{guid_reads}
use Rattle.sd_rights.specs.Rights.{rights_reads}
use Rattle.sd_view.specs.declared.acl_part.AclPart.TheVariants as acl
use Rattle.sd_sddl_builder.specs.Meaning.{body_reads, means}
use Rattle.sd_check.specs.Ask.{Asked}
use Rattle.sd_check.specs.declared.ask.AskFault.TheVariants.{EmptyRequest, ReservedBits}
use Rattle.sd_token.specs.Token.{Holder}
use Rattle.sd_token.specs.declared.token.EntryKind.TheVariants.{DenyOnly, Enabled}
use Rattle.sd_inherit.specs.declared.plan.Plan.{Plan}
use Rattle.sd_inherit.specs.declared.plan.Target.TheVariants.{Container, File}
use Rattle.sd_answer.specs.declared.job.Act.{Act}
use Rattle.sd_answer.specs.declared.job.Act.TheVariants.{Check, Convert, Derive, Explain}
use Rattle.sd_answer.specs.declared.job.Form.TheVariants.{Base64, Hex, Sddl}
use Rattle.sd_answer.specs.declared.job.Job.{Job}
use Rattle.sd_answer.specs.declared.job.OutputForm.TheVariants as output
use Rattle.sd_command.specs.declared.options.OptionName.TheVariants as name
use Rattle.sd_command.specs.declared.parse.EarlyEnd.TheVariants.{Help, NoMemory, Usage}
use Rattle.sd_command.specs.declared.settings.UsageFault.TheVariants.{NoCommand, Unasked, Value}
use Rattle.sd_command.specs.declared.settings.CommandName.TheVariants as command
use Rattle.sd_command.specs.declared.program.Prepared.{Prepared}
use Rattle.sd_command.specs.declared.program.Stop.TheVariants as stop
use Rattle.sd_run.specs.declared.engine.RunFault.{RunFault}
use Rattle.sd_run.specs.declared.engine.RunFault.TheVariants.{Read, TooManyReads, Write}
use Rattle.sd_command.specs.CommandLine.{bare_line, check_line, convert_line, derive_line, explain_line, line}
use Rattle.sd_command.specs.CommandLine.{option_text}
use Rattle.sd_run.specs.declared.engine.Report.{Report}
use Rattle.sd_run.specs.Told.{DrainTold, SourceTold}
use Rattle.sd_command.specs.Endings.{EndsBy, EndsRefused, EndsWithHelp, EndsWithoutMemory, IsIdle, IsIdleAt, RunOf}
use Rattle.sd_command.specs.Endings.{Says, SaysOf, Told, run_line, status_of}
use Rattle.sd_command.specs.Preparing.{EndsNoticed, Notice, PreparesBy, StopsTaken, notice_of, settled as settles}
use Rattle.sd_command.specs.Settings.{Settings, asked, check_own, domain_reads, given_level, given_object, given_sid}
use Rattle.sd_command.specs.Settings.{command_reads, form_reads, given_token, given_want, level_reads, mapping_reads}
use Rattle.sd_command.specs.Settings.{target_reads, command_chosen, convert_own, derive_own, given_creator, nobody}
use Rattle.sd_command.specs.Settings.{settings_of, given_domain, given_kind, given_mapping, given_form}
use Rattle.sd_command.specs.Settings.{given_output_form, is_set, needed_sid, task_with, with_creator}
use Rattle.sd_command.specs.TokenText.{entries_read}
use Rattle.sd_command.specs.Usage.{usage_line}
use Rattle.sd_rights.specs.Mapping.{directory_mapping, file_mapping, key_mapping, mapped}

-- `unfolding parsed_words` lets `refl` compute what the command line makes of words, and `unfolding settled_words` also
-- what they settle
parsed_words : Unit {0}
unfolding line bare_line convert_line explain_line check_line derive_line clap_on_literals
parsed_words = tt

settled_words : Unit {0}
unfolding settings_of command_chosen convert_own check_own derive_own with_creator task_with given_creator given_domain
    given_form given_output_form given_mapping given_kind given_sid needed_sid given_token given_want given_object
    given_level asked is_set domain_reads sid_reads has_form letters_read numbers_read entries_read rights_reads run_of
    guid_reads by_index mapped means body_reads parsed_words
settled_words = tt

-- a job over lines of hex
abbrev on_hex : Act → Job
on_hex act = record { line_form = Hex; act = act; domain = None; numeric = false }

-- the settings of words that name no creator
abbrev without_creator : Job → Holder → Settings
without_creator job holder = record { task = record { job = job; creator = None }; holder = holder }

abbrev everyone : SecurityId
everyone = record { authority = 1; subs = 0 ∷ [] }

abbrev system : SecurityId
system = record { authority = 5; subs = 18 ∷ [] }

abbrev to_hex : List Text
to_hex = codes "sdtool" ∷ codes "convert" ∷ codes "--to" ∷ codes "hex" ∷ []

abbrev to_xml : List Text
to_xml = codes "sdtool" ∷ codes "convert" ∷ codes "--to" ∷ codes "xml" ∷ []

settled : settings_of to_hex ≡ Ok (without_creator (on_hex (Convert output.Hex)) nobody)
unfolding settled_words
settled = refl

abbrev pub explain_sddl : List Text
explain_sddl = codes "sdtool" ∷ codes "explain" ∷ codes "--numeric" ∷ codes "--from" ∷ codes "sddl" ∷ []

abbrev pub derive_file : List Text
derive_file =
    codes "sdtool" ∷ codes "derive" ∷ codes "--owner" ∷ codes "S-1-5-18" ∷ codes "--group" ∷ codes "S-1-1-0"
    ∷ codes "--kind" ∷ codes "file" ∷ []

-- SYSTEM is the owner and Everyone the group of a new file
abbrev new_file : Plan
new_file = record { target = File; owner = system; group = everyone; mapping = file_mapping }

taken_and_more : record {
  taken : takes line to_hex ≡ true;
  no_fault : fault_of line to_hex ≡ [];
  not_settled : settings_of to_xml ≡ Err (Value name.To);
  explained : settings_of explain_sddl
      ≡ Ok (without_creator (record (on_hex Explain) { line_form = Sddl; numeric = true }) nobody);
  -- an explanation has one form
  no_form : takes line (codes "sdtool" ∷ codes "explain" ∷ codes "--to" ∷ codes "hex" ∷ []) ≡ false;
  derived : settings_of derive_file ≡ Ok (without_creator (on_hex (Derive new_file output.Sddl)) nobody);
  -- a kind has to be given
  no_kind : takes line (codes "sdtool" ∷ codes "derive" ∷ codes "--owner" ∷ codes "S-1-5-18" ∷ codes "--group"
      ∷ codes "S-1-1-0" ∷ []) ≡ false;
}
unfolding parsed_words settled_words
taken_and_more = search rules

-- levels: one to ten decimal digits below 2 ^ 32

pub levels : map level_reads
    (codes "0" ∷ codes "8192" ∷ codes "0000008192" ∷ codes "4294967295" ∷ [])
    ≡ Some 0 ∷ Some 8192 ∷ Some 8192 ∷ Some 4294967295 ∷ []
levels = refl

pub no_levels : map level_reads
    ([] ∷ codes "4294967296" ∷ codes "00000008192" ∷ codes "-1" ∷ codes "0x2000" ∷ codes "8192 " ∷ [])
    ≡ None ∷ None ∷ None ∷ None ∷ None ∷ None ∷ []
no_levels = refl

-- the words of forms, of types of object, of kinds and of commands

pub forms : map form_reads (codes "hex" ∷ codes "base64" ∷ codes "sddl" ∷ codes "HEX" ∷ [] ∷ [])
    ≡ Some Hex ∷ Some Base64 ∷ Some Sddl ∷ None ∷ None ∷ []
forms = refl

pub mappings : map mapping_reads (codes "file" ∷ codes "key" ∷ codes "ds" ∷ codes "File" ∷ [])
    ≡ Some file_mapping ∷ Some key_mapping ∷ Some directory_mapping ∷ None ∷ []
mappings = refl

pub targets : map target_reads (codes "file" ∷ codes "container" ∷ codes "folder" ∷ [])
    ≡ Some File ∷ Some Container ∷ None ∷ []
targets = refl

pub commands : map command_reads
    (codes "convert" ∷ codes "explain" ∷ codes "check" ∷ codes "derive" ∷ codes "diff" ∷ [])
    ≡ Some command.Convert ∷ Some command.Explain ∷ Some command.Check ∷ Some command.Derive ∷ None ∷ []
commands = refl

-- what is said of words that settle nothing

pub usage_lines : map usage_line
    (NoCommand ∷ Value name.To ∷ Value name.Creator ∷ Unasked EmptyRequest ∷ Unasked ReservedBits ∷ [])
    ≡ codes "sdtool: usage\n" ∷ codes "sdtool: usage: --to\n" ∷ codes "sdtool: usage: --creator\n"
    ∷ codes "sdtool: error 50 empty-request\n" ∷ codes "sdtool: error 51 reserved-bits\n" ∷ []
usage_lines = refl

pub run_lines : map run_line (Read ∷ Write ∷ TooManyReads ∷ [])
    ≡ codes "sdtool: error 60 read\n" ∷ codes "sdtool: error 61 write\n" ∷ codes "sdtool: error 62 too-many-reads\n"
    ∷ []
run_lines = refl

pub statuses : map status_of
    (Ok (record { lines = 3; faults = 0 }) ∷ Ok (record { lines = 3; faults = 1 }) ∷ Err Read ∷ Err Write
    ∷ Err TooManyReads ∷ [])
    ≡ 0 ∷ 1 ∷ 3 ∷ 3 ∷ 3 ∷ []
statuses = refl

-- the word of each option
pub option_words : map option_text
    (name.Domain ∷ name.From ∷ name.To ∷ name.Numeric ∷ name.Type ∷ name.Kind ∷ name.Owner ∷ name.Group
    ∷ name.Creator ∷ name.Token ∷ name.Want ∷ name.Maximum ∷ name.Object ∷ name.PrincipalSelf ∷ name.Security
    ∷ name.TakeOwnership ∷ name.Level ∷ [])
    ≡ codes "domain" ∷ codes "from" ∷ codes "to" ∷ codes "numeric" ∷ codes "type" ∷ codes "kind" ∷ codes "owner"
    ∷ codes "group" ∷ codes "creator" ∷ codes "token" ∷ codes "want" ∷ codes "maximum" ∷ codes "object"
    ∷ codes "self" ∷ codes "security" ∷ codes "take-ownership" ∷ codes "level" ∷ []
option_words = refl

-- 1,024 SIDs are a token, and one more is none; an exclamation mark makes a SID deny-only

abbrev pub many : ℕ → Text
many n = codes "WD" ++ flat_map (λ piece. piece) (replicate n (codes ",WD"))

pub most_sids : option_map length (entries_read None (many 1023)) ≡ Some 1024
unfolding entries_read sid_reads letters_read
most_sids = refl

pub too_many_sids : entries_read None (many 1024) ≡ None
unfolding entries_read sid_reads letters_read
too_many_sids = refl

pub deny_only : entries_read None (codes "WD,!SY") ≡ Some
    ((everyone, Enabled) ∷ (system, DenyOnly) ∷ [])
unfolding entries_read sid_reads letters_read
deny_only = refl

-- an empty entry, a blank, an alias of a domain without one, and a name
no_tokens : map (entries_read None)
    ([] ∷ codes "WD," ∷ codes ",WD" ∷ codes "WD,,SY" ∷ codes "WD,!" ∷ codes "WD, SY" ∷ codes "DA" ∷ codes "Everyone"
    ∷ [])
    ≡ None ∷ None ∷ None ∷ None ∷ None ∷ None ∷ None ∷ None ∷ []
unfolding entries_read sid_reads has_form letters_read numbers_read
no_tokens = refl

-- ---- a check, with all its options

a_domain : SecurityId
a_domain = record { authority = 5; subs = 21 ∷ 1 ∷ 2 ∷ 3 ∷ [] }

domain_admins : SecurityId
domain_admins = record { authority = 5; subs = 21 ∷ 1 ∷ 2 ∷ 3 ∷ 512 ∷ [] }

user_class : List ℕ
user_class =
    0xbf ∷ 0x96 ∷ 0x7a ∷ 0xba ∷ 0x0d ∷ 0xe6 ∷ 0x11 ∷ 0xd0 ∷ 0xa2 ∷ 0x85 ∷ 0x00 ∷ 0xaa ∷ 0x00 ∷ 0x30 ∷ 0x49 ∷ 0xe2 ∷ []

check_with : List Text → List Text
check_with options = codes "sdtool" ∷ codes "check" ∷ options

of_everyone : List Text → List Text
of_everyone options = check_with (codes "--token" ∷ codes "WD" ∷ options)

-- what Everyone asks of a file, with these rights
abbrev file_asked : ℕ → Asked
file_asked wanted = record {
  wanted = wanted;
  maximum = false;
  mapping = file_mapping;
  object = None;
  principal_self = None;
  security = false;
  take_ownership = false;
}

abbrev asks : Asked → Settings
asks asked = without_creator (on_hex (Check asked)) (record { entries = (everyone, Enabled) ∷ []; level = None })

-- the maximum is asked for by its option, or by bit 25 of the rights, which is no right itself
maximum : settings_of (of_everyone (codes "--maximum" ∷ [])) ≡ Ok (asks (record (file_asked 0) { maximum = true }))
unfolding settled_words check_with of_everyone
maximum = refl

all_options_and_more : record {
  -- to read a key is 0x20019
  all_options : settings_of (check_with (codes "--domain" ∷ codes "S-1-5-21-1-2-3" ∷ codes "--from" ∷ codes "base64"
      ∷ codes "--token" ∷ codes "WD,!DA" ∷ codes "--want" ∷ codes "GR" ∷ codes "--type" ∷ codes "key"
      ∷ codes "--object" ∷ codes "bf967aba-0de6-11d0-a285-00aa003049e2" ∷ codes "--self" ∷ codes "DA"
      ∷ codes "--security" ∷ codes "--take-ownership" ∷ codes "--level" ∷ codes "8192" ∷ []))
      ≡ Ok (without_creator
      (record {
        line_form = Base64;
        act = Check (record {
          wanted = 0x20019;
          maximum = false;
          mapping = key_mapping;
          object = Some user_class;
          principal_self = Some domain_admins;
          security = true;
          take_ownership = true;
        });
        domain = Some a_domain;
        numeric = false;
      })
      (record { entries = (everyone, Enabled) ∷ (domain_admins, DenyOnly) ∷ []; level = Some 8192 }));
  maximum_by_its_bit : settings_of (of_everyone (codes "--want" ∷ codes "0x2000001" ∷ []))
      ≡ Ok (asks (record (file_asked 1) { maximum = true }));
  rights_alone : settings_of (of_everyone (codes "--want" ∷ codes "SD" ∷ [])) ≡ Ok (asks (file_asked 0x10000));
}
unfolding settled_words check_with a_domain domain_admins user_class of_everyone
all_options_and_more = search rules

-- each privilege by its own option

security_alone_and_more : record {
  security_alone : settings_of (of_everyone (codes "--want" ∷ codes "1" ∷ codes "--security" ∷ []))
      ≡ Ok (asks (record (file_asked 1) { security = true }));
  take_ownership_alone : settings_of (of_everyone (codes "--want" ∷ codes "1" ∷ codes "--take-ownership" ∷ []))
      ≡ Ok (asks (record (file_asked 1) { take_ownership = true }));
  unasked : map settings_of
      (of_everyone [] ∷ of_everyone (codes "--want" ∷ codes "0" ∷ [])
      ∷ of_everyone (codes "--want" ∷ codes "0x4000001" ∷ []) ∷ of_everyone (codes "--want" ∷ codes "0x8000001" ∷ [])
      ∷ [])
      ≡ Err (Unasked EmptyRequest) ∷ Err (Unasked EmptyRequest) ∷ Err (Unasked ReservedBits)
      ∷ Err (Unasked ReservedBits) ∷ [];
}
unfolding settled_words check_with of_everyone
security_alone_and_more = search rules

-- ---- of two options that do not read the first in order is told

convert_with : List Text → List Text
convert_with options = codes "sdtool" ∷ codes "convert" ∷ options

derive_with : Text → Text → Text → List Text → List Text
derive_with kind owner group options =
    codes "sdtool" ∷ codes "derive" ∷ codes "--kind" ∷ kind ∷ codes "--owner" ∷ owner ∷ codes "--group" ∷ group
    ∷ options

order_of_check_and_more : record {
  order_of_check : map settings_of
      (check_with (codes "--domain" ∷ codes "?" ∷ codes "--from" ∷ codes "?" ∷ codes "--token" ∷ codes "WD" ∷ [])
      ∷ check_with (codes "--from" ∷ codes "?" ∷ codes "--type" ∷ codes "?" ∷ codes "--token" ∷ codes "WD" ∷ [])
      ∷ check_with (codes "--type" ∷ codes "?" ∷ codes "--token" ∷ codes "?" ∷ [])
      ∷ check_with (codes "--token" ∷ codes "?" ∷ codes "--want" ∷ codes "?" ∷ [])
      ∷ of_everyone (codes "--want" ∷ codes "?" ∷ codes "--object" ∷ codes "?" ∷ [])
      ∷ of_everyone (codes "--object" ∷ codes "?" ∷ codes "--self" ∷ codes "?" ∷ [])
      ∷ of_everyone (codes "--self" ∷ codes "?" ∷ codes "--level" ∷ codes "?" ∷ [])
      ∷ of_everyone (codes "--level" ∷ codes "?" ∷ []) ∷ [])
      ≡ Err (Value name.Domain) ∷ Err (Value name.From) ∷ Err (Value name.Type) ∷ Err (Value name.Token)
      ∷ Err (Value name.Want) ∷ Err (Value name.Object) ∷ Err (Value name.PrincipalSelf) ∷ Err (Value name.Level) ∷ [];
  order_of_convert : map settings_of
      (convert_with (codes "--domain" ∷ codes "DA" ∷ codes "--from" ∷ codes "?" ∷ [])
      ∷ convert_with (codes "--from" ∷ codes "?" ∷ codes "--to" ∷ codes "?" ∷ []) ∷ [])
      ≡ Err (Value name.Domain) ∷ Err (Value name.From) ∷ [];
  order_of_derive : map settings_of
      (derive_with (codes "file") (codes "SY") (codes "SY") (codes "--from" ∷ codes "?" ∷ codes "--to" ∷ codes "?" ∷ [])
      ∷ derive_with (codes "file") (codes "SY") (codes "SY") (codes "--to" ∷ codes "?" ∷ codes "--type" ∷ codes "?"
      ∷ [])
      ∷ derive_with (codes "?") (codes "SY") (codes "SY") (codes "--type" ∷ codes "?" ∷ [])
      ∷ derive_with (codes "?") (codes "?") (codes "SY") []
      ∷ derive_with (codes "file") (codes "DA") (codes "?") []
      ∷ derive_with (codes "file") (codes "SY") (codes "DA") (codes "--creator" ∷ codes "?" ∷ [])
      ∷ derive_with (codes "file") (codes "SY") (codes "SY") (codes "--creator" ∷ codes "O:DA" ∷ []) ∷ [])
      ≡ Err (Value name.From) ∷ Err (Value name.To) ∷ Err (Value name.Type) ∷ Err (Value name.Kind)
      ∷ Err (Value name.Owner) ∷ Err (Value name.Group) ∷ Err (Value name.Creator) ∷ [];
  -- aliases of a domain, in the owner and in the creator's descriptor
  derived_in_a_domain : settings_of (derive_with (codes "container") (codes "DA") (codes "SY")
      (codes "--domain" ∷ codes "S-1-5-21-1-2-3" ∷ codes "--creator" ∷ codes "O:DA" ∷ codes "--to" ∷ codes "base64"
      ∷ codes "--type" ∷ codes "ds" ∷ codes "--numeric" ∷ []))
      ≡ Ok (record {
        task = record {
          job = record {
            line_form = Hex;
            act = Derive (record {
              target = Container;
              owner = domain_admins;
              group = system;
              mapping = directory_mapping;
            }) output.Base64;
            domain = Some a_domain;
            numeric = true;
          };
          creator = Some (record {
            control = 0x8000;
            rm = 0;
            owner = Some domain_admins;
            group = None;
            sacl = acl.Absent;
            dacl = acl.Absent;
          });
        };
        holder = nobody;
      });
  -- and in the group, which needs the domain as the owner does
  group_in_a_domain : settings_of (derive_with (codes "file") (codes "SY") (codes "DA")
      (codes "--domain" ∷ codes "S-1-5-21-1-2-3" ∷ []))
      ≡ Ok (without_creator (record
      (on_hex (Derive (record new_file { group = domain_admins }) output.Sddl)) { domain = Some a_domain }) nobody);
  -- a domain has room for one sub-authority more
  domains : map domain_reads
      (codes "S-1-5-21-1-2-3" ∷ codes "DA" ∷ codes "S-1-5-1-2-3-4-5-6-7-8-9-10-11-12-13-14"
      ∷ codes "S-1-5-1-2-3-4-5-6-7-8-9-10-11-12-13-14-15" ∷ [])
      ≡ Some a_domain ∷ None
      ∷ Some (record { authority = 5; subs = 1 ∷ 2 ∷ 3 ∷ 4 ∷ 5 ∷ 6 ∷ 7 ∷ 8 ∷ 9 ∷ 10 ∷ 11 ∷ 12 ∷ 13 ∷ 14 ∷ [] })
      ∷ None ∷ [];
}
unfolding settled_words check_with of_everyone convert_with derive_with a_domain domain_admins
order_of_check_and_more = search rules

-- ---- endings

without_memory : (told told' : Told) (status : ℕ) → EndsWithoutMemory told told' status
    → (status ≡ 4) × IsIdle told.source told'.source told.output told'.output
    × Says (codes "sdtool: no memory\n") told.faults told'.faults
without_memory told told' status h = h

refused : (told told' : Told) (status : ℕ) → EndsRefused told told' status
    → (status ≡ 2) × IsIdle told.source told'.source told.output told'.output
    × Says (codes "sdtool: usage\n") told.faults told'.faults
refused told told' status h = h

helped : (told told' : Told) (status : ℕ) → EndsWithHelp told told' status
    → (status ≡ 0) × (told'.source ≡ told.source) × (told'.faults ≡ told.faults)
helped told told' status (text, shows) = (shows.0, shows.1, shows.2)

idle_at_2 : (told told' : Told) → IsIdleAt 2 told told' → IsIdle told.source told'.source told.output told'.output
idle_at_2 told told' h = h (inl refl)

idle_at_4 : (told told' : Told) → IsIdleAt 4 told told' → IsIdle told.source told'.source told.output told'.output
idle_at_4 told told' h = h (inr refl)

-- a run makes at most 2 ^ 40 reads, and no comparison is counted before it
most_reads : (settings : Settings) (source source' : SourceTold) (output output' : DrainTold) (report : Report)
    → RunOf settings source source' output output' (Ok report) → source'.reads ≤ source.reads + 1099511627776
most_reads settings source source' output output' report run = run.outcome.reads

new_token : (settings : Settings) (source source' : SourceTold) (output output' : DrainTold)
    (result : Result Report RunFault) (run : RunOf settings source source' output output' result)
    → run.token.compared ≡ 0
new_token settings source source' output output' result run = run.none_compared

-- a run that ends says nothing, and one that fails says why
run_says : (report : Report) (drain drain' : DrainTold)
    → (SaysOf (Ok report) drain drain' → drain' ≡ drain)
    × (SaysOf (Err Write) drain drain' → Says (codes "sdtool: error 61 write\n") drain drain')
run_says report drain drain' = (λ h. h, λ h. h)

-- ---- how the program ends on some words (EXIT STATUS and USAGE MESSAGES of docs/sdtool.1)

abbrev bare : List Text
bare = codes "sdtool" ∷ []

abbrev for_help : List Text
for_help = codes "sdtool" ∷ codes "help" ∷ []

-- no command is named
bare_may_be_refused : (told told' : Told) (status : ℕ) → EndsRefused told told' status → EndsBy bare told told' status
unfolding parsed_words
bare_may_be_refused told told' status h = EndsBy.refused refl h

bare_does_not_succeed : (told told' : Told) → EndsBy bare told told' 0 → ⊥
unfolding parsed_words
bare_does_not_succeed told told' (EndsBy.without_memory h) = omega (arith, h.0)
bare_does_not_succeed told told' (EndsBy.refused is h) = omega (arith, h.0)
bare_does_not_succeed told told' (EndsBy.helped (inl is) h) = cc
bare_does_not_succeed told told' (EndsBy.helped (inr none) h) = none
bare_does_not_succeed told told' (EndsBy.settled is h) = cc

help_may_be_shown : (told told' : Told) (status : ℕ) → EndsWithHelp told told' status
    → EndsBy for_help told told' status
unfolding parsed_words
help_may_be_shown told told' status h = EndsBy.helped (inl refl) h

-- XML is no form
form_may_be_refused : (told told' : Told) → IsIdle told.source told'.source told.output told'.output
    → Says (codes "sdtool: usage: --to\n") told.faults told'.faults → EndsBy to_xml told told' 2
unfolding settled_words
form_may_be_refused told told' idle said = EndsBy.settled refl (refl, idle, said)

notices : map notice_of
    (stop.Early NoMemory ∷ stop.Early Usage ∷ stop.Value NoCommand ∷ stop.Value (Value name.To) ∷ [])
    ≡ Notice.fault 4 (codes "sdtool: no memory\n") ∷ Notice.fault 2 (codes "sdtool: usage\n")
    ∷ Notice.fault 2 (codes "sdtool: usage\n") ∷ Notice.fault 2 (codes "sdtool: usage: --to\n") ∷ []
notices = refl

notice_of_help : (text : String Global) → notice_of (stop.Early (Help text)) ≡ Notice.help (string_bytes text)
notice_of_help text = refl

noticed_help : (text : List ℕ) (told told' : Told) (status : ℕ) → EndsNoticed (Notice.help text) told told' status
    → (status ≡ 0) × (told'.source ≡ told.source) × (told'.faults ≡ told.faults)
noticed_help text told told' status shows = (shows.0, shows.1, shows.2)

noticed_fault : (text : List ℕ) (told told' : Told) (status : ℕ) → EndsNoticed (Notice.fault 4 text) told told' status
    → (status ≡ 4) × IsIdle told.source told'.source told.output told'.output × Says text told.faults told'.faults
noticed_fault text told told' status h = h

-- Only out of memory stops words that are taken.

stops_without_memory : StopsTaken (Err (stop.Early NoMemory))
stops_without_memory = refl

stops_for_no_usage : StopsTaken (Err (stop.Early Usage)) → ⊥
stops_for_no_usage h = let bad : Usage ≡ NoMemory = h in cc

-- what words prepare, and why they prepare nothing

prepared_words : (prepared : Prepared) → settles prepared ≡ without_creator (on_hex (Convert output.Hex)) nobody
    → prepared.token.compared ≡ 0 → PreparesBy to_hex (Ok prepared)
unfolding settled_words
prepared_words prepared is none = (refl, (rw is refl, none))

stopped_words : PreparesBy bare (Err (stop.Early Usage)) × PreparesBy to_xml (Err (stop.Value (Value name.To)))
unfolding settled_words
stopped_words = (refl, (refl, refl))
