-- What the matches of a command line settle.
use Rattle.std.specs.Prelude.{ℕ, Bool, ◌&&◌, ◌||◌, ◌^◌, false, nat_le, nat_lt, if◌then◌else◌, List, [], length}
use Rattle.std.specs.Prelude.{Option, Some, None, Result, Ok, Err, codes, option_map}
use Rattle.std.specs.Str.{bytes_eq}
use Rattle.std.specs.Option.{ok_or}
use Rattle.std.specs.Result.{result_ok}
use Rattle.sd_text.specs.Chains.{◌>>=◌, unless}
use Rattle.sd_text.specs.Numbers.{number}
use Rattle.clap.specs.Words.{Row, Text, first_of, subcommand_of}
use Rattle.sd_sid.specs.Sid.{SecurityId}
use Rattle.sd_sid.specs.SidText.{sid_reads, usable}
use Rattle.sd_ace.specs.GuidText.{guid_reads}
use Rattle.sd_token.specs.Token.{Entry, Holder}
use Rattle.sd_view.specs.Descriptor.{Descriptor}
use Rattle.sd_rights.specs.Rights.{rights_reads}
use Rattle.sd_check.specs.Ask.{Asked, ask_fault, asks_maximum, wanted_of}
use Rattle.sd_sddl_builder.specs.Meaning.{means}
use Rattle.sd_inherit.specs.declared.plan.Target.{Target}
use Rattle.sd_inherit.specs.declared.plan.Target.TheVariants.{File, Container}
use Rattle.sd_command.specs.CommandLine.{line, option_text}
use Rattle.sd_rights.specs.Mapping.{GenericMapping, directory_mapping, file_mapping, key_mapping}
use Rattle.sd_command.specs.TokenText.{entries_read, sid_under}
use Rattle.sd_answer.specs.Answer.{output_of}
use Rattle.sd_answer.specs.declared.job.Form.{Form}
use Rattle.sd_answer.specs.declared.job.Form.TheVariants.{Base64, Hex, Sddl}
use Rattle.sd_answer.specs.declared.job.Act.{Act}
use Rattle.sd_answer.specs.declared.job.Act.TheVariants.{Check, Convert, Derive, Explain}
use Rattle.sd_answer.specs.declared.job.Job.{Job}
use Rattle.sd_answer.specs.declared.job.OutputForm.{OutputForm}
use Rattle.sd_answer.specs.declared.job.OutputForm.TheVariants as output
use Rattle.sd_answer.specs.declared.job.Task.{Task}
use Rattle.sd_command.specs.declared.settings.CommandName.{CommandName}
use Rattle.sd_command.specs.declared.settings.CommandName.TheVariants as command
use Rattle.sd_command.specs.declared.options.OptionName.{OptionName}
use Rattle.sd_command.specs.declared.options.OptionName.TheVariants as name
use Rattle.sd_command.specs.declared.settings.UsageFault.{UsageFault}
use Rattle.sd_command.specs.declared.settings.UsageFault.TheVariants.{NoCommand, Unasked, Value}

abbrev pub form_reads : Text → Option Form
form_reads text =
    if bytes_eq text (codes "hex") then Some Hex
    else if bytes_eq text (codes "base64") then Some Base64
    else if bytes_eq text (codes "sddl") then Some Sddl
    else None

-- the words of the forms of a line are also those of an answer
abbrev pub output_form_reads : Text → Option OutputForm
output_form_reads text = option_map output_of (form_reads text)

-- a SID that has room for one more sub-authority, read without a domain
unfoldable pub domain_reads : Text → Option SecurityId
domain_reads text = usable (result_ok (sid_reads text None))

-- the value of an option, or what stands where it is left out
abbrev pub value_or : {A : Type 0} → A → (Text → Option A) → Option Text → Option A
value_or default reads None = Some default
value_or default reads (Some text) = reads text

-- the value of an option that may be left out
abbrev pub value_if : {A : Type 0} → (Text → Option A) → Option Text → Option (Option A)
value_if reads None = Some None
value_if reads (Some text) = option_map (λ value. Some value) (reads text)

-- the value of an option that may not be left out
abbrev pub value_needed : {A : Type 0} → (Text → Option A) → Option Text → Option A
value_needed reads None = None
value_needed reads (Some text) = reads text

-- the value, or the fault of an option whose value does not read
abbrev pub given : {A : Type 0} → OptionName → Option A → Result A UsageFault
given option value = ok_or value (Value option)

-- the text that the words give an option
abbrev pub text_given : OptionName → List Row → Option Text
text_given option rows = first_of (option_text option) rows

abbrev pub given_or : {A : Type 0} → OptionName → A → (Text → Option A) → List Row → Result A UsageFault
given_or option default reads rows = given option (value_or default reads (text_given option rows))

abbrev pub given_if : {A : Type 0} → OptionName → (Text → Option A) → List Row → Result (Option A) UsageFault
given_if option reads rows = given option (value_if reads (text_given option rows))

abbrev pub given_needed : {A : Type 0} → OptionName → (Text → Option A) → List Row → Result A UsageFault
given_needed option reads rows = given option (value_needed reads (text_given option rows))

unfoldable pub given_domain : List Row → Result (Option SecurityId) UsageFault
given_domain rows = given_if name.Domain domain_reads rows

-- hex where the option is left out
unfoldable pub given_form : List Row → Result Form UsageFault
given_form rows = given_or name.From Hex form_reads rows

-- SDDL where the option is left out
unfoldable pub given_output_form : List Row → Result OutputForm UsageFault
given_output_form rows = given_or name.To output.Sddl output_form_reads rows

-- a flag's text is `true` where it is given
abbrev pub is_true : Option Text → Bool
is_true None = false
is_true (Some text) = bytes_eq text (codes "true")

unfoldable pub is_set : OptionName → List Row → Bool
is_set flag rows = is_true (text_given flag rows)

-- ---- what `check` and `derive` both have

abbrev pub mapping_reads : Text → Option GenericMapping
mapping_reads text =
    if bytes_eq text (codes "file") then Some file_mapping
    else if bytes_eq text (codes "key") then Some key_mapping
    else if bytes_eq text (codes "ds") then Some directory_mapping
    else None

-- that of files where the option is left out
unfoldable pub given_mapping : List Row → Result GenericMapping UsageFault
given_mapping rows = given_or name.Type file_mapping mapping_reads rows

-- the SID of an option, read under the domain
unfoldable pub given_sid : OptionName → Option SecurityId → List Row → Result (Option SecurityId) UsageFault
given_sid option domain rows = given_if option (sid_under domain) rows

-- ---- what `check` asks

-- the entries of the token, whose SIDs are read under the domain
unfoldable pub given_token : Option SecurityId → List Row → Result (List Entry) UsageFault
given_token domain rows = given_needed name.Token (entries_read domain) rows

-- no right where the option is left out
unfoldable pub given_want : List Row → Result ℕ UsageFault
given_want rows = given_or name.Want 0 rights_reads rows

unfoldable pub given_object : List Row → Result (Option (List ℕ)) UsageFault
given_object rows = given_if name.Object guid_reads rows

-- an integrity level: one to ten decimal digits below 2 ^ 32
abbrev pub level_reads : Text → Option ℕ
level_reads text = if nat_lt 0 (length text) && nat_le (length text) 10 then number 10 (2 ^ 32) text else None

-- none where the option is left out
unfoldable pub given_level : List Row → Result (Option ℕ) UsageFault
given_level rows = given_if name.Level level_reads rows

-- a desired mask on a type of object, and the rest of what is asked, or why nothing can be
unfoldable pub asked :
    GenericMapping → ℕ → Option (List ℕ) → Option SecurityId → List Row → Result Asked UsageFault
asked mapping want object principal rows =
    unless (option_map Unasked (ask_fault want (is_set name.Maximum rows))) (record {
      wanted = wanted_of mapping want;
      maximum = is_set name.Maximum rows || asks_maximum want;
      mapping = mapping;
      object = object;
      principal_self = principal;
      security = is_set name.Security rows;
      take_ownership = is_set name.TakeOwnership rows;
    })

-- ---- what `derive` makes, and for whom

abbrev pub target_reads : Text → Option Target
target_reads text =
    if bytes_eq text (codes "file") then Some File
    else if bytes_eq text (codes "container") then Some Container
    else None

unfoldable pub given_kind : List Row → Result Target UsageFault
given_kind rows = given_needed name.Kind target_reads rows

-- the owner or the group of what is made, a SID that may not be left out
unfoldable pub needed_sid : OptionName → Option SecurityId → List Row → Result SecurityId UsageFault
needed_sid option domain rows = given_needed option (sid_under domain) rows

-- the creator's descriptor, an SDDL text whose aliases are read under the domain
abbrev pub creator_reads : Option SecurityId → Text → Option Descriptor
creator_reads domain text = result_ok (means text domain)

unfoldable pub given_creator : Option SecurityId → Option Text → Result (Option Descriptor) UsageFault
given_creator domain text = given name.Creator (value_if (creator_reads domain) text)

-- ---- the commands

-- by their names
abbrev pub command_reads : Text → Option CommandName
command_reads text =
    if bytes_eq text (codes "convert") then Some command.Convert
    else if bytes_eq text (codes "explain") then Some command.Explain
    else if bytes_eq text (codes "check") then Some command.Check
    else if bytes_eq text (codes "derive") then Some command.Derive
    else None

-- what is a command's own: what is done with each line, who asks, and the text of the creator's descriptor
pub record Own : Type 0 where
  pub act : Act
  pub holder : Holder
  pub creator : Option Text

-- the holder of a command that asks for nobody
abbrev pub nobody : Holder
nobody = record { entries = []; level = None }

unfoldable pub convert_own : List Row → Result Own UsageFault
convert_own rows = do
  form ← given_output_form rows
  Ok (record { act = Convert form; holder = nobody; creator = None })

abbrev pub explain_own : Result Own UsageFault
explain_own = Ok (record { act = Explain; holder = nobody; creator = None })

unfoldable pub check_own : Option SecurityId → List Row → Result Own UsageFault
check_own domain rows = do
  mapping ← given_mapping rows
  entries ← given_token domain rows
  want ← given_want rows
  object ← given_object rows
  principal ← given_sid name.PrincipalSelf domain rows
  level ← given_level rows
  ask ← asked mapping want object principal rows
  Ok (record { act = Check ask; holder = record { entries = entries; level = level }; creator = None })

unfoldable pub derive_own : Option SecurityId → List Row → Result Own UsageFault
derive_own domain rows = do
  form ← given_output_form rows
  mapping ← given_mapping rows
  target ← given_kind rows
  owner ← needed_sid name.Owner domain rows
  group ← needed_sid name.Group domain rows
  Ok (record {
    act = Derive (record { target = target; owner = owner; group = group; mapping = mapping }) form;
    holder = nobody;
    creator = text_given name.Creator rows;
  })

abbrev pub command_own : CommandName → Option SecurityId → List Row → Result Own UsageFault
command_own command.Convert domain rows = convert_own rows
command_own command.Explain domain rows = explain_own
command_own command.Check domain rows = check_own domain rows
command_own command.Derive domain rows = derive_own domain rows

-- what is settled while the creator's descriptor is not read: its text, the job, and who asks
pub record Chosen : Type 0 where
  pub job : Job
  pub holder : Holder
  pub creator : Option Text

-- the first option that does not read, or the job: the domain and the form, which all commands have, are looked at
-- before what is the command's own. The line gives `check` no `--numeric`, and a check prints no SID.
unfoldable pub command_chosen : CommandName → List Row → Result Chosen UsageFault
command_chosen command rows = do
  domain ← given_domain rows
  line_form ← given_form rows
  own ← command_own command domain rows
  Ok (record {
    job = record { line_form = line_form; act = own.act; domain = domain; numeric = is_set name.Numeric rows };
    holder = own.holder;
    creator = own.creator;
  })

-- a command's name and its matches
abbrev pub chosen : Option (Text × List Row) → Result Chosen UsageFault
chosen None = Err NoCommand
chosen (Some matches) = do
  command ← ok_or (command_reads matches.0) NoCommand
  command_chosen command matches.1

-- what the words settle: what is done with each line, and who asks
pub record Settings : Type 0 where
  pub task : Task
  pub holder : Holder

-- a job with the creator's descriptor that a text means
unfoldable pub task_with : Job → Option Text → Result Task UsageFault
task_with job text = do
  creator ← given_creator job.domain text
  Ok (record { job = job; creator = creator })

-- the creator's descriptor is read last
unfoldable pub with_creator : Chosen → Result Settings UsageFault
with_creator choice = do
  task ← task_with choice.job choice.creator
  Ok (record { task = task; holder = choice.holder })

abbrev pub settings : Option (Text × List Row) → Result Settings UsageFault
settings matches = do
  choice ← chosen matches
  with_creator choice

-- what words settle that the command line takes
unfoldable pub settings_of : List Text → Result Settings UsageFault
settings_of words = settings (subcommand_of line words)
