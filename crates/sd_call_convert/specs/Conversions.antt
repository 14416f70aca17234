-- What each conversion gives.
use Rattle.std.specs.Prelude.{ℕ, List, Bool, if◌then◌else◌, nat_lt, length, Option, Result, Ok, Err}
use Rattle.sd_text.specs.Chains.{◌>>=◌, fault_as}
use Rattle.sd_text.specs.Limits.{most_sddl_text}
use Rattle.sd_sid.specs.Sid.{SecurityId}
use Rattle.sd_sid.specs.Naming.{naming_by}
use Rattle.sd_view.specs.Descriptor.{Descriptor}
use Rattle.sd_view.specs.Layout.{layout}
use Rattle.sd_sddl_builder.specs.Meaning.{means}
use Rattle.sd_sddl_printer.specs.Printed.{sddl}
use Rattle.sd_explain.specs.Explain.{explain}
use Rattle.sd_faults.specs.declared.line_fault.LineFault.TheVariants as line
use Rattle.sd_call.specs.Arguments.{descriptor_in, domain_in}
use Rattle.sd_call.specs.declared.outcome.CallFault.{CallFault}
use Rattle.sd_call.specs.declared.outcome.CallFault.TheVariants.{Line}
use Rattle.sd_call_convert.specs.declared.printing.Named.{Named}
use Rattle.sd_call_convert.specs.declared.printing.Text.{Text}
use Rattle.sd_call_convert.specs.declared.printing.Text.TheVariants as text

-- the domain under which a text of so many bytes is read, if these are not too many
unfoldable pub read_under : ℕ → Option SecurityId → Result (Option SecurityId) CallFault
read_under size domain = if nat_lt most_sddl_text size then Err (Line line.TooLong) else Ok domain

abbrev pub domain_of_size : ℕ → List ℕ → Result (Option SecurityId) CallFault
domain_of_size size domain = do
  named ← domain_in domain
  read_under size named

abbrev pub domain_for : List ℕ → List ℕ → Result (Option SecurityId) CallFault
domain_for text domain = domain_of_size (length text) domain

-- what a text means
abbrev pub text_in : Option SecurityId → List ℕ → Result Descriptor CallFault
text_in domain text = fault_as (λ fault. Line (line.Sddl fault)) (means text domain)

-- a text of a descriptor
abbrev pub text_of : Text → Named → List ℕ
text_of text.Sddl named = sddl named.naming named.view
text_of text.Explanation named = explain named.naming named.view

-- a descriptor, and how its SIDs are named
unfoldable pub named_in : List ℕ → List ℕ → Bool → Result Named CallFault
named_in bytes domain numeric = do
  named ← domain_in domain
  d ← descriptor_in bytes
  Ok (record { view = d; naming = naming_by named numeric })

abbrev pub printed : Text → List ℕ → List ℕ → Bool → Result (List ℕ) CallFault
printed what bytes domain numeric = do
  named ← named_in bytes domain numeric
  Ok (text_of what named)

abbrev pub to_sddl : List ℕ → List ℕ → Bool → Result (List ℕ) CallFault
to_sddl bytes domain numeric = printed text.Sddl bytes domain numeric

abbrev pub explained : List ℕ → List ℕ → Bool → Result (List ℕ) CallFault
explained bytes domain numeric = printed text.Explanation bytes domain numeric

abbrev pub normalized : List ℕ → Result (List ℕ) CallFault
normalized bytes = do
  d ← descriptor_in bytes
  Ok (layout d)

-- the one layout of what a text means
abbrev pub laid_out : Result Descriptor CallFault → Result (List ℕ) CallFault
laid_out (Ok d) = Ok (layout d)
laid_out (Err fault) = Err fault

abbrev pub from_sddl : List ℕ → List ℕ → Result (List ℕ) CallFault
from_sddl text domain = do
  named ← domain_for text domain
  laid_out (text_in named text)
