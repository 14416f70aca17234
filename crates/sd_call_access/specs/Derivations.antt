-- What a derivation gives: the layout of the new descriptor, or why there is none.
use Rattle.std.specs.Prelude.{ℕ, List, if◌then◌else◌, nat_eq, length, Option, Some, None, Result, Ok, Err}
use Rattle.sd_text.specs.Chains.{◌>>=◌, fault_as, unless}
use Rattle.sd_view.specs.Descriptor.{Descriptor}
use Rattle.sd_view.specs.Layout.{layout}
use Rattle.sd_faults.specs.declared.line_fault.LineFault.TheVariants as line
use Rattle.sd_inherit.specs.Derived.{derive_fault, derived}
use Rattle.sd_inherit.specs.declared.plan.Plan.{Plan}
use Rattle.sd_inherit.specs.declared.plan.Target.{Target}
use Rattle.sd_inherit.specs.declared.plan.Target.TheVariants as target
use Rattle.sd_call.specs.Arguments.{descriptor_in, mapping_in, sid_in}
use Rattle.sd_call.specs.declared.argument.Argument.TheVariants as which
use Rattle.sd_call.specs.declared.outcome.CallFault.{CallFault}
use Rattle.sd_call.specs.declared.outcome.CallFault.TheVariants.{Line}
use Rattle.sd_call.specs.declared.outcome.CallFault.TheVariants as call
use Rattle.sd_call_access.specs.declared.derivations.DerivationInput.{DerivationInput}

-- what is made, by its number
abbrev pub target_in : ℕ → Result Target CallFault
target_in number =
    if nat_eq number 0 then Ok target.File
    else if nat_eq number 1 then Ok target.Container
    else Err (call.Argument which.Kind 0)

unfoldable pub plan_in : ℕ → ℕ → List ℕ → List ℕ → Result Plan CallFault
plan_in kind mapping owner group = do
  target ← target_in kind
  meaning ← mapping_in mapping
  new_owner ← sid_in which.Owner owner
  new_group ← sid_in which.Group group
  Ok (record { target = target; owner = new_owner; group = new_group; mapping = meaning })

abbrev pub some_creator : Result Descriptor CallFault → Result (Option Descriptor) CallFault
some_creator (Ok d) = Ok (Some d)
some_creator (Err fault) = Err (call.Argument which.Creator 0)

-- the descriptor that the creator brings: none where the argument is empty
unfoldable pub creator_in : List ℕ → Result (Option Descriptor) CallFault
creator_in bytes = if nat_eq (length bytes) 0 then Ok None else some_creator (descriptor_in bytes)

-- what the arguments derive from
unfoldable pub input_in : List ℕ → List ℕ → List ℕ → List ℕ → ℕ → ℕ → Result DerivationInput CallFault
input_in parent creator owner group kind mapping = do
  plan ← plan_in kind mapping owner group
  brought ← creator_in creator
  d ← descriptor_in parent
  Ok (record { parent = d; creator = brought; plan = plan })

-- the new descriptor in its one layout, or the ACL that is too large
abbrev pub new_layout : DerivationInput → Result (List ℕ) CallFault
new_layout input =
    fault_as (λ fault. Line (line.Derive fault))
    (unless (derive_fault input.parent input.creator input.plan)
    (layout (derived input.parent input.creator input.plan)))

abbrev pub derivation : List ℕ → List ℕ → List ℕ → List ℕ → ℕ → ℕ → Result (List ℕ) CallFault
derivation parent creator owner group kind mapping = do
  input ← input_in parent creator owner group kind mapping
  new_layout input
