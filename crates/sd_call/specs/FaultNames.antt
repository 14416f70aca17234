-- The name of a fault as an answer of the library.
use Rattle.std.specs.Prelude.{ℕ, List, if◌then◌else◌, nat_eq, length, Result, Ok, Err}
use Rattle.sd_faults.specs.FaultNames.{fault_name}
use Rattle.sd_call.specs.declared.argument.Argument.TheVariants as which
use Rattle.sd_call.specs.declared.outcome.CallFault.{CallFault}
use Rattle.sd_call.specs.declared.outcome.CallFault.TheVariants as call

unfoldable pub name_of : ℕ → Result (List ℕ) CallFault
name_of number =
    if nat_eq (length (fault_name number)) 0 then Err (call.Argument which.Fault 0) else Ok (fault_name number)
