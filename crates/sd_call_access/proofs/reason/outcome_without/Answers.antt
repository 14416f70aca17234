use Rattle.std.proofs.Common.{sym, ap, ◌∙◌, Result}
use Rattle.sd_call.specs.declared.outcome.CallFault.{CallFault}
use Rattle.sd_call_access.specs.Checks.{asker_of}
use Rattle.sd_call_access.specs.Reasons.{explained, outcome_without}
use Rattle.sd_call_access.proofs.ReasonLemmas.{by_fault, same_faults}
use Rattle.sd_call_access.proofs.reason.outcome_without.Goals as goal

pub returns-in-Ok : goal.returns-in-Ok
returns-in-Ok c =
    c.no_memory.ensures
    ∙ ap (λ (told : Result (Unit {0}) CallFault). outcome_without told)
    (sym c.in-Ok.is ∙ c.check_arguments.ensures ∙ same_faults c.args.bytes.now (asker_of c.args.input.now))
    ∙ by_fault (explained c.args.bytes.now (asker_of c.args.input.now))

pub returns-in-Err : goal.returns-in-Err
returns-in-Err c =
    c.failed.ensures
    ∙ ap (λ (told : Result (Unit {0}) CallFault). outcome_without told)
    (sym c.in-Err.is ∙ c.check_arguments.ensures ∙ same_faults c.args.bytes.now (asker_of c.args.input.now))
    ∙ by_fault (explained c.args.bytes.now (asker_of c.args.input.now))
