use Rattle.std.proofs.Common.{refl}
use Rattle.sd_sink.proofs.laws.PrintLemmas.{prints_then}
use Rattle.sd_answer.proofs.MeaningLemmas.{Compares-none}
use Rattle.sd_answer.proofs.answer.print_act.Goals as goal

pub returns-in-Convert-clause-printed : goal.returns-in-Convert-clause-printed
returns-in-Convert-clause-printed g c =
    rw c.in-Convert.is (prints_then c.print_form.ensures c.print_end.ensures.0, c.print_end.ensures.1)

pub returns-in-Convert-clause-compared : goal.returns-in-Convert-clause-compared
returns-in-Convert-clause-compared g c = rw c.in-Convert.is (Compares-none c.args.token.now _)

pub returns-in-Explain-clause-printed : goal.returns-in-Explain-clause-printed
returns-in-Explain-clause-printed g c = rw c.in-Explain.is (c.print_explanation.ensures, refl)

pub returns-in-Explain-clause-compared : goal.returns-in-Explain-clause-compared
returns-in-Explain-clause-compared g c = rw c.in-Explain.is (Compares-none c.args.token.now _)

pub returns-in-Check-clause-printed : goal.returns-in-Check-clause-printed
returns-in-Check-clause-printed g c =
    rw (c.in-Check.is, ← c.check.ensures.verdict)
    (prints_then c.print_verdict.ensures c.print_end-in-Check.ensures.0, c.print_end-in-Check.ensures.1)

pub returns-in-Check-clause-compared : goal.returns-in-Check-clause-compared
returns-in-Check-clause-compared g c =
    rw c.in-Check.is c.check.ensures.bound

pub returns-in-Ok-clause-printed : goal.returns-in-Ok-clause-printed
returns-in-Ok-clause-printed g c =
    rw (c.in-Derive.is, ← c.as_ref.ensures.value, c.in-Ok.ensures.fault) (
      prints_then (c.print_written.ensures _ c.in-Ok.ensures.shows c.in-Ok.ensures.laid_out)
          c.print_end-in-Ok.ensures.0,
      c.print_end-in-Ok.ensures.1,
    )

pub returns-in-Ok-clause-compared : goal.returns-in-Ok-clause-compared
returns-in-Ok-clause-compared g c = rw c.in-Derive.is (Compares-none c.args.token.now _)

pub returns-in-Err-clause-printed : goal.returns-in-Err-clause-printed
returns-in-Err-clause-printed g c =
    rw (c.in-Derive.is, ← c.as_ref.ensures.value, c.in-Err.ensures.fault) c.print_error.ensures

pub returns-in-Err-clause-compared : goal.returns-in-Err-clause-compared
returns-in-Err-clause-compared g c = rw c.in-Derive.is (Compares-none c.args.token.now _)
