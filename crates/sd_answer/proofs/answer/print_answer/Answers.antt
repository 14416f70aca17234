use Rattle.std.proofs.Common.{Some, None, Ok, Err, ap}
use Rattle.sd_answer.proofs.MeaningLemmas.{Compares-none, answered, compared, meaning-over, meaning-text}
use Rattle.sd_answer.proofs.answer.print_answer.Goals as goal
use Rattle.sd_answer.specs.Answer.{meaning}
use Rattle.sd_faults.specs.declared.line_fault.LineFault.TheVariants.{TooLong}

pub returns-then-is_too_long-clause-printed : goal.returns-then-is_too_long-clause-printed
returns-then-is_too_long-clause-printed g c = λ text h.
    let beyond = (c.is_too_long.ensures.meaning _ text h).0 c.if-is_too_long.true in
    answered c.args.task.now _ text _ _ (Some (Err TooLong)) _ (meaning-over c.args.task.now.job text beyond)
    c.print_error.ensures

pub returns-then-is_empty-clause-printed : goal.returns-then-is_empty-clause-printed
returns-then-is_empty-clause-printed g c = λ text h.
    let empty = (c.is_empty.ensures _ text h).0 c.if-is_empty.true in
    answered c.args.task.now _ text _ _ None _ (ap (meaning c.args.task.now.job) empty) c.print_end.ensures

pub returns-in-Ok-clause-printed : goal.returns-in-Ok-clause-printed
returns-in-Ok-clause-printed g c = λ text h.
    let within = (c.is_too_long.ensures.meaning _ text h).1 c.if-is_too_long.false in
    let some = (c.is_empty.ensures _ text h).1 c.if-is_empty.false in
    answered c.args.task.now c.args.token.now.holder text _ _ (Some (Ok c.in-Ok.view)) _
    (meaning-text c.args.task.now.job text (Ok c.in-Ok.view) some within (c.in-Ok.ensures _ text h within))
    c.print_act.ensures.printed

pub returns-in-Err-clause-printed : goal.returns-in-Err-clause-printed
returns-in-Err-clause-printed g c = λ text h.
    let within = (c.is_too_long.ensures.meaning _ text h).1 c.if-is_too_long.false in
    let some = (c.is_empty.ensures _ text h).1 c.if-is_empty.false in
    answered c.args.task.now _ text _ _ (Some (Err c.in-Err.fault)) _
    (meaning-text c.args.task.now.job text (Err c.in-Err.fault) some within (c.in-Err.ensures _ text h within))
    c.print_error-in-Err.ensures

pub returns-then-is_too_long-clause-compared : goal.returns-then-is_too_long-clause-compared
returns-then-is_too_long-clause-compared g c = λ text h.
    let beyond = (c.is_too_long.ensures.meaning _ text h).0 c.if-is_too_long.true in
    compared c.args.task.now c.args.token.now.holder text _ _ (Some (Err TooLong))
    (meaning-over c.args.task.now.job text beyond) (Compares-none c.args.token.now 0)

pub returns-then-is_empty-clause-compared : goal.returns-then-is_empty-clause-compared
returns-then-is_empty-clause-compared g c = λ text h.
    let empty = (c.is_empty.ensures _ text h).0 c.if-is_empty.true in
    compared c.args.task.now c.args.token.now.holder text _ _ None (ap (meaning c.args.task.now.job) empty)
    (Compares-none c.args.token.now 0)

pub returns-in-Ok-clause-compared : goal.returns-in-Ok-clause-compared
returns-in-Ok-clause-compared g c = λ text h.
    let within = (c.is_too_long.ensures.meaning _ text h).1 c.if-is_too_long.false in
    let some = (c.is_empty.ensures _ text h).1 c.if-is_empty.false in
    compared c.args.task.now c.args.token.now.holder text _ _ (Some (Ok c.in-Ok.view))
    (meaning-text c.args.task.now.job text (Ok c.in-Ok.view) some within (c.in-Ok.ensures _ text h within))
    c.print_act.ensures.compared

pub returns-in-Err-clause-compared : goal.returns-in-Err-clause-compared
returns-in-Err-clause-compared g c = λ text h.
    let within = (c.is_too_long.ensures.meaning _ text h).1 c.if-is_too_long.false in
    let some = (c.is_empty.ensures _ text h).1 c.if-is_empty.false in
    compared c.args.task.now c.args.token.now.holder text _ _ (Some (Err c.in-Err.fault))
    (meaning-text c.args.task.now.job text (Err c.in-Err.fault) some within (c.in-Err.ensures _ text h within))
    (Compares-none c.args.token.now 0)
