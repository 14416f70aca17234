use Rattle.std.proofs.Common.{Some, None, Ok, Err, ap, subst, sym}
use Rattle.sd_answer.proofs.MeaningLemmas.{meaning-over, meaning-text, put-answered, puts-answer}
use Rattle.sd_answer.proofs.answer.put_hex_answer.Goals as goal
use Rattle.sd_answer.specs.Answer.{act_outcome, form_text, meaning}
use Rattle.sd_answer.specs.LineInHand.{PutsAnswer}
use Rattle.sd_answer.specs.declared.job.Act.{Act}
use Rattle.sd_faults.specs.declared.line_fault.LineFault.TheVariants.{TooLong}

pub returns-then-is_too_long : goal.returns-then-is_too_long
returns-then-is_too_long g c = λ holder text h.
    let beyond = (c.is_too_long.ensures.meaning _ text h).0 c.if-is_too_long.true in
    put-answered c.args.task.now holder text _ _ (Some (Err TooLong)) _ (meaning-over c.args.task.now.job text beyond)
    c.put_error.ensures

pub returns-then-is_empty : goal.returns-then-is_empty
returns-then-is_empty g c = λ holder text h.
    let empty = (c.is_empty.ensures _ text h).0 c.if-is_empty.true in
    put-answered c.args.task.now holder text _ _ None _ (ap (meaning c.args.task.now.job) empty)
    (puts-answer _ _ _ _ _ c.unless_failed.ensures c.put.ensures)

pub returns-in-Ok : goal.returns-in-Ok
unfolding form_text
returns-in-Ok g c = λ holder text h.
    let within = (c.is_too_long.ensures.meaning _ text h).1 c.if-is_too_long.false in
    let some = (c.is_empty.ensures _ text h).1 c.if-is_empty.false in
    put-answered c.args.task.now holder text _ _ (Some (Ok c.in-Ok.view)) _
    (meaning-text c.args.task.now.job text (Ok c.in-Ok.view) some within (c.in-Ok.ensures _ text h within))
    (subst (λ (x : Act). PutsAnswer (g.S.Sink.told c.args.sink.now) (g.S.Sink.told c.put_layout_as_hex.new.sink)
    (act_outcome c.args.task.now holder x c.in-Ok.view).text
    (act_outcome c.args.task.now holder x c.in-Ok.view).is_error c.unless_failed-in-Ok.result) (sym c.requires.hex)
    (puts-answer _ _ _ _ _ c.unless_failed-in-Ok.ensures
    c.put_layout_as_hex.ensures))

pub returns-in-Err : goal.returns-in-Err
returns-in-Err g c = λ holder text h.
    let within = (c.is_too_long.ensures.meaning _ text h).1 c.if-is_too_long.false in
    let some = (c.is_empty.ensures _ text h).1 c.if-is_empty.false in
    put-answered c.args.task.now holder text _ _ (Some (Err c.in-Err.fault)) _
    (meaning-text c.args.task.now.job text (Err c.in-Err.fault) some within (c.in-Err.ensures _ text h within))
    c.put_error-in-Err.ensures
