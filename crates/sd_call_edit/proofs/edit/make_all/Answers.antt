use Rattle.std.proofs.Common.{ℕ, take, Err, ap, sym, ◌∙◌, arith}
use Rattle.sd_call.specs.declared.outcome.CallFault.TheVariants as call
use Rattle.sd_edit.specs.Edits.{Outcome, edit, edited}
use Rattle.sd_edit.specs.Shown.{shown}
use Rattle.sd_edit.specs.declared.change.Change.{Change}
use Rattle.sd_call_edit.specs.Edit.{answer, changes_of, counted}
use Rattle.sd_call_edit.proofs.EditLemmas.{count_at, makes_next, makes_none}
use Rattle.sd_call_edit.proofs.edit.make_all.Goals as goal

pub loop-i-preserved : goal.loop-i-preserved
loop-i-preserved c =
    let l = c.loop-i in
    let made = ap (λ (x : Change). edited x (shown l.edited)) (sym c.shown_change.ensures)
    ∙ rw c.in-Ok.is at c.in_ok-count.ensures.value in
    let next = makes_next c.args.changes.now l.i _ (shown c.args.edited.now) (shown l.edited)
    (shown c.make.new.self) c.in-Ok.count c.loop-i-test.true l.invariant.left made in
    let at = count_at c.args.changes.now l.i (shown c.args.edited.now) (shown l.edited)
    (omega (arith, c.loop-i-test.true)) l.invariant.left in
    record {
      left = ap (λ (o : Outcome). o.1) next;
      touched = c.note.ensures (edit (changes_of (take l.i c.args.changes.now)) (shown c.args.edited.now)).0
          c.args.touched.now at l.invariant.touched
          ∙ ap (λ (o : Outcome). counted o.0 c.args.touched.now) (sym next);
      fits = rw c.in-Ok.is at c.in_ok-count.ensures.fits;
    }

pub returns-in-Err-clause-made : goal.returns-in-Err-clause-made
returns-in-Err-clause-made c =
    let l = c.loop-i in
    let made = ap (λ (x : Change). edited x (shown l.edited)) (sym c.shown_change.ensures)
    ∙ rw c.in-Err.is at c.in_ok-count.ensures.value in
    let none = makes_none c.args.changes.now l.i _ (shown c.args.edited.now) (shown l.edited) c.in-Err.fault
    c.loop-i-test.true l.invariant.left made in
    let at = count_at c.args.changes.now l.i (shown c.args.edited.now) (shown l.edited)
    (omega (arith, c.loop-i-test.true)) l.invariant.left in (
      ap answer none ∙ ap (λ (k : ℕ). Err (call.Change c.in-Err.fault k)) at,
      l.invariant.touched ∙ ap (λ (o : Outcome). counted o.0 c.args.touched.now) (sym none),
    )
