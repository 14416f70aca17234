use Rattle.std.proofs.Common.{◌++◌, ◌∷◌, [], ℕ, List, take, append_assoc, ap, sym, ◌∙◌}
use Rattle.sd_edit.specs.Edits.{Outcome, edit}
use Rattle.sd_edit.specs.Shown.{shown}
use Rattle.sd_edit.proofs.ChangeLemmas.{makes_next, makes_none}
use Rattle.sd_edit.proofs.making.edit.Goals as goal

pub loop-change-preserved : goal.loop-change-preserved
loop-change-preserved c =
    let l = c.loop-change in
    let made = rw c.in-Ok.is at c.in_ok-made.ensures.value in
    let next = makes_next c.args.changes.now l.change-index c.change-item.result c.loop-change-test.true
    c.change-item.is (shown c.args.edited.now) (shown l.edited) (shown c.make.new.self)
    c.in-Ok.count l.invariant.left made in
    record {
      left = ap (λ (o : Outcome). o.1) next;
      counts = c.in_ok-push_count-in-Ok.ensures
          ∙ ap (λ (ns : List ℕ). ns ++ c.in-Ok.count ∷ []) l.invariant.counts
          ∙ append_assoc c.args.counts.now.items
          (edit (take l.change-index c.args.changes.now) (shown c.args.edited.now)).0 (c.in-Ok.count ∷ [])
          ∙ ap (λ (o : Outcome). c.args.counts.now.items ++ o.0) (sym next);
      fits = rw c.in-Ok.is at c.in_ok-made.ensures.fits;
    }

pub returns-in-Err-clause-made : goal.returns-in-Err-clause-made
returns-in-Err-clause-made c =
    let l = c.loop-change in
    let made = rw c.in-Err.is at c.in_ok-made.ensures.value in
    ap (λ (o : Outcome). o.1)
    (makes_none c.args.changes.now l.change-index c.change-item.result c.loop-change-test.true c.change-item.is
    (shown c.args.edited.now) (shown l.edited) c.in-Err.fault l.invariant.left made)

pub returns-in-Err-clause-counts : goal.returns-in-Err-clause-counts
returns-in-Err-clause-counts c =
    let l = c.loop-change in
    let made = rw c.in-Err.is at c.in_ok-made.ensures.value in
    l.invariant.counts
    ∙ ap (λ (o : Outcome). c.args.counts.now.items ++ o.0)
    (sym (makes_none c.args.changes.now l.change-index c.change-item.result c.loop-change-test.true c.change-item.is
    (shown c.args.edited.now) (shown l.edited) c.in-Err.fault l.invariant.left made))
