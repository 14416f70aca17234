use Rattle.std.proofs.Common.{◌+◌, ℕ, cond, get_or, ap, ◌∙◌, arith}
use Rattle.sd_ace.specs.Ace.{AccessControlEntry}
use Rattle.sd_edit.specs.Order.{no_higher}
use Rattle.sd_edit.proofs.OrderLemmas.{behind_next, within_next}
use Rattle.sd_edit.proofs.acl.behind_last.Goals as goal

pub loop-ace-preserved : goal.loop-ace-preserved
loop-ace-preserved c =
    let l = c.loop-ace in
    let p = no_higher c.args.which c.args.new.now in
    let more = c.place_behind-place.ensures
    ∙ ap (λ (a : AccessControlEntry). cond (p a) (l.i + 1) l.place) c.ace-item.is
    ∙ ap (λ (k : ℕ). cond (p (get_or c.args.aces.now l.ace-index c.ace-item.result)) (k + 1) l.place) l.invariant.at in
    record {
      at = omega (arith, l.invariant.at);
      place = behind_next p c.args.aces.now l.ace-index c.ace-item.result l.place _ c.loop-ace-test.true
          l.invariant.place more;
      within = within_next _ l.ace-index l.place _ l.invariant.within more;
    }
