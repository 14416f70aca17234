use Rattle.std.proofs.Common.{sym, ◌∙◌, arith}
use Rattle.sd_sid.proofs.laws.SidLaws.{subs-count}
use Rattle.sd_sid_view.proofs.sid_view.SidView.count.Goals as goal

pub returns : goal.returns
returns c =
    let count = subs-count c.self.inside.bytes.now c.args.self.now c.self.view_is in
    record { value = c.from.ensures ∙ sym count; limit = omega (arith, count, c.self.invariant.0) }
