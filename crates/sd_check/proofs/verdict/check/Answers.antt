use Rattle.std.proofs.Common.{◌≡◌, ◌-◌, arith, bit_and, bit_or}
use Rattle.sd_check.specs.Verdict.{missing, won}
use Rattle.sd_check.proofs.VerdictLaws.{bound_from_need, denied, denied_none, granted_won, missing_is, need-le, won_is}
use Rattle.sd_check.proofs.verdict.check.Goals as goal
use Rattle.sd_check.proofs.verdict.check.Given.{Over}
use Rattle.sd_check.proofs.verdict.check.Goals.{After-wanted, After-pool}

missed : (g : Over) (c : After-wanted g)
    → bit_and c.wanted.result (4294967295 - c.granted-granted.result)
    ≡ missing c.args.view.now c.args.token.now.holder c.args.ask.now
missed g c = rw c.wanted.ensures.value
    (missing_is c.args.view.now c.args.token.now.holder c.args.ask.now c.granted-granted.result c.wanted.ensures.limits
    (omega arith) c.granted-granted.ensures.rights)

winnings : (g : Over) (c : After-pool g)
    → bit_or c.wanted-2.result (bit_and c.pool.result c.granted-granted.result)
    ≡ won c.args.view.now c.args.token.now.holder c.args.ask.now
winnings g c = rw (c.wanted-2.ensures.value, c.pool.ensures)
    (won_is c.args.view.now c.args.token.now.holder c.args.ask.now c.granted-granted.result c.wanted-2.ensures.limits
    c.granted-granted.ensures.rights)

pub returns-then-missing-ne0-clause-verdict : goal.returns-then-missing-ne0-clause-verdict
returns-then-missing-ne0-clause-verdict g c =
    denied _ _ _ _ (missed g (goal.at.returns-then-missing-ne0-clause-verdict g c).After-wanted) c.if-missing-ne0.true

pub returns-then-won-eq0-clause-verdict : goal.returns-then-won-eq0-clause-verdict
returns-then-won-eq0-clause-verdict g c =
    let at = goal.at.returns-then-won-eq0-clause-verdict g c in
    denied_none _ _ _ _ _ (missed g at.After-wanted) c.if-missing-ne0.false (winnings g at.After-pool) c.if-won-eq0.true

pub returns-clause-verdict : goal.returns-clause-verdict
returns-clause-verdict g c =
    let at = goal.at.returns-clause-verdict g c in
    granted_won _ _ _ _ _ (missed g at.After-wanted) c.if-missing-ne0.false (winnings g at.After-pool)
    c.if-won-eq0.false

pub returns-then-missing-ne0-clause-bound : goal.returns-then-missing-ne0-clause-bound
returns-then-missing-ne0-clause-bound g c = record {
  goes_on = c.granted-granted.ensures.asks.compared.goes_on;
  at_most = bound_from_need c.args.view.now c.args.token.now.holder.entries _ _ _ (need-le _ _ c.args.ask.now)
      c.granted-granted.ensures.asks.compared.at_most;
}

pub returns-then-won-eq0-clause-bound : goal.returns-then-won-eq0-clause-bound
returns-then-won-eq0-clause-bound g c = record {
  goes_on = c.granted-granted.ensures.asks.compared.goes_on;
  at_most = bound_from_need c.args.view.now c.args.token.now.holder.entries _ _ _ (need-le _ _ c.args.ask.now)
      c.granted-granted.ensures.asks.compared.at_most;
}

pub returns-clause-bound : goal.returns-clause-bound
returns-clause-bound g c = record {
  goes_on = c.granted-granted.ensures.asks.compared.goes_on;
  at_most = bound_from_need c.args.view.now c.args.token.now.holder.entries _ _ _ (need-le _ _ c.args.ask.now)
      c.granted-granted.ensures.asks.compared.at_most;
}
