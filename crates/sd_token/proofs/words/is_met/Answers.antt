use Rattle.std.proofs.Common.{◌≡◌, ◌+◌, ◌-◌, ◌*◌, ◌∙◌, sym, arith}
use Rattle.sd_token.proofs.TokenLemmas.{then_second}
use Rattle.sd_token.proofs.words.is_met.Goals as goal

pub returns-then-may_count : goal.returns-then-may_count
returns-then-may_count g c =
    let long : 19 * (c.args.index + 1) - 19 * c.args.index ≡ 19 = omega arith in
    rw long at (c.is_same.ensures ∙ then_second _ _ (sym c.may_count.ensures ∙ c.if-may_count.true))
