use Rattle.std.proofs.Common.{sym, ◌∙◌, ap, length, arith}
use Rattle.sd_fault_places.proofs.Steps.{part-step}
use Rattle.sd_fault_places.proofs.parts.TextParts.split_first.Goals as goal

pub invariant_of-left : goal.invariant_of-left
invariant_of-left c =
    let s = part-step c.args.self.at c.args.self.text.now c.in-Some.head c.behind-after.result.now
    c.before_head-size.result (sym c.front_head.ensures ∙ c.in-Some.is) c.args.self.paired c.behind-after.ensures
    c.before_head-size.ensures.value in
    record {
      small = omega (arith, s.sizes, ap length c.behind.ensures, c.args.self.small);
      paired = rw c.behind.ensures s.paired;
    }

pub returns-clause-value : goal.returns-clause-value
returns-clause-value c =
    let s = part-step c.args.self.at c.args.self.text.now c.in-Some.head c.behind-after.result.now
    c.before_head-size.result (sym c.front_head.ensures ∙ c.in-Some.is) c.args.self.paired c.behind-after.ensures
    c.before_head-size.ensures.value in
    rw (c.until.ensures.value, c.behind.ensures) s.shape
