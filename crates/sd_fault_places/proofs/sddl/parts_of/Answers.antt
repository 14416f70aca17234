use Rattle.std.proofs.Common.{sym, ap, length, arith}
use Rattle.sd_fault_places.proofs.Steps.{text-parts}
use Rattle.sd_fault_places.proofs.sddl.parts_of.Goals as goal

pub invariant_of-result : goal.invariant_of-result
invariant_of-result c =
    let t = text-parts c.args.text.now c.before_head-at.result c.requires.paired c.before_head-at.ensures.value in
    record {
      small = omega (arith, t.2, ap length c.behind.ensures, c.requires.small);
      paired = rw c.behind.ensures t.1;
    }

pub returns : goal.returns
returns c =
    let t = text-parts c.args.text.now c.before_head-at.result c.requires.paired c.before_head-at.ensures.value in
    rw c.behind.ensures (sym t.0)
