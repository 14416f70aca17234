use Rattle.std.proofs.Common.{arith}
use Rattle.sd_sddl_reader.proofs.WholeParts.{head-behind}
use Rattle.sd_sddl_reader.proofs.line.next_named.Goals as goal

pub returns-clause-found : goal.returns-clause-found
returns-clause-found c =
    let at = c.in_ok-name.ensures.found in
    let next = c.in_ok-head.ensures.found in
    record {
      field = at.field;
      before = head-behind at.field _ _ _ _ _ _ at.plain (omega (arith, at.short)) at.stands c.behind_blanks.ensures
          next.1 next.0;
      reads = at.reads;
    }
