use Rattle.std.proofs.Common.{arith}
use Rattle.sd_view.proofs.ReadLaws.{fault-shows, reading-err, reading-ok}
use Rattle.sd_view.proofs.view.read_extents.Goals as goal

pub invariant_of-result : goal.invariant_of-result
invariant_of-result c = (
  (fault-shows c.args.bytes.now (λ i. omega (arith, c.type_inv.bytes i)) c.in-Ok.ensures.fault).1,
  c.in-Ok.ensures.acls,
)

pub returns-in-Ok-clause-view : goal.returns-in-Ok-clause-view
returns-in-Ok-clause-view c = reading-ok c.args.bytes.now c.in-Ok.ensures.fault

pub returns-in-Ok-clause-shows : goal.returns-in-Ok-clause-shows
returns-in-Ok-clause-shows c =
    (fault-shows c.args.bytes.now (λ i. omega (arith, c.type_inv.bytes i)) c.in-Ok.ensures.fault).0

pub returns-in-Ok-clause-limits : goal.returns-in-Ok-clause-limits
returns-in-Ok-clause-limits c =
    (fault-shows c.args.bytes.now (λ i. omega (arith, c.type_inv.bytes i)) c.in-Ok.ensures.fault).1.limits

pub returns-in-Err-clause-view : goal.returns-in-Err-clause-view
returns-in-Err-clause-view c = reading-err c.args.bytes.now c.in-Err.fault c.in-Err.ensures.fault
