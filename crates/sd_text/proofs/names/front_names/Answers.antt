use Rattle.std.proofs.Common.{arith}
use Rattle.sd_text.proofs.laws.NameLaws.{one-name, run-alone}
use Rattle.sd_text.proofs.names.front_names.Goals as goal

pub returns-in_default-clause-run : goal.returns-in_default-clause-run
returns-in_default-clause-run g c = run-alone _ _ _ c.loop-size.invariant.run

pub loop-size-preserved : goal.loop-size-preserved
loop-size-preserved g c = record {
  within = omega arith;
  run = one-name _ _ _ _ _ c.loop-size-test.true c.loop-size.invariant.run c.in-Some.ensures;
}

pub returns-clause-run : goal.returns-clause-run
returns-clause-run g c = run-alone _ _ _ c.loop-size.invariant.run
