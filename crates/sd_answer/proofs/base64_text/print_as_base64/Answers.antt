use Rattle.std.proofs.Common.{arith, ◌∙◌}
use Rattle.base64.specs.Rfc4648.{encode_symbols}
use Rattle.sd_sink.proofs.laws.PrintLemmas.{prints_nothing}
use Rattle.sd_answer.proofs.Base64Lemmas.{Prints-base64}
use Rattle.sd_answer.proofs.base64_text.print_as_base64.Goals as goal

pub loop-at-init : goal.loop-at-init
unfolding encode_symbols
loop-at-init g c = record {
  within = omega arith;
  whole = λ more. omega arith;
  cells = c.told-cells;
  printed = prints_nothing (g.P.Print.told c.args.out.now);
}

pub loop-at-preserved : goal.loop-at-preserved
loop-at-preserved g c = record {
  within = omega arith;
  whole = λ more. omega (arith, c.loop-at.invariant.whole (c.loop-at-test.true));
  cells = c.encode_base64-characters.auto.cells ∙ c.loop-at.invariant.cells;
  printed = Prints-base64 _ _ _ c.args.bytes.now _ c.loop-at.at c.min-n.result c.loop-at.invariant.within
      (c.loop-at.invariant.whole c.loop-at-test.true) c.encode_base64-characters.ensures.characters
      c.loop-at.invariant.printed c.put.ensures;
}
