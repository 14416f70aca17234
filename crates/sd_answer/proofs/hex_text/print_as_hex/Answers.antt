use Rattle.std.proofs.Common.{arith, ◌∙◌}
use Rattle.hex.specs.Hex.{encode_with}
use Rattle.sd_sink.proofs.laws.PrintLemmas.{prints_nothing}
use Rattle.sd_answer.proofs.HexTextLemmas.{Prints-piece}
use Rattle.sd_answer.proofs.hex_text.print_as_hex.Goals as goal

pub loop-at-init : goal.loop-at-init
unfolding encode_with
loop-at-init g c = record {
  within = omega arith;
  cells = c.told-cells;
  printed = prints_nothing (g.P.Print.told c.args.out.now);
}

pub loop-at-preserved : goal.loop-at-preserved
loop-at-preserved g c = record {
  within = omega arith;
  cells = c.encode_hex-digits.auto.cells ∙ c.loop-at.invariant.cells;
  printed = Prints-piece _ _ _ c.args.bytes.now _ c.loop-at.at c.min-n.result c.encode_hex-digits.ensures.digits
      c.loop-at.invariant.printed c.put.ensures;
}
