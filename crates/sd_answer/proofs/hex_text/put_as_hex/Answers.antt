use Rattle.std.proofs.Common.{◌∷◌, [], ◌∙◌, arith}
use Rattle.hex.specs.Hex.{encode_with}
use Rattle.sd_sink.proofs.laws.SinkLemmas.{PutAll-nil}
use Rattle.sd_answer.proofs.HexTextLemmas.{PutAll-piece, PutSome-piece, Puts-last, length-left}
use Rattle.sd_answer.proofs.hex_text.put_as_hex.Goals as goal

pub loop-at-init : goal.loop-at-init
unfolding encode_with
loop-at-init g c = record {
  within = omega arith;
  cells = c.told-cells;
  put = PutAll-nil (g.S.Sink.told c.args.sink.now);
}

pub loop-at-preserved : goal.loop-at-preserved
loop-at-preserved g c = record {
  within = let test = c.loop-at-test.true in let within = c.loop-at.invariant.within in omega (arith, test, within);
  cells = c.encode_hex-digits.auto.cells ∙ c.loop-at.invariant.cells;
  put = PutAll-piece _ _ _ c.args.bytes.now _ c.loop-at.at 512 c.encode_hex-digits.ensures.digits
      c.loop-at.invariant.put c.in_default.ensures;
}

pub returns-in-Err : goal.returns-in-Err
returns-in-Err g c =
    PutSome-piece _ _ _ c.args.bytes.now _ (10 ∷ []) c.loop-at.at 512 c.encode_hex-digits.ensures.digits
    c.loop-at.invariant.put c.in-Err.ensures

pub returns : goal.returns
returns g c =
    let before = c.loop-at.invariant in
    let left = length-left c.args.bytes.now c.loop-at.at before.within in
    let cells = c.encode_hex-count.auto.cells ∙ before.cells in
    Puts-last _ _ _ c.args.bytes.now c.encode_hex-count.new.cells c.loop-at.at c.encode_hex-count.result _ before.within
    (omega (arith, cells, left, c.encode_hex-count.ensures.count, c.loop-at-test.false))
    c.encode_hex-count.ensures.digits
    before.put c.put-2.ensures
