use Rattle.std.proofs.Common.{◌≡◌, ◌∙◌, ◌+◌, ℕ, List, ap, arith, drop, length, map, get_or-set_same}
use Rattle.std.proofs.lemmas.List.{drop-set-lt, length-map, length-set}
use Rattle.sd_call_convert.proofs.ManyLemmas.{ends_more, lengths_more, lengths_most, set_number}
use Rattle.sd_call_convert.proofs.ends.write_ends.Goals as goal

pub loop-i-init : goal.loop-i-init
loop-i-init g c =
    let offsets = c.args.offsets.now in
    let number = g.T.Offset.number in
    let is = set_number number offsets 0 c.at.result c.args.begin c.at.ensures in
    let long = length-map offsets number in record {
      at = omega arith;
      ends = λ k h.
          let first : k ≡ 0 = omega (arith, h) in
          rw (is, first) (get_or-set_same (map number offsets) 0 c.args.begin 0 (omega (arith, c.requires.room, long))
          ∙ omega arith);
      rest = ap (λ (l : List ℕ). drop (length c.args.outcomes.now + 1) l) is
          ∙ drop-set-lt (length c.args.outcomes.now + 1) (map number offsets) 0 _ (omega arith);
    }

pub overflow_add-at : goal.overflow_add-at
overflow_add-at g c =
    let more = lengths_more c.args.outcomes.now c.loop-i.i c.index-outcomes-i.result c.loop-i-test.true in
    let most = lengths_most c.args.outcomes.now (c.loop-i.i + 1) in
    omega (arith, more, most, c.loop-i.invariant.at, c.requires.fits)

pub at-requires-in-loop-i : goal.at-requires-in-loop-i
at-requires-in-loop-i g c =
    let more = lengths_more c.args.outcomes.now c.loop-i.i c.index-outcomes-i.result c.loop-i-test.true in
    let most = lengths_most c.args.outcomes.now (c.loop-i.i + 1) in
    omega (arith, more, most, c.loop-i.invariant.at, c.requires.reaches)

pub loop-i-preserved : goal.loop-i-preserved
loop-i-preserved g c =
    let l = c.loop-i in
    let number = g.T.Offset.number in
    let more = lengths_more c.args.outcomes.now l.i c.index-outcomes-i.result c.loop-i-test.true in
    let is = set_number number l.offsets (l.i + 1) c.at-in-loop-i.result _ c.at-in-loop-i.ensures in
    let long = length-map l.offsets number in
    let kept = length-set c.args.offsets.now 0 c.at.result in record {
      at = omega (arith, more, l.invariant.at);
      ends = rw is (ends_more c.args.begin c.args.outcomes.now (map number l.offsets) l.i _
          (omega (arith, c.loop-i-test.true, c.requires.room, long, kept, l.auto.offsets)) l.invariant.ends
          (omega (arith, more, l.invariant.at)));
      rest = ap (λ (now : List ℕ). drop (length c.args.outcomes.now + 1) now) is
          ∙ drop-set-lt (length c.args.outcomes.now + 1) (map number l.offsets) (l.i + 1) _
          (omega (arith, c.loop-i-test.true)) ∙ l.invariant.rest;
    }
