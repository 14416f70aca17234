use Rattle.std.proofs.Common.{sym, arith, refl, ◌+◌, ◌-◌, take, drop}
use Rattle.std.proofs.lemmas.Grind.{common_steps}
use Rattle.std.proofs.lemmas.Result.{err_from_is_err_and}
use Rattle.sd_run.proofs.LineCutLemmas.{NoLf, has_lf-at}
use Rattle.sd_run.proofs.AfterBytesLemmas.{Answered-line, Failed-in, Failed-line, AfterBytes-line, AfterBytes-more}
use Rattle.sd_run.proofs.AfterBytesLemmas.{fed_line, fed_rest, found_any, found_in, line_in}
use Rattle.sd_run.proofs.feed.feed_all.Goals as goal

pub loop-n-preserved : goal.loop-n-preserved
loop-n-preserved g c =
    let piece = c.args.piece.now in
    let start = c.loop-n.start in
    let n = c.in-Some.n in
    let found = found_in piece start n c.loop-n.invariant.within c.in-Some.ensures.found.0 c.in-Some.ensures.found.1 in
    let none : NoLf (take (start + n - start) (drop start piece)) = grind (arith, common_steps) in
    record {
      within = omega (arith, found.0);
      ready = c.in_ok-answer_line.ensures.ready refl;
      after = λ token0 sink0 got h.
          let before = c.loop-n.invariant.after token0 sink0 got h in
          rw (sym (fed_line got piece start n found.0 found.1), sym (line_in piece start n))
          (AfterBytes-line _ token0 sink0 _ _ _ none
          (c.in_ok-answer_line.ensures.answered token0 sink0 _ _ (c.take.ensures.holds _ _ before.holds).text
          (Answered-line before.answered))
          (c.in_ok-answer_line.ensures.begun refl));
      found = λ _. has_lf-at piece (start + n) found.0 found.1;
      quiet = λ none. absurd (omega arith);
      none_counted = λ none. absurd (omega arith);
      rose = (omega arith, omega arith);
    }

pub returns-in_err-answer_line-clause-fed : goal.returns-in_err-answer_line-clause-fed
returns-in_err-answer_line-clause-fed g c = λ token0 sink0 got h.
    let piece = c.args.piece.now in
    let start = c.loop-n.start in
    let n = c.in-Some.n in
    let p = err_from_is_err_and c.from_residual.result c.from_residual.ensures.1 in
    let found = found_in piece start n c.loop-n.invariant.within c.in-Some.ensures.found.0 c.in-Some.ensures.found.1 in
    let none : NoLf (take (start + n - start) (drop start piece)) = grind (arith, common_steps) in
    let before = c.loop-n.invariant.after token0 sink0 got h in
    rw p.1
    (Failed-in _ token0 sink0 got piece start n _ found.0 found.1
    (rw (line_in piece start n) at (Failed-line _ token0 sink0 _ _ _ _ none
    (c.in_err-answer_line.ensures.answered token0 sink0 _ _ (c.take.ensures.holds _ _ before.holds).text
    (Answered-line before.answered)))))

pub returns-clause-ended : goal.returns-clause-ended
returns-clause-ended g c =
    found_any c.args.piece.now c.loop-n.start c.loop-n.invariant.found (λ k low e. c.in_default.ensures.before k low e)

pub returns-clause-fed : goal.returns-clause-fed
returns-clause-fed g c = λ token0 sink0 got h.
    let after = c.loop-n.invariant.after token0 sink0 got h in
    rw (sym (fed_rest got c.args.piece.now c.loop-n.start))
    (AfterBytes-more _ token0 sink0 _ _ _ _ c.in_default.ensures.before after refl refl refl
    (c.take-2.ensures.holds _ _ after.holds))
