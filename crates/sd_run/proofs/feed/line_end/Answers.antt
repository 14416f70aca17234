use Rattle.std.proofs.Common.{◌≡◌, ◌<◌, ◌≤◌, ◌-◌, ◌+◌, ◌∙◌, ◌==◌, ℕ, List, length, get_or, take, drop, sym, arith}
use Rattle.std.specs.Prelude.{not}
use Rattle.std.proofs.lemmas.List.{get_or-drop, get_or-take}
use Rattle.std.proofs.lemmas.List.Sums.{prefix_len_stops}
use Rattle.sd_run.proofs.LineCutLemmas.{NoLfBelow, NoLfBelow-more, before_lf, is-lf, length-part, none-before}
use Rattle.sd_run.proofs.feed.line_end.Goals as goal

-- a block that has an LF
in-block : (bytes : List ℕ) (start n : ℕ) → start + 64 ≤ length bytes → n < 64
    → n ≡ before_lf (take 64 (drop start bytes)) → get_or bytes (start + n) 0 ≡ 10
in-block bytes start n room low is =
    let block = take 64 (drop start bytes) in
    let within : before_lf block < length block = omega (arith, length-part bytes start 64 room, is, low) in
    let lf = is-lf (get_or block (before_lf block) 0)
    (prefix_len_stops (λ (b : ℕ). not (b == 10)) block 0 within) in
    sym (get_or-take 64 (drop start bytes) n 0 low ∙ get_or-drop start bytes n 0) ∙ rw is lf

pub returns-then-before-lt-BLOCK-clause-found : goal.returns-then-before-lt-BLOCK-clause-found
returns-then-before-lt-BLOCK-clause-found c =
    let start = c.loop-start.start in
    let m : start + 64 - start ≡ 64 = omega arith in
    let room : start + 64 ≤ length c.args.bytes.now = omega arith in
    let at = in-block c.args.bytes.now start c.before_lf-before.result room (omega arith)
    (rw m at c.before_lf-before.ensures) in
    (omega arith, at)

pub returns-then-before-lt-BLOCK-clause-before : goal.returns-then-before-lt-BLOCK-clause-before
returns-then-before-lt-BLOCK-clause-before c =
    let bytes = c.args.bytes.now in
    let start = c.loop-start.start in
    let n = c.before_lf-before.result in
    let m : start + 64 - start ≡ 64 = omega arith in
    let is : n ≡ before_lf (take 64 (drop start bytes)) = rw m at c.before_lf-before.ensures in
    let block : NoLfBelow (take 64 (drop start bytes)) n = rw is (none-before (take 64 (drop start bytes))) in
    NoLfBelow-more bytes start 64 n (omega arith) c.loop-start.invariant.before block

pub loop-start-preserved : goal.loop-start-preserved
loop-start-preserved c =
    let bytes = c.args.bytes.now in
    let start = c.loop-start.start in
    let m : start + 64 - start ≡ 64 = omega arith in
    let is : c.before_lf-before.result ≡ before_lf (take 64 (drop start bytes)) = rw m at c.before_lf-before.ensures in
    let block : NoLfBelow (take 64 (drop start bytes)) 64 = λ k low.
    none-before (take 64 (drop start bytes)) k (omega (arith, is, low)) in
    record {
      within = omega arith;
      before = NoLfBelow-more bytes start 64 64 (omega arith) c.loop-start.invariant.before block;
    }

pub returns-in-Some-clause-before : goal.returns-in-Some-clause-before
returns-in-Some-clause-before c =
    let bytes = c.args.bytes.now in
    let start = c.loop-start.start in
    let size = length-part bytes start (length bytes - start) (omega arith) in
    NoLfBelow-more bytes start (length bytes - start) c.in-Some.n (omega (arith, size, c.in-Some.ensures.found.0))
    c.loop-start.invariant.before c.in-Some.ensures.before

pub returns-in-None-clause-before : goal.returns-in-None-clause-before
returns-in-None-clause-before c =
    let bytes = c.args.bytes.now in
    let start = c.loop-start.start in
    let size = length-part bytes start (length bytes - start) (omega arith) in
    let rest : NoLfBelow (take (length bytes - start) (drop start bytes)) (length bytes - start) = λ k low.
    c.in-None.ensures.before k (omega (arith, size)) in
    λ k low. NoLfBelow-more bytes start (length bytes - start) (length bytes - start) (omega arith)
    c.loop-start.invariant.before rest k (omega arith)
