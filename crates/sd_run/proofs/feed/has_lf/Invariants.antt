use Rattle.std.proofs.Common.{◌≡◌, ◌≢◌, ◌<◌, ℕ, false, true, get_or, SomeIndex}
use Rattle.sd_run.proofs.feed.has_lf.Given as goal

abbrev pub invariant-loop-b : goal.invariant-loop-b
invariant-loop-b l = record {
  none : l.found ≡ false → (k : ℕ) → k < l.b-index → get_or l.bytes k 0 ≢ 10;
  some : l.found ≡ true → SomeIndex l.bytes (λ k. get_or l.bytes k 0 ≡ 10);
}
