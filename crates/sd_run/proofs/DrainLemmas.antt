-- Several writes, one after another.
use Rattle.std.proofs.Common.{zero, suc, ◌≡◌, ℕ, ◌+◌, ◌<◌, ◌≤◌, List, [], ◌∷◌, ◌++◌, length, take, drop, Option, None}
use Rattle.std.proofs.Common.{Some, Result, Ok, refl, sym, ◌∙◌, ap, subst, arith, append-nil}
use Rattle.std.proofs.lemmas.List.{take-append-drop, take-take, drop-take}
use Rattle.std.specs.Io.KnownBytes.{Appends, Keeps}
use Rattle.std.proofs.KnownBytes.{Appends-trans}
use Rattle.sd_sink.specs.Counts.{counted}
use Rattle.sd_sink.specs.Sink.{PutSome}
use Rattle.sd_run.specs.Told.{DrainTold, sink_of, failed_writes_after}

-- bytes that stay as they were grew by none
pub Appends-Keeps : (a b : Option (List ℕ)) → Keeps a b → Appends a b []
Appends-Keeps None b h = tt
Appends-Keeps (Some x) None h = absurd h
Appends-Keeps (Some x) (Some y) h = h ∙ sym (append-nil x)

-- a write that takes nothing of some bytes counts as failed
pub failed-nothing : {E : Type 0} (r : Result ℕ E) (bytes : List ℕ) (failures : ℕ) → r ≡ Ok 0 → 0 < length bytes
    → failed_writes_after r bytes failures ≡ counted failures
failed-nothing {E} r [] failures e h = absurd (omega arith)
failed-nothing {E} r (b ∷ bytes) failures e h = rw e

-- a write that takes some bytes does not fail
pub failed-some : {E : Type 0} (r : Result ℕ E) (bytes : List ℕ) (n failures : ℕ) → r ≡ Ok n → 0 < n
    → failed_writes_after r bytes failures ≡ failures
failed-some {E} r bytes zero failures e h = absurd (omega arith)
failed-some {E} r bytes (suc n) failures e h = rw e

-- the writes stopped at one that took nothing and counts as failed
pub PutSome-stopped : (old mid new : DrainTold) (bytes : List ℕ) (at : ℕ)
    → Appends old.taken mid.taken (take at bytes) → mid.failures ≡ old.failures
    → Appends mid.taken new.taken [] → new.failures ≡ counted mid.failures → 0 < length bytes
    → PutSome (sink_of old) (sink_of new) bytes
PutSome-stopped old mid new bytes at so_far same none failed beyond = record {
  identity = refl;
  part = take at bytes ++ [];
  is_prefix = (
    drop at bytes,
    sym (ap (λ l. l ++ drop at bytes) (append-nil (take at bytes)) ∙ take-append-drop at bytes),
  );
  appended = Appends-trans old.taken mid.taken new.taken _ _ so_far none;
  failed = omega arith;
  beyond = beyond;
}

-- a front, and then some bytes of what follows it
take_both : (bytes : List ℕ) (at n : ℕ) → take at bytes ++ take n (drop at bytes) ≡ take (at + n) bytes
take_both bytes at n =
    let le : at ≤ at + n = omega arith in
    ap (λ l. take at bytes ++ l) (sym (drop-take at n bytes))
    ∙ ap (λ l. l ++ drop at (take (at + n) bytes)) (sym (take-take at (at + n) bytes le))
    ∙ take-append-drop at (take (at + n) bytes)

-- one write more
pub Appends-more : (a b c : Option (List ℕ)) (bytes : List ℕ) (at n : ℕ) → Appends a b (take at bytes)
    → Appends b c (take n (drop at bytes)) → Appends a c (take (at + n) bytes)
Appends-more a b c bytes at n p q = subst (Appends a c) (take_both bytes at n) (Appends-trans a b c _ _ p q)
