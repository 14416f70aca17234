use Rattle.std.proofs.Common.{◌≡◌, ◌≤◌, ◌-◌, ◌+◌, ◌&&◌, Bool, false, true, None, ℕ, List, length, take, drop, arith}
use Rattle.std.proofs.Common.{sym, ap, ◌∙◌}
use Rattle.std.proofs.lemmas.List.{length-take-le}
use Rattle.sd_acl_view.specs.AclReading.{aces_fault}
use Rattle.sd_acl_view.specs.Bytes.{u16_at}
use Rattle.sd_acl_view.specs.Inner.Written.{all_named_flags, named_flags}
use Rattle.sd_acl_view.proofs.laws.AclLaws.{ace-bounds, aces-front}
use Rattle.sd_acl_view.proofs.WrittenLaws.{all_named-more, all_named-none}
use Rattle.sd_acl_view.proofs.written_acl.have_named_flags.Goals as goal

-- what is known where one more is counted
record Step (n m : ℕ) (left : List ℕ) : Type 0 where
  least : 16 ≤ u16_at 2 left
  room : u16_at 2 left ≤ length left
  sound : aces_fault n (drop (u16_at 2 left) left) ≡ None
  more : all_named_flags m left ≡ (named_flags (take (u16_at 2 left) left)
      && all_named_flags n (drop (u16_at 2 left) left))

step : (n m : ℕ) (left : List ℕ) → m ≡ n + 1 → aces_fault m left ≡ None → Step n m left
step n m left one e =
    let parts = aces-front n m left one e in
    let bounds = ace-bounds left parts.0 in
    record { least = bounds.0; room = bounds.1; sound = parts.1; more = all_named-more n m left one }

pub u16_at-requires : goal.u16_at-requires
u16_at-requires c =
    let s = step (c.args.count - (c.loop.counter + 1)) (c.args.count - c.loop.counter) c.loop.left.now (omega arith)
    c.loop.invariant.sound in
    omega (arith, s.least, s.room)

pub split_at-requires : goal.split_at-requires
split_at-requires c =
    let s = step (c.args.count - (c.loop.counter + 1)) (c.args.count - c.loop.counter) c.loop.left.now (omega arith)
    c.loop.invariant.sound in
    omega (arith, s.room, c.from.ensures, c.u16_at.ensures)

pub has_named_flags-requires : goal.has_named_flags-requires
has_named_flags-requires c =
    let s = step (c.args.count - (c.loop.counter + 1)) (c.args.count - c.loop.counter) c.loop.left.now (omega arith)
    c.loop.invariant.sound in
    let long = ap (length {A = ℕ}) c.split_at.ensures.front
    ∙ length-take-le c.from.result c.loop.left.now (omega (arith, s.room, c.from.ensures, c.u16_at.ensures)) in
    omega (arith, long, s.least, c.from.ensures, c.u16_at.ensures)

failed : (a b all : Bool) → a ≡ false → all ≡ (a && b) → false ≡ all
failed a b all e h = sym (h ∙ ap (λ (t : Bool). t && b) e)

passed : (a b all : Bool) → a ≡ true → all ≡ (a && b) → b ≡ all
passed a b all e h = sym (h ∙ ap (λ (t : Bool). t && b) e)

pub returns-then-not-has_named_flags : goal.returns-then-not-has_named_flags
returns-then-not-has_named_flags c =
    let left = c.loop.left.now in
    let s = step (c.args.count - (c.loop.counter + 1)) (c.args.count - c.loop.counter) left (omega arith)
    c.loop.invariant.sound in
    let extent : c.split_at.result.0.now ≡ take (u16_at 2 left) left = c.split_at.ensures.front
    ∙ ap (λ (k : ℕ). take k left) (c.from.ensures ∙ c.u16_at.ensures) in
    failed _ _ _
    (sym (ap named_flags extent) ∙ sym c.has_named_flags.ensures ∙ c.if-not-has_named_flags.true)
    (sym c.loop.invariant.named ∙ s.more)

pub loop-preserved : goal.loop-preserved
loop-preserved c =
    let left = c.loop.left.now in
    let n = c.args.count - (c.loop.counter + 1) in
    let s = step n (c.args.count - c.loop.counter) left (omega arith) c.loop.invariant.sound in
    let size : c.from.result ≡ u16_at 2 left = c.from.ensures ∙ c.u16_at.ensures in
    let extent : c.split_at.result.0.now ≡ take (u16_at 2 left) left = c.split_at.ensures.front
    ∙ ap (λ (k : ℕ). take k left) size in
    let rest : c.split_at.result.1.now ≡ drop (u16_at 2 left) left = c.split_at.ensures.back
    ∙ ap (λ (k : ℕ). drop k left) size in
    record {
      sound = ap (aces_fault n) rest ∙ s.sound;
      named = ap (all_named_flags n) rest
          ∙ passed _ _ _ (sym (ap named_flags extent) ∙ sym c.has_named_flags.ensures ∙ c.if-not-has_named_flags.false)
          (sym c.loop.invariant.named ∙ s.more);
    }

pub returns : goal.returns
returns c = sym (all_named-none (c.args.count - c.loop.counter) c.loop.left.now (omega arith)) ∙ c.loop.invariant.named
