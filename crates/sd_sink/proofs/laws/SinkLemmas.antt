-- Several calls of a sink, one after another.
use Rattle.std.proofs.Common.{◌≡◌, ℕ, List, [], ◌++◌, Result, Ok, Err, subst, refl, sym, ◌∙◌, ap, arith, append_assoc}
use Rattle.std.proofs.Common.{length-append}
use Rattle.std.proofs.KnownBytes.{Appends-trans, Appends-nil}
use Rattle.sd_sink.specs.Sink.{SinkTold, PutAll, PutSome, Puts}
use Rattle.sd_sink.specs.declared.sink.SinkFault.{SinkFault}

-- nothing was put
pub PutAll-nil : (a : SinkTold) → PutAll a a []
PutAll-nil a = record { identity = refl; appended = Appends-nil a.contents; no_failure = refl; room = omega arith }

-- a text and then another
pub PutAll-trans : (a b c : SinkTold) (xs ys : List ℕ) → PutAll a b xs → PutAll b c ys → PutAll a c (xs ++ ys)
PutAll-trans a b c xs ys p q = record {
  identity = q.identity ∙ p.identity;
  appended = Appends-trans a.contents b.contents c.contents xs ys p.appended q.appended;
  no_failure = q.no_failure ∙ p.no_failure;
  room = let first = p.room in let second = q.room in omega (arith, length-append xs ys);
}

-- a text, and a part of another
pub PutSome-after : (a b c : SinkTold) (xs ys : List ℕ) → PutAll a b xs → PutSome b c ys → PutSome a c (xs ++ ys)
PutSome-after a b c xs ys p q = record {
  identity = q.identity ∙ p.identity;
  part = xs ++ q.part;
  is_prefix = (q.is_prefix.0, ap (λ l. xs ++ l) q.is_prefix.1 ∙ sym (append_assoc xs q.part q.is_prefix.0));
  appended = Appends-trans a.contents b.contents c.contents xs q.part p.appended q.appended;
  failed = let same = p.no_failure in let rose = q.failed in omega arith;
  beyond = let first = p.room in let second = q.beyond in omega (arith, length-append xs ys);
}

-- a part of a text is a part of a longer one
pub PutSome-more : (a b : SinkTold) (xs ys : List ℕ) → PutSome a b xs → PutSome a b (xs ++ ys)
PutSome-more a b xs ys q = record {
  identity = q.identity;
  part = q.part;
  is_prefix = (q.is_prefix.0 ++ ys, ap (λ l. l ++ ys) q.is_prefix.1 ∙ append_assoc q.part q.is_prefix.0 ys);
  appended = q.appended;
  failed = q.failed;
  beyond = let short = q.beyond in omega (arith, length-append xs ys);
}

joined : (a b c : SinkTold) (xs ys : List ℕ) (result : Result (Unit {0}) SinkFault) → PutAll a b xs → Puts b c ys result
    → Puts a c (xs ++ ys) result
joined a b c xs ys (Ok done) first second = PutAll-trans a b c xs ys first second
joined a b c xs ys (Err fault) first second = PutSome-after a b c xs ys first second

-- a text that was put whole, and then another: the last call tells how it went
pub Puts-after : (a b c : SinkTold) (xs ys text : List ℕ) (result : Result (Unit {0}) SinkFault) → xs ++ ys ≡ text
    → PutAll a b xs → Puts b c ys result → Puts a c text result
Puts-after a b c xs ys text result e first second = subst (λ (t : List ℕ). Puts a c t result) e
    (joined a b c xs ys result first second)
