-- Several calls of a printer, one after another.
use Rattle.std.proofs.Common.{◌≡◌, ℕ, List, [], ◌++◌, Bool, true, false, Result, subst, refl, sym, ◌∙◌, ap}
use Rattle.std.proofs.Common.{append_assoc, append-nil}
use Rattle.sd_sink.specs.Sink.{SinkTold, PutSome, Puts}
use Rattle.sd_sink.specs.declared.sink.SinkFault.{SinkFault}
use Rattle.sd_sink.proofs.laws.SinkLemmas.{PutAll-nil, PutAll-trans, PutSome-after, PutSome-more, Puts-after}
use Rattle.sd_sink.specs.Print.{PrintTold, Passes, Prints, Finishes, Begins}

Passes-trans : (a b c : PrintTold) (xs ys : List ℕ) → Passes a b xs → Passes b c ys → Passes a c (xs ++ ys)
Passes-trans a b c xs ys p q = record {
  part = p.part ++ q.part;
  put = PutAll-trans a.below b.below c.below p.part q.part p.put q.put;
  rest = append_assoc p.part q.part c.held ∙ ap (λ l. p.part ++ l) q.rest ∙ sym (append_assoc p.part b.held ys)
      ∙ ap (λ l. l ++ ys) p.rest ∙ append_assoc a.held xs ys;
}

some-after : (a b c : PrintTold) (xs ys : List ℕ) → Passes a b xs → PutSome b.below c.below (b.held ++ ys)
    → PutSome a.below c.below (a.held ++ (xs ++ ys))
some-after a b c xs ys p q =
    let e : p.part ++ (b.held ++ ys) ≡ a.held ++ (xs ++ ys) =
    sym (append_assoc p.part b.held ys) ∙ ap (λ l. l ++ ys) p.rest ∙ append_assoc a.held xs ys in
    subst (λ (t : List ℕ). PutSome a.below c.below t) e
    (PutSome-after a.below b.below c.below p.part (b.held ++ ys) p.put q)

some-more : (a b c : PrintTold) (xs ys : List ℕ) → PutSome a.below b.below (a.held ++ xs) → c.below ≡ b.below
    → PutSome a.below c.below (a.held ++ (xs ++ ys))
some-more a b c xs ys q e =
    subst (λ (t : List ℕ). PutSome a.below c.below t) (append_assoc a.held xs ys)
    (PutSome-more a.below c.below (a.held ++ xs) ys
    (subst (λ (w : SinkTold). PutSome a.below w (a.held ++ xs)) (sym e) q))

trans-by : (m : Bool) (a b c : PrintTold) (xs ys : List ℕ) → b.failed ≡ m → Prints a b xs → Prints b c ys
    → Prints a c (xs ++ ys)
trans-by true a b c xs ys m p q = record {
  identity = q.identity ∙ p.identity;
  below_identity = q.below_identity ∙ p.below_identity;
  whole = λ x y. absurd (cc (q.stays m));
  some = λ x y. some-more a b c xs ys (p.some x m) (q.none m);
  stays = λ x. q.stays m;
  none = λ x. q.none m ∙ p.none x;
}
trans-by false a b c xs ys m p q = record {
  identity = q.identity ∙ p.identity;
  below_identity = q.below_identity ∙ p.below_identity;
  whole = λ x y. Passes-trans a b c xs ys (p.whole x m) (q.whole m y);
  some = λ x y. some-after a b c xs ys (p.whole x m) (q.some m y);
  stays = λ x. absurd (cc (p.stays x));
  none = λ x. absurd (cc (p.stays x));
}

-- a text and then another
pub prints_then : {a b c : PrintTold} {xs ys : List ℕ} → Prints a b xs → Prints b c ys → Prints a c (xs ++ ys)
prints_then {a} {b} {c} {xs} {ys} p q = trans-by b.failed a b c xs ys refl p q

finished-by : (m : Bool) (a b c : PrintTold) (text : List ℕ) (result : Result (Unit {0}) SinkFault) → b.failed ≡ m
    → a.failed ≡ false → a.held ≡ []
    → Prints a b text → Finishes b c result → Puts a.below c.below text result
finished-by true a b c text result m x e p q =
    let some : PutSome a.below b.below text = subst (λ (l : List ℕ). PutSome a.below b.below (l ++ text)) e
    (p.some x m) in
    let there : PutSome a.below c.below text = subst (λ (w : SinkTold). PutSome a.below w text) (sym (q.none m)) some in
    subst (λ (r : Result (Unit {0}) SinkFault). Puts a.below c.below text r) (sym (q.fault m)) there
finished-by false a b c text result m x e p q =
    let whole = p.whole x m in
    Puts-after a.below b.below c.below whole.part b.held text result (whole.rest ∙ ap (λ l. l ++ text) e) whole.put
    (q.puts m)

-- a printer that began with nothing, and finished
pub finished : {a b c : PrintTold} {text : List ℕ} {result : Result (Unit {0}) SinkFault} → a.failed ≡ false
    → a.held ≡ []
    → Prints a b text → Finishes b c result → Puts a.below c.below text result
finished {a} {b} {c} {text} {result} x e p q = finished-by b.failed a b c text result refl x e p q

-- what a caller of the printer sees
pub printed : {old new : SinkTold} {a b c : PrintTold} {text : List ℕ} {result : Result (Unit {0}) SinkFault}
    → Begins old a → c.below ≡ new
    → Finishes b c result → Prints a b text → Puts old new text result
printed {old} {new} {a} {b} {c} {text} {result} x last q p =
    subst (λ (w : SinkTold). Puts w new text result) x.below
    (subst (λ (w : SinkTold). Puts a.below w text result) last (finished x.unfailed x.nothing_held p q))

-- the same text in other words
pub prints_as : {a b : PrintTold} {xs ys : List ℕ} → xs ≡ ys → Prints a b xs → Prints a b ys
prints_as {a} {b} e p = subst (λ (t : List ℕ). Prints a b t) e p

-- nothing is printed
pub prints_nothing : (a : PrintTold) → Prints a a []
prints_nothing a = record {
  identity = refl;
  below_identity = refl;
  whole = λ x y. record { part = []; put = PutAll-nil a.below; rest = sym (append-nil a.held) };
  some = λ x y. absurd (cc (x, y));
  stays = λ x. x;
  none = λ x. refl;
}
