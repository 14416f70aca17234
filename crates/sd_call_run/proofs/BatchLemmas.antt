-- The answers to lines, one after the other in the caller's cells.
use Rattle.std.proofs.Common.{◌≡◌, ◌<◌, ◌-◌, ◌+◌, ◌||◌, ℕ, zero, suc, List, [], ◌∷◌, ◌++◌, length, take, Bool, true}
use Rattle.std.proofs.Common.{false, Some, refl, sym, subst, ap, ◌∙◌, arith, append_assoc, append-nil, length-append}
use Rattle.std.proofs.lemmas.Grind.{flat_map-append}
use Rattle.std.specs.List.{list_any}
use Rattle.sd_sink.specs.Sink.{PutAll, PutSome, SinkTold}
use Rattle.sd_sink.proofs.laws.SinkLemmas.{PutAll-nil, PutAll-trans}
use Rattle.sd_answer.specs.Answer.{answer, is_error}
use Rattle.sd_command.specs.Settings.{Settings}
use Rattle.sd_run.specs.Answers.{answers}
use Rattle.sd_run.specs.Lines.{lines}
use Rattle.sd_call_run.specs.Inner.Batches.{Batched, Sofar}
use Rattle.sd_call_run.specs.declared.batch.Batch.{Batch}

-- what cells tell as a sink
abbrev pub told_of : ℕ → List ℕ → ℕ → ℕ → SinkTold
told_of name cells held failures = record {
  identity = name;
  contents = Some (length cells ∷ take held cells);
  failures = failures;
  room = length cells - held;
}

-- the answers to some lines
abbrev pub answers_by : Settings → List (List ℕ) → List ℕ
answers_by settings front = answers settings.task settings.holder front

answers-none : (settings : Settings) → answers_by settings [] ≡ []
unfolding answers
answers-none settings = refl

answers-push : (settings : Settings) (front : List (List ℕ)) (line : List ℕ)
    → answers_by settings (front ++ line ∷ []) ≡ answers_by settings front ++ answer settings.task settings.holder line
unfolding answers
answers-push settings front line =
    flat_map-append (answer settings.task settings.holder) front (line ∷ [])
    ∙ ap (λ (l : List ℕ). answers_by settings front ++ l) (append-nil (answer settings.task settings.holder line))

either-none : (b : Bool) → b ≡ (b || false)
either-none true = refl
either-none false = refl

or-more : (a b c d : Bool) → b ≡ (c || d) → (a || b) ≡ ((a || c) || d)
or-more true b c d e = refl
or-more false b c d e = e

any-push : {X : Type 0} (f : X → Bool) (xs : List X) (x : X) → list_any f (xs ++ x ∷ []) ≡ (list_any f xs || f x)
any-push f [] x = sym (either-none (f x))
any-push f (y ∷ xs) x = or-more (f y) (list_any f (xs ++ x ∷ [])) (list_any f xs) (f x) (any-push f xs x)

-- the front of what is at the front
front-of : (h : ℕ) (xs front more : List ℕ) → take h xs ≡ front ++ more → take (length front) xs ≡ front
front-of h xs [] more e = refl
front-of zero xs (x ∷ front) more e = absurd (cc)
front-of (suc h) [] (x ∷ front) more e = absurd (cc)
front-of (suc h) (y ∷ xs) (x ∷ front) more e =
    let first : y ≡ x = cc in
    let others : take h xs ≡ front ++ more = cc in
    rw first (ap (λ (l : List ℕ). x ∷ l) (front-of h xs front more others))

-- no line is answered
pub sofar-none : (settings : Settings) (input : List ℕ) (sink : SinkTold) (batch : Batch) → batch.length ≡ 0
    → batch.faulty ≡ false → Sofar settings input sink sink input batch
sofar-none settings input sink batch none clean = record {
  front = [];
  split = refl;
  put = rw (answers-none settings) (PutAll-nil sink);
  count = none ∙ sym (ap (λ (l : List ℕ). length l) (answers-none settings));
  faulty = clean;
}

-- what cells took since they had nothing
taken : (name : ℕ) (cells : List ℕ) (failures name' : ℕ) (cells' : List ℕ) (held' failures' : ℕ) (text : List ℕ)
    → PutAll (told_of name cells 0 failures) (told_of name' cells' held' failures') text
    → (take held' cells' ≡ text) × (length cells' ≡ length cells)
taken name cells failures name' cells' held' failures' text put = let all = put.appended in (cc, cc)

-- one line more is answered
pub sofar-more : (settings now : Settings) → now ≡ settings → (input : List ℕ) (name : ℕ) (cells : List ℕ)
    (failures : ℕ) (mid : SinkTold) (name' : ℕ) (cells' : List ℕ) (held' failures' : ℕ) (left rest line : List ℕ)
    (batch batch' : Batch)
    → Sofar settings input (told_of name cells 0 failures) mid left batch → lines left ≡ line ∷ lines rest
    → PutAll mid (told_of name' cells' held' failures') (answer now.task now.holder line)
    → batch'.length ≡ length (take held' cells')
    → batch'.faulty ≡ (batch.faulty || is_error now.task now.holder line)
    → Sofar settings input (told_of name cells 0 failures) (told_of name' cells' held' failures') rest batch'
sofar-more settings now now_is input name cells failures mid name' cells' held' failures' left rest line batch batch'
    sofar cut put_now long faulty_now =
    let put : PutAll mid (told_of name' cells' held' failures') (answer settings.task settings.holder line) =
    subst (λ (s : Settings). PutAll mid (told_of name' cells' held' failures') (answer s.task s.holder line)) now_is
    put_now in
    let faulty : batch'.faulty ≡ (batch.faulty || is_error settings.task settings.holder line) =
    subst (λ (s : Settings). batch'.faulty ≡ (batch.faulty || is_error s.task s.holder line)) now_is faulty_now in
    let all = PutAll-trans _ _ _ _ _ sofar.put put in
    let same = answers-push settings sofar.front line in
    record {
      front = sofar.front ++ line ∷ [];
      split = sofar.split ∙ ap (λ (l : List (List ℕ)). sofar.front ++ l) cut
          ∙ sym (append_assoc sofar.front (line ∷ []) (lines rest));
      put = rw same all;
      count = long ∙ ap (λ (l : List ℕ). length l) (
          (taken name cells failures name' cells' held' failures' _ all).0 ∙ sym same);
      faulty = faulty ∙ ap (λ (b : Bool). b || is_error settings.task settings.holder line) sofar.faulty
          ∙ sym (any-push (is_error settings.task settings.holder) sofar.front line);
    }

-- what cells had before, and a part of a text
had : (name : ℕ) (cells : List ℕ) (held failures name' : ℕ) (cells' : List ℕ) (held' failures' : ℕ) (text : List ℕ)
    → (some : PutSome (told_of name cells held failures) (told_of name' cells' held' failures') text)
    → (take held' cells' ≡ take held cells ++ some.part) × (length cells' ≡ length cells)
had name cells held failures name' cells' held' failures' text some = let part = some.appended in (cc, cc)

-- there is no room for the answer to the next line
pub batched-cut : (settings now : Settings) → now ≡ settings → (input : List ℕ) (name : ℕ) (cells : List ℕ)
    (failures name' : ℕ) (cells' : List ℕ) (held' failures' name'' : ℕ) (cells'' : List ℕ) (held'' failures'' : ℕ)
    (left rest line : List ℕ) (batch batch' : Batch)
    → Sofar settings input (told_of name cells 0 failures) (told_of name' cells' held' failures') left batch
    → lines left ≡ line ∷ lines rest
    → PutSome (told_of name' cells' held' failures') (told_of name'' cells'' held'' failures'')
    (answer now.task now.holder line)
    → batch'.length ≡ batch.length → batch'.faulty ≡ batch.faulty → batch'.all ≡ false
    → Batched settings input cells'' batch'
batched-cut settings now now_is input name cells failures name' cells' held' failures' name'' cells'' held''
    failures'' left rest line batch batch' sofar cut some_now same_length same_faults none =
    let some : PutSome (told_of name' cells' held' failures') (told_of name'' cells'' held'' failures'')
    (answer settings.task settings.holder line) =
    subst (λ (s : Settings). PutSome (told_of name' cells' held' failures')
    (told_of name'' cells'' held'' failures'') (answer s.task s.holder line)) now_is some_now in
    let front = answers_by settings sofar.front in
    let took = taken name cells failures name' cells' held' failures' _ sofar.put in
    let kept = had name' cells' held' failures' name'' cells'' held'' failures'' _ some in
    let more = answers-push settings sofar.front line in
    let room : length cells' - held' ≡ length cells - 0 - length front = sofar.put.room in
    let beyond : length cells' - held' < length (answer settings.task settings.holder line) = some.beyond in
    let long : length (answers_by settings (sofar.front ++ line ∷ []))
    ≡ length front + length (answer settings.task settings.holder line) =
    ap (λ (l : List ℕ). length l) more ∙ length-append front (answer settings.task settings.holder line) in
    record {
      front = sofar.front;
      others = line ∷ lines rest;
      split = sofar.split ∙ ap (λ (l : List (List ℕ)). sofar.front ++ l) cut;
      count = same_length ∙ sofar.count;
      written = ap (λ (n : ℕ). take n cells'') (same_length ∙ sofar.count)
          ∙ front-of held'' cells'' front some.part (kept.0 ∙ ap (λ (l : List ℕ). l ++ some.part) took.0);
      faulty = same_faults ∙ sofar.faulty;
      stops = (none, omega (arith, room, beyond, long, kept.1, took.1));
    }
