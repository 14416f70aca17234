-- The parts of a text with one more byte.
use Rattle.std.proofs.Common.{◌≡◌, ℕ, List, [], ◌∷◌, ◌++◌, Bool, true, false, ◌==◌, cond, map, refl, sym, ◌∙◌, ap}
use Rattle.std.proofs.Common.{rules, append-nil, append_assoc, suc, length, get_or, take, drop, ◌<◌, ◌≤◌, ◌+◌, ◌-◌, inl}
use Rattle.std.proofs.Common.{inr, arith}
use Rattle.std.proofs.lemmas.List.{map_push, get_or-take, get_or-drop, length-take-le, length-drop}
use Rattle.std.specs.Prelude.{not}
use Rattle.std.specs.List.{prefix_len}
use Rattle.std.proofs.lemmas.Bool.{cases_lt}
use Rattle.std.proofs.lemmas.Bool.Decides.{nat_tests}
use Rattle.std.proofs.lemmas.List.Sums.{prefix_len_passes}
use Rattle.std.proofs.lemmas.List.Elements.{All-from_get_or}
use Rattle.std.proofs.lemmas.List.Folds.{list_any_at, list_any_none}
use Rattle.sd_run.specs.Lines.{IsCut, LinesAreCut, LineCut, cut_at_line_feeds, onto_first_line, ended, has_lf}
use Rattle.sd_answer.specs.LineEnd.{without_cr}

-- one byte in front of these parts
abbrev pub with_front : Bool → ℕ → LineCut → LineCut
with_front c b p = cond c (record { ended = [] ∷ p.ended; rest = p.rest }) (onto_first_line b p.ended p.rest)

-- one byte in front of a cut
front-cut : (c : Bool) (b : ℕ) (ended : List (List ℕ)) (rest bytes : List ℕ) → (b == 10) ≡ c
    → IsCut bytes (record { ended = ended; rest = rest })
    → IsCut (b ∷ bytes) (with_front c b (record { ended = ended; rest = rest }))
front-cut true b ended rest bytes is h =
    let lf : b ≡ 10 = search rules in
    record {
      joined = rw lf (ap (λ l. 10 ∷ l) h.joined);
      ended_without = h.ended_without;
      rest_without = h.rest_without;
    }
front-cut false b [] rest bytes is h =
    record { joined = ap (λ l. b ∷ l) h.joined; ended_without = refl; rest_without = rw is h.rest_without }
front-cut false b (p ∷ ps) rest bytes is h =
    record { joined = ap (λ l. b ∷ l) h.joined; ended_without = rw is h.ended_without; rest_without = h.rest_without }

-- the parts are the one cut at the LFs
pub lines-are-cut : LinesAreCut
unfolding cut_at_line_feeds
lines-are-cut [] = record { joined = refl; ended_without = refl; rest_without = refl }
lines-are-cut (b ∷ bytes) = front-cut (b == 10) b (cut_at_line_feeds bytes).ended
    (cut_at_line_feeds bytes).rest bytes refl (lines-are-cut bytes)

-- these parts, and then an LF
abbrev with_line_end : LineCut → LineCut
with_line_end p = record { ended = p.ended ++ p.rest ∷ []; rest = [] }

-- these parts, and then another byte
abbrev with_end : ℕ → LineCut → LineCut
with_end b p = record { ended = p.ended; rest = p.rest ++ b ∷ [] }

front-closed : (c : Bool) (x : ℕ) (ended : List (List ℕ)) (rest : List ℕ)
    → with_front c x (with_line_end (record { ended = ended; rest = rest })) ≡ with_line_end
    (with_front c x (record { ended = ended; rest = rest }))
front-closed true x ended rest = refl
front-closed false x [] rest = refl
front-closed false x (p ∷ ps) rest = refl

front-grown : (c : Bool) (x b : ℕ) (ended : List (List ℕ)) (rest : List ℕ)
    → with_front c x (with_end b (record { ended = ended; rest = rest })) ≡ with_end b
    (with_front c x (record { ended = ended; rest = rest }))
front-grown true x b ended rest = refl
front-grown false x b [] rest = refl
front-grown false x b (p ∷ ps) rest = refl

pub cut-lf : (xs : List ℕ) → cut_at_line_feeds (xs ++ 10 ∷ []) ≡ with_line_end (cut_at_line_feeds xs)
unfolding cut_at_line_feeds
cut-lf [] = refl
cut-lf (x ∷ xs) = ap (with_front (x == 10) x) (cut-lf xs)
    ∙ front-closed (x == 10) x (cut_at_line_feeds xs).ended (cut_at_line_feeds xs).rest

alone : (c : Bool) (b : ℕ) → c ≡ false
    → with_front c b (record { ended = []; rest = [] }) ≡ record { ended = []; rest = b ∷ [] }
alone c b e = rw e

pub cut-other : (xs : List ℕ) (b : ℕ) → (b == 10) ≡ false
    → cut_at_line_feeds (xs ++ b ∷ []) ≡ with_end b (cut_at_line_feeds xs)
unfolding cut_at_line_feeds
cut-other [] b e = alone (b == 10) b e
cut-other (x ∷ xs) b e = ap (with_front (x == 10) x) (cut-other xs b e)
    ∙ front-grown (x == 10) x b (cut_at_line_feeds xs).ended (cut_at_line_feeds xs).rest

pub ended-lf : (xs : List ℕ) → ended (xs ++ 10 ∷ []) ≡ ended xs ++ without_cr (cut_at_line_feeds xs).rest ∷ []
unfolding ended
ended-lf xs = ap (λ p. map without_cr p.ended) (cut-lf xs)
    ∙ map_push without_cr (cut_at_line_feeds xs).ended (cut_at_line_feeds xs).rest

pub ended-other : (xs : List ℕ) (b : ℕ) → (b == 10) ≡ false → ended (xs ++ b ∷ []) ≡ ended xs
unfolding ended
ended-other xs b e = ap (λ p. map without_cr p.ended) (cut-other xs b e)

pub rest-lf : (xs : List ℕ) → (cut_at_line_feeds (xs ++ 10 ∷ [])).rest ≡ []
rest-lf xs = ap (λ p. p.rest) (cut-lf xs)

-- more bytes end more lines
ended-append_from : (b : Bool) (xs : List ℕ) (x : ℕ) → (x == 10) ≡ b → (more : List (List ℕ))
    × (ended (xs ++ x ∷ []) ≡ ended xs ++ more)
ended-append_from true xs x e = let is : x
    ≡ 10 = search rules in (without_cr (cut_at_line_feeds xs).rest ∷ [], rw is (ended-lf xs))
ended-append_from false xs x e = ([], ended-other xs x e ∙ sym (append-nil (ended xs)))

pub ended-append : (xs ys : List ℕ) → (more : List (List ℕ)) × (ended (xs ++ ys) ≡ ended xs ++ more)
ended-append xs [] = ([], ap ended (append-nil xs) ∙ sym (append-nil (ended xs)))
ended-append xs (y ∷ ys) =
    let one = ended-append_from (y == 10) xs y refl in
    let all = ended-append (xs ++ y ∷ []) ys in (
      one.0 ++ all.0,
      ap ended (sym (append_assoc xs (y ∷ []) ys)) ∙ all.1 ∙ ap (λ l. l ++ all.0) one.1
          ∙ append_assoc (ended xs) one.0 all.0,
    )

-- no byte is an LF
abbrev pub NoLf : List ℕ → Type 0
NoLf bytes = (k : ℕ) → k < length bytes → get_or bytes k 0 ≡ 10 → ⊥

eq_false : (y : ℕ) → (y ≡ 10 → ⊥) → (y == 10) ≡ false
eq_false y h = search rules

-- an LF somewhere, and nowhere
pub has_lf-at : (bytes : List ℕ) (k : ℕ) → k < length bytes → get_or bytes k 0 ≡ 10 → has_lf bytes ≡ true
has_lf-at bytes k low e = list_any_at (λ b. b == 10) bytes k 0 low (rw e refl)

pub has_lf-none : (bytes : List ℕ) → NoLf bytes → has_lf bytes ≡ false
has_lf-none bytes none = list_any_none (λ b. b == 10) bytes
    (All-from_get_or (λ b. (b == 10) ≡ false) bytes 0 (λ k low. eq_false (get_or bytes k 0) (none k low)))

pub parts-more : (xs ys : List ℕ) → NoLf ys
    → cut_at_line_feeds (xs ++ ys)
    ≡ record { ended = (cut_at_line_feeds xs).ended; rest = (cut_at_line_feeds xs).rest ++ ys }
parts-more xs [] h = ap cut_at_line_feeds (append-nil xs)
    ∙ ap (λ r. let p : LineCut = record { ended = (cut_at_line_feeds xs).ended; rest = r } in p)
    (sym (append-nil (cut_at_line_feeds xs).rest))
parts-more xs (y ∷ ys) h =
    let one : (cut_at_line_feeds (xs ++ y ∷ []))
    ≡ with_end y (cut_at_line_feeds xs) = cut-other xs y (eq_false y (h 0 (omega arith))) in
    let all = parts-more (xs ++ y ∷ []) ys (λ k l e. h (suc k) (omega arith) e) in
    ap cut_at_line_feeds (sym (append_assoc xs (y ∷ []) ys)) ∙ all
    ∙ ap (λ p. let q : LineCut = record { ended = p.ended; rest = p.rest ++ ys } in q) one
    ∙ ap (λ r. let p : LineCut = record { ended = (cut_at_line_feeds xs).ended; rest = r } in p)
    (append_assoc (cut_at_line_feeds xs).rest (y ∷ []) ys)

pub ended-more : (xs ys : List ℕ) → NoLf ys → ended (xs ++ ys) ≡ ended xs
unfolding ended
ended-more xs ys h = ap (λ p. map without_cr p.ended) (parts-more xs ys h)

pub rest-more : (xs ys : List ℕ) → NoLf ys → (cut_at_line_feeds (xs ++ ys)).rest ≡ (cut_at_line_feeds xs).rest ++ ys
rest-more xs ys h = ap (λ p. p.rest) (parts-more xs ys h)

-- none of the first n bytes is an LF
abbrev pub NoLfBelow : List ℕ → ℕ → Type 0
NoLfBelow bytes n = (k : ℕ) → k < n → get_or bytes k 0 ≡ 10 → ⊥

pub length-part : (bytes : List ℕ) (start m : ℕ) → start + m ≤ length bytes → length (take m (drop start bytes)) ≡ m
length-part bytes start m room = length-take-le m (drop start bytes) (omega (arith, length-drop start bytes))

-- a search that goes on in the bytes from a place on
pub NoLfBelow-more : (bytes : List ℕ) (start m n : ℕ) → n ≤ m → NoLfBelow bytes start
    → NoLfBelow (take m (drop start bytes)) n → NoLfBelow bytes (start + n)
NoLfBelow-more bytes start m n le before after k low e = elim (cases_lt k start) [
  | inl h ↦ before k h e
  | inr h ↦
      let within : k - start < n = omega arith in
      let shorter : k - start < m = omega arith in
      let place : start + (k - start) ≡ k = omega arith in
      after (k - start) within
      (get_or-take m (drop start bytes) (k - start) 0 shorter ∙ get_or-drop start bytes (k - start) 0
      ∙ ap (λ (i : ℕ). get_or bytes i 0) place ∙ e)
]

-- how many bytes stand before the first LF
abbrev pub before_lf : List ℕ → ℕ
before_lf bytes = prefix_len (λ (b : ℕ). not (b == 10)) bytes

pub none-before : (bytes : List ℕ) → NoLfBelow bytes (before_lf bytes)
none-before bytes k low e =
    let p : not (get_or bytes k 0 == 10) ≡ true = prefix_len_passes (λ (b : ℕ). not (b == 10)) bytes k 0 low in
    let no : false ≡ true = rw e at p in
    absurd cc

pub is-lf : (b : ℕ) → not (b == 10) ≡ false → b ≡ 10
is-lf b e = grind (arith, nat_tests)
