-- The first line of some bytes, and what follows it.
use Rattle.std.proofs.Common.{◌≡◌, ◌≢◌, ◌<◌, ◌+◌, ℕ, List, [], ◌∷◌, ◌++◌, length, take, drop, get_or, refl}
use Rattle.std.proofs.Common.{sym, ap, ◌∙◌, arith, map}
use Rattle.std.proofs.lemmas.List.{drop_more, get_or-take, length-take-le, take-append-drop}
use Rattle.sd_answer.specs.LineEnd.{without_cr}
use Rattle.sd_run.specs.Lines.{LineCut, cut_at_line_feeds, ended, last_line, lines}
use Rattle.sd_run.proofs.LineCutLemmas.{NoLf, parts-more}
use Rattle.sd_run.proofs.SplitsLemmas.{cut-after}

pub without-none : (line : List ℕ) → length line ≡ 0 → without_cr line ≡ line
unfolding without_cr
without-none [] e = refl
without-none (b ∷ line) e = absurd (omega (arith, e))

cut-first : (line rest : List ℕ) → NoLf line
    → cut_at_line_feeds (line ++ 10 ∷ rest)
    ≡ record { ended = line ∷ (cut_at_line_feeds rest).ended; rest = (cut_at_line_feeds rest).rest }
unfolding cut_at_line_feeds
cut-first line rest none =
    cut-after line rest
    ∙ ap (λ (p : LineCut). let q : LineCut = record {
      ended = (p.ended ++ p.rest ∷ []) ++ (cut_at_line_feeds rest).ended;
      rest = (cut_at_line_feeds rest).rest;
    } in q) (parts-more [] line none)

-- an LF ends the first line
pub lines-first : (line rest : List ℕ) → NoLf line → lines (line ++ 10 ∷ rest) ≡ without_cr line ∷ lines rest
unfolding lines ended
lines-first line rest none =
    ap (λ (p : LineCut). map without_cr p.ended ++ last_line p.rest) (cut-first line rest none)

last-some : (bytes : List ℕ) → 0 < length bytes → last_line bytes ≡ bytes ∷ []
last-some [] some = absurd (omega (arith, some))
last-some (b ∷ bytes) some = refl

-- without an LF all is one line
pub lines-only : (bytes : List ℕ) → NoLf bytes → 0 < length bytes → lines bytes ≡ bytes ∷ []
unfolding lines ended cut_at_line_feeds
lines-only bytes none some =
    ap (λ (p : LineCut). map without_cr p.ended ++ last_line p.rest) (parts-more [] bytes none) ∙ last-some bytes some

pub lines-none : (bytes : List ℕ) → length bytes ≡ 0 → lines bytes ≡ []
unfolding lines ended cut_at_line_feeds
lines-none [] e = refl
lines-none (b ∷ bytes) e = absurd (omega (arith, e))

split : (bytes : List ℕ) (n : ℕ) → n < length bytes → get_or bytes n 0 ≡ 10
    → bytes ≡ take n bytes ++ 10 ∷ drop (n + 1) bytes
split bytes n within at =
    sym (take-append-drop n bytes)
    ∙ ap (λ (l : List ℕ). take n bytes ++ l)
    (drop_more bytes n 0 within ∙ ap (λ (b : ℕ). b ∷ drop (n + 1) bytes) at)

none-before : (bytes : List ℕ) (n : ℕ) → n < length bytes → ((k : ℕ) → k < n → get_or bytes k 0 ≢ 10)
    → NoLf (take n bytes)
none-before bytes n within before = λ k low e.
    let below : k < n = let long = length-take-le n bytes (omega arith) in omega arith in
    before k below (sym (get_or-take n bytes k 0 below) ∙ e)

-- the same by the place of the first LF
pub cut-at : (bytes : List ℕ) (n : ℕ) (line rest : List ℕ) → n < length bytes → get_or bytes n 0 ≡ 10
    → ((k : ℕ) → k < n → get_or bytes k 0 ≢ 10) → line ≡ without_cr (take n bytes) → rest ≡ drop (n + 1) bytes
    → lines bytes ≡ line ∷ lines rest
cut-at bytes n line rest within at before line_is rest_is =
    rw (line_is, rest_is)
    (ap lines (split bytes n within at)
    ∙ lines-first (take n bytes) (drop (n + 1) bytes) (none-before bytes n within before))
