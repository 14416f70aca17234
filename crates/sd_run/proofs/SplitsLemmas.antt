-- What follows an LF is cut into lines by itself.
use Rattle.std.proofs.Common.{◌≡◌, ℕ, List, [], ◌∷◌, ◌++◌, Bool, true, false, ◌==◌, map, sym, refl, ap, ◌∙◌}
use Rattle.std.proofs.Common.{append_assoc, append-nil, length-append}
use Rattle.std.proofs.lemmas.List.{map-append}
use Rattle.sd_token.specs.Token.{Holder}
use Rattle.sd_answer.specs.declared.job.Task.{Task}
use Rattle.sd_run.specs.Lines.{LineCut, ended, last_line, lines, cut_at_line_feeds}
use Rattle.sd_answer.specs.LineEnd.{without_cr}
use Rattle.sd_run.specs.Splits.{AnswersSplit}
use Rattle.sd_run.proofs.AnswersLemmas.{answers-append, errors-append}
use Rattle.sd_run.proofs.LineCutLemmas.{with_front, cut-lf, rest-lf}

-- parts that an LF closed, and then those of more bytes
abbrev after : List (List ℕ) → List ℕ → LineCut → LineCut
after ended last more = record { ended = (ended ++ last ∷ []) ++ more.ended; rest = more.rest }

front-after : (c : Bool) (b : ℕ) (ended : List (List ℕ)) (last : List ℕ) (more : LineCut)
    → with_front c b (after ended last more) ≡ after (with_front c b (record { ended = ended; rest = last })).ended
    (with_front c b (record { ended = ended; rest = last })).rest more
front-after true b ended last more = refl
front-after false b [] last more = refl
front-after false b (p ∷ ps) last more = refl

pub cut-after : (xs ys : List ℕ)
    → cut_at_line_feeds (xs ++ 10 ∷ ys)
    ≡ after (cut_at_line_feeds xs).ended (cut_at_line_feeds xs).rest (cut_at_line_feeds ys)
unfolding cut_at_line_feeds
cut-after [] ys = refl
cut-after (x ∷ xs) ys = ap (with_front (x == 10) x) (cut-after xs ys)
    ∙ front-after (x == 10) x (cut_at_line_feeds xs).ended (cut_at_line_feeds xs).rest (cut_at_line_feeds ys)

ended-after : (xs ys : List ℕ) → ended (xs ++ 10 ∷ ys) ≡ ended (xs ++ 10 ∷ []) ++ ended ys
unfolding ended
ended-after xs ys =
    ap (λ p. map without_cr p.ended) (cut-after xs ys)
    ∙ map-append without_cr ((cut_at_line_feeds xs).ended ++ (cut_at_line_feeds xs).rest ∷ [])
    (cut_at_line_feeds ys).ended
    ∙ ap (λ l. l ++ map without_cr (cut_at_line_feeds ys).ended) (sym (ap (λ p. map without_cr p.ended) (cut-lf xs)))

lines-lf : (xs : List ℕ) → lines (xs ++ 10 ∷ []) ≡ ended (xs ++ 10 ∷ [])
unfolding lines
lines-lf xs = ap (λ r. ended (xs ++ 10 ∷ []) ++ last_line r) (rest-lf xs) ∙ append-nil (ended (xs ++ 10 ∷ []))

pub lines-after : (xs ys : List ℕ) → lines (xs ++ 10 ∷ ys) ≡ lines (xs ++ 10 ∷ []) ++ lines ys
unfolding lines
lines-after xs ys =
    ap (λ r. ended (xs ++ 10 ∷ ys) ++ last_line r) (ap (λ p. p.rest) (cut-after xs ys))
    ∙ ap (λ l. l ++ last_line (cut_at_line_feeds ys).rest) (ended-after xs ys)
    ∙ append_assoc (ended (xs ++ 10 ∷ [])) (ended ys) (last_line (cut_at_line_feeds ys).rest)
    ∙ ap (λ l. l ++ (ended ys ++ last_line (cut_at_line_feeds ys).rest)) (sym (lines-lf xs))

pub answers-split : (task : Task) (holder : Holder) → AnswersSplit task holder
answers-split task holder xs ys =
    let cut = lines-after xs ys in
    record {
      answered = rw cut (answers-append task holder (lines (xs ++ 10 ∷ [])) (lines ys));
      line_count = rw cut (length-append (lines (xs ++ 10 ∷ [])) (lines ys));
      error_count = rw cut (errors-append task holder (lines (xs ++ 10 ∷ [])) (lines ys));
    }
