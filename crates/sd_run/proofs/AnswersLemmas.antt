-- The answers to one line more, and to several.
use Rattle.std.proofs.Common.{◌≡◌, ℕ, ◌+◌, List, [], ◌∷◌, ◌++◌, cond, ◌∙◌, ap, append-nil}
use Rattle.std.proofs.lemmas.Grind.{flat_map-append, fold-append}
use Rattle.std.proofs.lemmas.List.Sums.{sum_by-append}
use Rattle.sd_token.specs.Token.{Holder}
use Rattle.sd_answer.specs.declared.job.Task.{Task}
use Rattle.sd_answer.specs.Answer.{answer, bound, is_error}
use Rattle.sd_run.specs.Answers.{answers, bounds, errors}

pub answers-append : (task : Task) (holder : Holder) (all more : List (List ℕ))
    → answers task holder (all ++ more) ≡ answers task holder all ++ answers task holder more
unfolding answers
answers-append task holder all more = flat_map-append (answer task holder) all more

pub answers-one : (task : Task) (holder : Holder) (line : List ℕ)
    → answers task holder (line ∷ []) ≡ answer task holder line
unfolding answers
answers-one task holder line = append-nil (answer task holder line)

pub answers-push : (task : Task) (holder : Holder) (all : List (List ℕ)) (line : List ℕ)
    → answers task holder (all ++ line ∷ []) ≡ answers task holder all ++ answer task holder line
answers-push task holder all line = answers-append task holder all (line ∷ [])
    ∙ ap (λ l. answers task holder all ++ l) (answers-one task holder line)

pub errors-append : (task : Task) (holder : Holder) (all more : List (List ℕ))
    → errors task holder (all ++ more) ≡ errors task holder all + errors task holder more
unfolding errors
errors-append task holder all more = sum_by-append (λ line. cond (is_error task holder line) 1 0) all more

pub errors-push : (task : Task) (holder : Holder) (all : List (List ℕ)) (line : List ℕ)
    → errors task holder (all ++ line ∷ []) ≡ errors task holder all + cond (is_error task holder line) 1 0
unfolding errors
errors-push task holder all line = fold-append _ 0 all (line ∷ [])

pub bounds-push : (task : Task) (holder : Holder) (all : List (List ℕ)) (line : List ℕ)
    → bounds task holder (all ++ line ∷ []) ≡ bounds task holder all + bound task holder line
unfolding bounds
bounds-push task holder all line = fold-append _ 0 all (line ∷ [])
