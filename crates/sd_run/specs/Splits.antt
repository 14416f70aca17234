-- An input that is answered in pieces.
use Rattle.std.specs.Prelude.{◌≡◌, ℕ, ◌+◌, List, [], ◌∷◌, ◌++◌, length}
use Rattle.sd_token.specs.Token.{Holder}
use Rattle.sd_answer.specs.declared.job.Task.{Task}
use Rattle.sd_run.specs.Answers.{answers, errors}
use Rattle.sd_run.specs.Lines.{lines}
use Rattle.sd_answer.specs.LineEnd.{line_feed}

-- Cut behind an LF, an input has the answers of its pieces, one after the other, and as many lines and `error` lines as
-- they have together: so each piece may be answered by itself.
pub record Splits (task : Task) (holder : Holder) (front back : List ℕ) : Type 0 where
  pub answered : answers task holder (lines (front ++ line_feed ∷ back))
      ≡ answers task holder (lines (front ++ line_feed ∷ [])) ++ answers task holder (lines back)
  pub line_count : length (lines (front ++ line_feed ∷ back))
      ≡ length (lines (front ++ line_feed ∷ [])) + length (lines back)
  pub error_count : errors task holder (lines (front ++ line_feed ∷ back))
      ≡ errors task holder (lines (front ++ line_feed ∷ [])) + errors task holder (lines back)

abbrev pub AnswersSplit : Task → Holder → Type 0
AnswersSplit task holder = (front back : List ℕ) → Splits task holder front back
