-- The answers to some lines, one after the other.
use Rattle.std.specs.Prelude.{ℕ, List, count_by, sum_by}
use Rattle.std.specs.List.{flat_map}
use Rattle.sd_token.specs.Token.{Holder}
use Rattle.sd_answer.specs.Answer.{answer, bound, is_error}
use Rattle.sd_answer.specs.declared.job.Task.{Task}

unfoldable pub answers : Task → Holder → List (List ℕ) → List ℕ
answers task holder these = flat_map (answer task holder) these

-- how many lines are answered by an `error` line
unfoldable pub errors : Task → Holder → List (List ℕ) → ℕ
errors task holder these = count_by (is_error task holder) these

-- how often an entry of the token may be compared for them
unfoldable pub bounds : Task → Holder → List (List ℕ) → ℕ
bounds task holder these = sum_by (bound task holder) these
