-- What a line means, case by case, and what is answered to it.
use Rattle.std.proofs.Common.{◌≡◌, ◌≢◌, ◌≤◌, ◌<◌, ℕ, List, [], ◌∷◌, Bool, false, length, Option, Some, Result, Ok, Err}
use Rattle.std.proofs.Common.{refl, sym, ◌∙◌, ap, subst, arith}
use Rattle.std.proofs.lemmas.Bool.Decides.{nat_tests}
use Rattle.sd_sink.proofs.laws.PrintLemmas.{printed}
use Rattle.sd_sink.specs.Print.{Begins, Finishes, PrintTold}
use Rattle.sd_sink.specs.Sink.{SinkTold, PutSome, Puts}
use Rattle.std.specs.Prelude.{MatchResult}
use Rattle.sd_sink.specs.declared.sink.SinkFault.{SinkFault}
use Rattle.sd_sid.specs.Sid.{SecurityId}
use Rattle.sd_view.specs.Descriptor.{Descriptor}
use Rattle.sd_token.specs.Token.{Compares, Holder, TokenShown}
use Rattle.sd_answer.specs.Answer.{Meaning, answer, bound, is_error, line_limit, line_means, meaning}
use Rattle.sd_answer.specs.Answer.{outcome_of_meaning, text_means}
use Rattle.sd_answer.specs.Inner.Printing.{PrintsAnswer}
use Rattle.sd_answer.specs.LineInHand.{PutsAnswer}
use Rattle.sd_faults.specs.declared.line_fault.LineFault.{LineFault}
use Rattle.sd_faults.specs.declared.line_fault.LineFault.TheVariants.{TooLong}
use Rattle.sd_answer.specs.declared.job.Form.{Form}
use Rattle.sd_answer.specs.declared.job.Job.{Job}
use Rattle.sd_answer.specs.declared.job.Task.{Task}

-- what is printed for what a line means is its answer
pub answered : (task : Task) (holder : Holder) (line : List ℕ) (old new : PrintTold) (m : Meaning) (faulty : Bool)
    → meaning task.job line ≡ m
    → PrintsAnswer old new (outcome_of_meaning task holder m).text (outcome_of_meaning task holder m).is_error faulty
    → PrintsAnswer old new (answer task holder line) (is_error task holder line) faulty
unfolding answer is_error
answered task holder line old new m faulty e h =
    subst (λ (x : Meaning). PrintsAnswer old new (outcome_of_meaning task holder x).text
    (outcome_of_meaning task holder x).is_error faulty) (sym e) h

-- the same for what is put
pub put-answered : (task : Task) (holder : Holder) (line : List ℕ) (old new : SinkTold) (m : Meaning)
    (result : Result Bool SinkFault) → meaning task.job line ≡ m
    → PutsAnswer old new (outcome_of_meaning task holder m).text (outcome_of_meaning task holder m).is_error result
    → PutsAnswer old new (answer task holder line) (is_error task holder line) result
unfolding answer is_error
put-answered task holder line old new m result e h =
    subst (λ (x : Meaning). PutsAnswer old new (outcome_of_meaning task holder x).text
    (outcome_of_meaning task holder x).is_error result) (sym e) h

-- an answer that is no `error` line and was put
pub puts-answer : (old new : SinkTold) (text : List ℕ) (put : Result (Unit {0}) SinkFault)
    (result : Result Bool SinkFault)
    → MatchResult put (λ _. result ≡ Ok false) (λ fault. result ≡ Err fault) → Puts old new text put
    → PutsAnswer old new text false result
puts-answer old new text (Ok done) result is p = rw is (p, refl)
puts-answer old new text (Err fault) result is p = rw is p

-- what is compared for what a line means is what the line may compare
pub compared : (task : Task) (holder : Holder) (line : List ℕ) (token token' : TokenShown) (m : Meaning)
    → meaning task.job line ≡ m
    → Compares token token' (outcome_of_meaning task holder m).bound → Compares token token' (bound task holder line)
unfolding bound
compared task holder line token token' m e h =
    subst (λ (x : Meaning). Compares token token' (outcome_of_meaning task holder x).bound) (sym e) h

-- no entry was compared
pub Compares-none : (token : TokenShown) (n : ℕ) → Compares token token n
Compares-none token n = record { goes_on = omega arith; at_most = omega arith }

pub broken : {old new : SinkTold} {a b c : PrintTold} {text : List ℕ} {error faulty : Bool} (fault : SinkFault)
    → Begins old a → c.below ≡ new
    → (Finishes b c (Err fault) → PrintsAnswer a b text error faulty → PutSome old new text)
broken fault x last q p = printed x last q p.0

line_means-over : (form : Form) (domain : Option SecurityId) (line : List ℕ) → line_limit form < length line
    → line_means form domain line ≡ Err TooLong
unfolding line_means
line_means-over form domain line h = grind (arith, nat_tests)

line_means-within : (form : Form) (domain : Option SecurityId) (line : List ℕ) → length line ≤ line_limit form
    → line_means form domain line ≡ text_means form domain line
unfolding line_means
line_means-within form domain line h = grind (arith, nat_tests)

meaning-some : (job : Job) (line : List ℕ) → 0 < length line
    → meaning job line ≡ Some (line_means job.line_form job.domain line)
meaning-some job [] h = absurd (omega arith)
meaning-some job (b ∷ line) h = refl

-- a line over its limit
pub meaning-over : (job : Job) (line : List ℕ) → line_limit job.line_form < length line
    → meaning job line ≡ Some (Err TooLong)
meaning-over job line beyond =
    meaning-some job line (omega arith)
    ∙ ap (λ (m : Result Descriptor LineFault). Some m) (line_means-over job.line_form job.domain line beyond)

-- any other line that is not empty
pub meaning-text : (job : Job) (line : List ℕ) (m : Result Descriptor LineFault) → line ≢ []
    → length line ≤ line_limit job.line_form
    → m ≡ text_means job.line_form job.domain line → meaning job line ≡ Some m
meaning-text job [] m some within e = absurd (some refl)
meaning-text job (b ∷ line) m some within e =
    ap (λ (m : Result Descriptor LineFault). Some m)
    (line_means-within job.line_form job.domain (b ∷ line) within ∙ sym e)
