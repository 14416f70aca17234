-- Reasons have the faults of a verdict.
use Rattle.std.proofs.Common.{◌≡◌, ℕ, List, Result, Ok, Err, refl}
use Rattle.sd_text.specs.Chains.{◌>>=◌}
use Rattle.sd_token.specs.Token.{Holder}
use Rattle.sd_check.specs.Ask.{Asked}
use Rattle.sd_check.specs.Reasons.{reasons}
use Rattle.sd_check.specs.Verdict.{verdict}
use Rattle.sd_call.specs.Arguments.{descriptor_in}
use Rattle.sd_call.specs.declared.outcome.CallFault.{CallFault}
use Rattle.sd_call_access.specs.Checks.{fault_of, verdict_on}
use Rattle.sd_call_access.specs.Reasons.{explained, outcome_without, reasons_on}

pub same_faults : (bytes : List ℕ) (asker : Result (Holder × Asked) CallFault)
    → fault_of (◌>>=◌ asker (λ found. verdict_on bytes found.0 found.1)) ≡ fault_of (explained bytes asker)
unfolding verdict_on reasons_on
same_faults bytes (Err fault) = refl
same_faults bytes (Ok found) =
    by (descriptor_in bytes) (λ d. verdict d found.0 found.1) (λ d. reasons d found.0 found.1)
  where
    by : {D A B : Type 0} (read : Result D CallFault) (one : D → A) (other : D → B)
        → fault_of (◌>>=◌ read (λ d. Ok (one d))) ≡ fault_of (◌>>=◌ read (λ d. Ok (other d)))
    by (Ok d) one other = refl
    by (Err fault) one other = refl

pub by_fault : {A : Type 0} (answer : Result A CallFault) → outcome_without (fault_of answer) ≡ outcome_without answer
by_fault (Ok value) = refl
by_fault (Err fault) = refl
