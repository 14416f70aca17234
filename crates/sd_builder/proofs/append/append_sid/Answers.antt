use Rattle.std.proofs.Common.{◌≡◌, List, ℕ, ◌++◌, sym, ap, ◌∙◌}
use Rattle.sd_builder.specs.Trustee.{trustee_sid}
use Rattle.sd_sid.specs.Account.{account_sid}
use Rattle.sd_sid.specs.Sid.{sid_bytes}
use Rattle.sd_builder.proofs.append.append_sid.Goals as goal

pub returns-in-Account : goal.returns-in-Account
returns-in-Account c =
    let same : account_sid c.in-Account.account ≡ trustee_sid c.args.trustee = sym (ap trustee_sid c.in-Account.is) in
    c.append.ensures
    ∙ ap (λ (xs : List ℕ). c.args.buf.now ++ xs) (c.account_sid_bytes.ensures ∙ ap sid_bytes same)
