use Rattle.std.proofs.Common.{◌≡◌, List, ℕ, ◌++◌, sym, ap, ◌∙◌}
use Rattle.sd_builder.specs.Trustee.{trustee_sid}
use Rattle.sd_builder.proofs.PlainAces.{front-sid}
use Rattle.sd_sid.specs.Account.{account_sid}
use Rattle.sd_sid.specs.Sid.{sid_bytes}
use Rattle.sd_builder.proofs.append.append_ace.Goals as goal

pub returns-in-Account : goal.returns-in-Account
returns-in-Account c =
    let s = trustee_sid c.args.trustee in
    let same : account_sid c.in-Account.account ≡ s = sym (ap trustee_sid c.in-Account.is) in
    let front = c.bytes-front.result in
    let sid = c.account_sid_bytes.ensures ∙ ap sid_bytes same in
    c.append.ensures
    ∙ ap (λ (xs : List ℕ). c.args.buf.now ++ xs) (c.account_ace.ensures ∙ ap (λ (xs : List ℕ). front ++ xs) sid)
    ∙ front-sid c.args.head s c.plain_size.result c.args.buf.now front c.plain_size.ensures.plain
    c.plain_size.ensures.value c.bytes-front.ensures
