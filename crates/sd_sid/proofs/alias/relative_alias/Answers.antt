use Rattle.std.proofs.Common.{sym, ◌∙◌}
use Rattle.sd_sid.proofs.AliasLemmas.{relative_alias-in, relative_alias-outside}
use Rattle.sd_sid.proofs.alias.relative_alias.Goals as goal

pub returns-then-not-is : goal.returns-then-not-is
returns-then-not-is c =
    let split = sym c.subs.ensures.value ∙ c.in_ok-last.ensures.cases.0 in
    relative_alias-outside c.args.domain.now c.args.sid.now _ _ split
    (sym (rw c.authority.ensures.value at c.is.ensures) ∙ c.if-not-is.true)

pub returns-in_err-entry : goal.returns-in_err-entry
returns-in_err-entry c =
    let split = sym c.subs.ensures.value ∙ c.in_ok-last.ensures.cases.0 in
    c.from_residual-in_err-entry.ensures
    ∙ relative_alias-in c.args.domain.now c.args.sid.now _ _ _ split
    (sym (rw c.authority.ensures.value at c.is.ensures) ∙ c.if-not-is.false)
    (sym c.in_err-entry.was ∙ c.find_relative.ensures)

pub returns : goal.returns
returns c =
    let split = sym c.subs.ensures.value ∙ c.in_ok-last.ensures.cases.0 in
    relative_alias-in c.args.domain.now c.args.sid.now _ _ _ split
    (sym (rw c.authority.ensures.value at c.is.ensures) ∙ c.if-not-is.false)
    (sym c.in_ok-entry.was ∙ c.find_relative.ensures)
