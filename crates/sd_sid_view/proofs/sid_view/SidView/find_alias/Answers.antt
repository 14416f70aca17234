use Rattle.std.proofs.Common.{ap, sym}
use Rattle.std.specs.Option.{option_copied}
use Rattle.sd_sid_view.proofs.KnownNames.{named}
use Rattle.sd_sid_view.proofs.sid_view.SidView.find_alias.Goals as goal

pub returns-then-not-is : goal.returns-then-not-is
returns-then-not-is c =
    let only = c.name_for.ensures c.args.self.now.subs (sym c.last.ensures) in
    sym (named c.args.self.now c.in_ok-entry.entry.now _ _ _ _ _ c.from.ensures c.sub_authorities.ensures
    (ap option_copied c.in_ok-entry.was) (rw c.authority.ensures.value at only) c.is.ensures c.if-not-is.true)

pub returns : goal.returns
returns c =
    let only = c.name_for.ensures c.args.self.now.subs (sym c.last.ensures) in
    sym (named c.args.self.now c.in_ok-entry.entry.now _ _ _ _ _ c.from.ensures c.sub_authorities.ensures
    (ap option_copied c.in_ok-entry.was) (rw c.authority.ensures.value at only) c.is.ensures c.if-not-is.false)
