use Rattle.std.proofs.Common.{ap, sym, ◌∙◌}
use Rattle.std.specs.Option.{option_copied}
use Rattle.sd_alias.proofs.AliasPlaces.{place-none, place-some}
use Rattle.sd_alias.proofs.lookup.place_in.Goals as goal

pub returns-in-Some : goal.returns-in-Some
returns-in-Some c =
    place-some c.args.cells.now c.args.cell _ _
    (sym (ap option_copied c.in-Some.is) ∙ c.entry_at.ensures) c.from.ensures

pub returns-in-None : goal.returns-in-None
returns-in-None c =
    place-none c.args.cells.now c.args.cell _ (sym (ap option_copied c.in-None.is) ∙ c.entry_at.ensures)
    c.from-in-None.ensures
