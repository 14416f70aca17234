use Rattle.std.proofs.Common.{ap, sym, ◌∙◌}
use Rattle.std.specs.Option.{option_copied}
use Rattle.sd_alias.proofs.Values.{known-values}
use Rattle.sd_alias.proofs.AliasPlaces.{fails-first, fails-second, passes, known-looked-up}
use Rattle.sd_alias.proofs.lookup.named_known.Goals as goal
use Rattle.sd_alias.proofs.lookup.named_known.Goals.{in_default-via-in-Some+then-entry-first+else-entry-second}
use Rattle.sd_alias.proofs.lookup.named_known.Goals.{in_default-via-in-Some+else-entry-first, in_default-via-in_default}

pub returns-in-Some-clause-named : goal.returns-in-Some-clause-named
returns-in-Some-clause-named c =
    let first = c.capital-first.ensures in
    let second = c.capital-second.ensures in
    passes _ _ _ _ _ c.if-entry-first.true c.if-entry-second.true
    ∙ known-looked-up _ _ _ _ _ _ first second c.place_of.ensures
    (sym (ap option_copied c.in-Some.is) ∙ c.entry_at.ensures)

pub returns-in_default-clause-named : goal.returns-in_default-clause-named
returns-in_default-clause-named c =
    let first = c.capital-first.ensures in
    let second = c.capital-second.ensures in
    elim c.in_default.branch [
      | in_default-via-in-Some+then-entry-first+else-entry-second w ↦
          fails-second _ _ _ _ _ w.if-entry-second.false
          ∙ known-looked-up _ _ _ _ _ _ first second c.place_of.ensures
          (sym (ap option_copied w.in-Some.is) ∙ c.entry_at.ensures)
      | in_default-via-in-Some+else-entry-first w ↦
          fails-first _ _ _ _ _ w.if-entry-first.false
          ∙ known-looked-up _ _ _ _ _ _ first second c.place_of.ensures
          (sym (ap option_copied w.in-Some.is) ∙ c.entry_at.ensures)
      | in_default-via-in_default w ↦
          known-looked-up _ _ _ _ _ _ first second c.place_of.ensures
          (sym (ap option_copied w.in_default.is) ∙ c.entry_at.ensures)
    ]

pub returns-in-Some-clause-values : goal.returns-in-Some-clause-values
returns-in-Some-clause-values c = known-values

pub returns-in_default-clause-values : goal.returns-in_default-clause-values
returns-in_default-clause-values c = known-values
