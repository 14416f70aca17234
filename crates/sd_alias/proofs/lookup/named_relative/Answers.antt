use Rattle.std.proofs.Common.{arith, ap, sym, ◌∙◌}
use Rattle.std.specs.Option.{option_copied}
use Rattle.sd_alias.proofs.Values.{relative-values}
use Rattle.sd_alias.proofs.AliasPlaces.{fails-first, fails-second, passes, relative-before, relative-looked-up}
use Rattle.sd_alias.proofs.lookup.named_relative.Goals as goal
use Rattle.sd_alias.proofs.lookup.named_relative.Goals.{in_default-via-in-Some+then-entry-first+else-entry-second}
use Rattle.sd_alias.proofs.lookup.named_relative.Goals.{in_default-via-in-Some+else-entry-first}
use Rattle.sd_alias.proofs.lookup.named_relative.Goals.{in_default-via-in_default}

pub returns-then-place-lt49-clause-named : goal.returns-then-place-lt49-clause-named
returns-then-place-lt49-clause-named c =
    relative-before _ _ _ _ _ c.capital-first.ensures c.capital-second.ensures
    c.place_of-place.ensures c.if-place-lt49.true

pub returns-in-Some-clause-named : goal.returns-in-Some-clause-named
returns-in-Some-clause-named c =
    let first = c.capital-first.ensures in
    let second = c.capital-second.ensures in
    passes _ _ _ _ _ c.if-entry-first.true c.if-entry-second.true
    ∙ relative-looked-up _ _ _ _ _ _ first second c.place_of-place.ensures (omega arith)
    (sym (ap option_copied c.in-Some.is) ∙ c.entry_at.ensures)

pub returns-in_default-clause-named : goal.returns-in_default-clause-named
returns-in_default-clause-named c =
    let first = c.capital-first.ensures in
    let second = c.capital-second.ensures in
    elim c.in_default.branch [
      | in_default-via-in-Some+then-entry-first+else-entry-second w ↦
          fails-second _ _ _ _ _ w.if-entry-second.false
          ∙ relative-looked-up _ _ _ _ _ _ first second c.place_of-place.ensures (omega arith)
          (sym (ap option_copied w.in-Some.is) ∙ c.entry_at.ensures)
      | in_default-via-in-Some+else-entry-first w ↦
          fails-first _ _ _ _ _ w.if-entry-first.false
          ∙ relative-looked-up _ _ _ _ _ _ first second c.place_of-place.ensures (omega arith)
          (sym (ap option_copied w.in-Some.is) ∙ c.entry_at.ensures)
      | in_default-via-in_default w ↦
          relative-looked-up _ _ _ _ _ _ first second c.place_of-place.ensures (omega arith)
          (sym (ap option_copied w.in_default.is) ∙ c.entry_at.ensures)
    ]

pub returns-then-place-lt49-clause-values : goal.returns-then-place-lt49-clause-values
returns-then-place-lt49-clause-values c = relative-values

pub returns-in-Some-clause-values : goal.returns-in-Some-clause-values
returns-in-Some-clause-values c = relative-values

pub returns-in_default-clause-values : goal.returns-in_default-clause-values
returns-in_default-clause-values c = relative-values
