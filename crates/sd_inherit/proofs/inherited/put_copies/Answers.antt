use Rattle.std.proofs.Common.{is_err}
use Rattle.sd_inherit.specs.Inner.Building.{one_or_none, with_aces}
use Rattle.sd_inherit.proofs.BuildingLaws.{full_after, stays_open}
use Rattle.sd_inherit.proofs.inherited.put_copies.Goals as goal

pub put_copy-requires-2 : goal.put_copy-requires-2
put_copy-requires-2 c =
    let t = c.requires.0 in
    let first = one_or_none c.args.copies.now.first in (
      with_aces first t,
      c.in_ok-put_copy.ensures.ok t c.requires.1,
      stays_open t first c.requires.2 (c.in_ok-put_copy.ensures.full t c.requires.1 c.requires.2),
    )

pub returns-clause-full : goal.returns-clause-full
returns-clause-full c = λ t h o.
    let first = one_or_none c.args.copies.now.first in
    let second = one_or_none c.args.copies.now.second in
    full_after t first second (is_err c.put_copy-2.result) o
    (c.put_copy-2.ensures.full (with_aces first t) (c.in_ok-put_copy.ensures.ok t h)
    (stays_open t first o (c.in_ok-put_copy.ensures.full t h o)))
