use Rattle.sd_inherit.proofs.DerivedLaws.{fault-dacl, fault-none, fault-sacl}
use Rattle.sd_inherit.proofs.OriginFacts.{counts_are}
use Rattle.sd_inherit.proofs.origin_cells.count_aces.Goals as goal

pub returns-in_default-clause-fault : goal.returns-in_default-clause-fault
returns-in_default-clause-fault c =
    fault-sacl _ _ _ (rw c.sources.ensures.gathered at c.in_default.ensures.full)

pub returns-in_default-count-clause-fault : goal.returns-in_default-count-clause-fault
returns-in_default-count-clause-fault c =
    fault-dacl _ _ _
    (rw c.sources.ensures.gathered at c.in-Ok.ensures.full)
    (rw c.sources-2.ensures.gathered at c.in_default-count.ensures.full)

pub returns-clause-fault : goal.returns-clause-fault
returns-clause-fault c =
    fault-none _ _ _
    (rw c.sources.ensures.gathered at c.in-Ok.ensures.full)
    (rw c.sources-2.ensures.gathered at c.in-Ok-count.ensures.full)

pub returns-clause-counts : goal.returns-clause-counts
returns-clause-counts c =
    counts_are _ _ _ _ _
    (rw c.sources.ensures.gathered at c.in-Ok.ensures.count)
    (rw c.sources-2.ensures.gathered at c.in-Ok-count.ensures.count)
