use Rattle.std.proofs.Common.{[]}
use Rattle.sd_sddl_builder.proofs.laws.MeaningLimits.{meant-limits}
use Rattle.sd_sddl_reader.proofs.reader.read_sddl.Goals as goal

pub returns-clause-exact : goal.returns-clause-exact
returns-clause-exact c = c.end.ensures.exact _ _
    (c.feed_all.ensures.read _ [] (rw (c.copied.ensures) at c.new-reader.ensures.read))

pub returns-clause-written : goal.returns-clause-written
returns-clause-written c = c.end.ensures.written _ _
    (c.feed_all.ensures.read _ [] (rw (c.copied.ensures) at c.new-reader.ensures.read))

pub returns-clause-limits : goal.returns-clause-limits
returns-clause-limits c = meant-limits c.args.text.now _ c.note_limits.ensures
