use Rattle.std.proofs.Common.{length, take}
use Rattle.sd_sddl_reader.proofs.Runs.{inside-goes, lost-goes, none-if, outside-goes}
use Rattle.sd_sddl_reader.proofs.reader.SddlReader.feed_run.Goals as goal

pub returns-in-Ace-clause-reader : goal.returns-in-Ace-clause-reader
returns-in-Ace-clause-reader c = λ buf r.
    rw (c.push_run.ensures)
    ((inside-goes c.args.self.now c.in-Ace.«field-0»
    (take c.plain_inside-count.result c.args.text.now) c.in-Ace.is c.plain_inside-count.ensures.plain buf r).0)

pub returns-in-Ace-clause-read : goal.returns-in-Ace-clause-read
returns-in-Ace-clause-read c = λ buf domain before r.
    rw (c.push_run.ensures)
    ((inside-goes c.args.self.now c.in-Ace.«field-0»
    (take c.plain_inside-count.result c.args.text.now) c.in-Ace.is c.plain_inside-count.ensures.plain buf r).1
    domain before)

pub returns-in-Sid-clause-reader : goal.returns-in-Sid-clause-reader
returns-in-Sid-clause-reader c = λ buf r.
    rw (c.push_run-in-Sid.ensures)
    ((outside-goes c.args.self.now (take c.plain_outside-count.result c.args.text.now) c.in-Sid.is
    (none-if _ _ c.if-is_none.true c.is_none.ensures) c.plain_outside-count.ensures.plain buf r).0)

pub returns-in-Sid-clause-read : goal.returns-in-Sid-clause-read
returns-in-Sid-clause-read c = λ buf domain before r.
    rw (c.push_run-in-Sid.ensures)
    ((outside-goes c.args.self.now (take c.plain_outside-count.result c.args.text.now) c.in-Sid.is
    (none-if _ _ c.if-is_none.true c.is_none.ensures) c.plain_outside-count.ensures.plain buf r).1 domain before)

pub returns-then-not-self-clause-read : goal.returns-then-not-self-clause-read
returns-then-not-self-clause-read c = λ buf domain before r.
    let text = c.args.text.now in
    lost-goes c.args.self.now (take (length text) text) buf domain before c.if-not-self.true
