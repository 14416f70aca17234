use Rattle.sd_sddl_reader.proofs.WholeParts.{behind-none, feeds-part}
use Rattle.sd_sddl_reader.proofs.reader.SddlReader.feed_other_sid.Goals as goal

pub returns-in-Some : goal.returns-in-Some
returns-in-Some c =
    feeds-part c.args.self.now c.take_whole.new.self c.note_head.new.self c.args.buf.now c.take_whole.new.buf
    c.in-Some.field.now c.in-Some.rest.now c.args.text.now c.args.part c.in-Some.head c.requires.here c.requires.fresh
    c.requires.reader (behind-none _ _ _ _ c.in-Some.ensures.found) c.take_whole.ensures c.note_head.ensures
