use Rattle.sd_sddl_reader.proofs.WholeFields.{feeds-on}
use Rattle.sd_sddl_reader.proofs.reader.SddlReader.whole_sids.Goals as goal

pub returns-then-rest-text : goal.returns-then-rest-text
returns-then-rest-text c =
    feeds-on c.args.self.now c.whole_sid-rest.new.self c.whole_sid.new.self c.args.buf.now c.whole_sid-rest.new.buf
    c.whole_sid.new.buf c.args.text.now c.whole_sid-rest.result.now c.whole_sid.result.now c.whole_sid-rest.ensures
    c.whole_sid.ensures
