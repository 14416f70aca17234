use Rattle.sd_sid.specs.SidText.{known_sid}
use Rattle.sd_sddl_reader.proofs.WholeParts.{feeds-sid}
use Rattle.sd_sddl_reader.proofs.reader.SddlReader.put_named.Goals as goal

pub returns : goal.returns
returns c =
    feeds-sid c.args.self.now c.put_sid.new.self c.note_head.new.self c.args.buf.now c.put_sid.new.buf
    c.in_ok-name.rest.now c.args.text.now c.args.part c.in_ok-name.head (known_sid c.in_ok-name.name.now)
    c.requires.here c.requires.fresh c.requires.reader c.in_ok-name.ensures.found
    c.put_sid.ensures.held c.put_sid.ensures.domain c.note_head.ensures
