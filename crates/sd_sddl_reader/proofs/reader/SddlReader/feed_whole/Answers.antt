use Rattle.sd_sddl_reader.proofs.WholeFields.{feeds-on}
use Rattle.sd_sddl_reader.proofs.reader.SddlReader.feed_whole.Goals as goal

pub returns : goal.returns
returns c =
    let text = c.args.text.now in
    let first = feeds-on c.args.self.now c.whole_head-rest.new.self c.whole_sids-rest.new.self c.args.buf.now
    c.whole_head-rest.new.buf c.whole_sids-rest.new.buf text c.whole_head-rest.result.now c.whole_sids-rest.result.now
    c.whole_head-rest.ensures c.whole_sids-rest.ensures in
    let second = feeds-on c.args.self.now c.whole_sids-rest.new.self c.whole_flags-rest.new.self c.args.buf.now
    c.whole_sids-rest.new.buf c.whole_flags-rest.new.buf text c.whole_sids-rest.result.now
    c.whole_flags-rest.result.now first c.whole_flags-rest.ensures in
    feeds-on c.args.self.now c.whole_flags-rest.new.self c.whole_aces.new.self c.args.buf.now c.whole_flags-rest.new.buf
    c.whole_aces.new.buf text c.whole_flags-rest.result.now c.whole_aces.result.now second c.whole_aces.ensures
