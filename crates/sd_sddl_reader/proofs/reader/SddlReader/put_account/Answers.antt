use Rattle.sd_sid.specs.Account.{account_sid}
use Rattle.sd_sddl_reader.proofs.WholeParts.{feeds-sid}
use Rattle.sd_sddl_reader.proofs.reader.SddlReader.put_account.Goals as goal

pub returns : goal.returns
returns c =
    feeds-sid c.args.self.now c.put_sid.new.self c.note_head.new.self c.args.buf.now c.put_sid.new.buf
    c.in_ok-account.rest.now c.args.text.now c.args.part c.in_ok-account.head (account_sid c.in_ok-account.account)
    c.requires.here c.requires.fresh c.requires.reader c.in_ok-account.ensures
    c.put_sid.ensures.held c.put_sid.ensures.domain c.note_head.ensures
