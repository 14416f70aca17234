use Rattle.sd_sid.proofs.laws.TextLaws.{length-sid_text, sid_text-bytes, sid_text-reads}
use Rattle.sd_sid.proofs.sid.Sid.put_text.Goals as goal

pub returns-clause-back : goal.returns-clause-back
returns-clause-back g c = sid_text-reads c.args.self.now c.print_text.ensures.limits

pub returns-clause-plain : goal.returns-clause-plain
returns-clause-plain g c = sid_text-bytes c.args.self.now c.print_text.ensures.limits

pub returns-clause-short : goal.returns-clause-short
returns-clause-short g c = length-sid_text c.args.self.now c.print_text.ensures.limits
