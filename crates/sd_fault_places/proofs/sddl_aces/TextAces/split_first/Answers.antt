use Rattle.sd_fault_places.proofs.Steps.{ace-shape, no-aces-from}
use Rattle.sd_fault_places.proofs.sddl_aces.TextAces.split_first.Goals as goal

pub returns-in_default-clause-value : goal.returns-in_default-clause-value
returns-in_default-clause-value c =
    no-aces-from c.args.self.number c.args.self.at c.args.self.text.now c.in_default.ensures.value

pub returns-clause-value : goal.returns-clause-value
returns-clause-value c = rw c.behind.ensures (ace-shape c.args.self.number c.args.self.at c.args.self.text.now
    c.in-Some.before c.in-Some.text.now c.in-Some.ensures.value)
