use Rattle.std.proofs.Common.{rules}
use Rattle.sd_sink.proofs.laws.PrintLemmas.{printed}
use Rattle.sd_faults.proofs.laws.FaultTexts.{fault_text-short}
use Rattle.sd_faults.proofs.line_fault.put_fault.Goals as goal

pub returns-clause-put : goal.returns-clause-put
returns-clause-put g c = printed c.new-out.ensures.begins (search rules) c.finish.ensures c.print_fault.ensures

pub returns-clause-short : goal.returns-clause-short
returns-clause-short g c = fault_text-short c.args.fault.now
