use Rattle.std.proofs.Common.{rules}
use Rattle.sd_sink.proofs.laws.PrintLemmas.{printed}
use Rattle.sd_ace.proofs.guid.put_guid.Goals as goal

pub returns-clause-put : goal.returns-clause-put
returns-clause-put g c = printed c.new-out.ensures.begins (search rules) c.finish.ensures c.print_guid.ensures.put
