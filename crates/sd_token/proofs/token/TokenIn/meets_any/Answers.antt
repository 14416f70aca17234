use Rattle.std.proofs.Common.{rules}
use Rattle.sd_token.proofs.LookLemmas.{asks_once}
use Rattle.sd_token.proofs.token.TokenIn.meets_any.Goals as goal

pub returns-clause-asks : goal.returns-clause-asks
returns-clause-asks g c =
    asks_once c.args.self.now _ c.args.sid.now c.args.deny (search rules) (search rules) (search rules)
