use Rattle.sd_call_access.proofs.CountLemmas.{few_refused}
use Rattle.sd_call_access.proofs.origins.write_origins.Goals as goal

pub returns-in-Err-clause-most : goal.returns-in-Err-clause-most
returns-in-Err-clause-most c =
    rw c.refused.ensures (few_refused _ _ _ _ _ c.in-Err.fault c.in-Err.ensures.answer)
