use Rattle.std.proofs.Common.{rules}
use Rattle.std.proofs.lemmas.Result.{err_from_is_err_and}
use Rattle.sd_answer.proofs.MeaningLemmas.{broken}
use Rattle.sd_answer.proofs.answer.put_answer.Goals as goal

pub returns-in_err-finish-clause-put : goal.returns-in_err-finish-clause-put
returns-in_err-finish-clause-put g c = λ line h.
    let fault = err_from_is_err_and c.from_residual.result c.from_residual.ensures.1 in
    rw fault.1 (broken fault.0 c.new-out.ensures.begins (search rules) c.in_err-finish.ensures
    (c.print_answer-faulty.ensures.printed line h))

pub returns-in-Convert-Hex-clause-put : goal.returns-in-Convert-Hex-clause-put
returns-in-Convert-Hex-clause-put g c = c.put_hex_answer.ensures c.args.token.now.holder
