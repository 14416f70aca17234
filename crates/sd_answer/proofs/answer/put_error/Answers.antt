use Rattle.std.proofs.Common.{rules}
use Rattle.std.proofs.lemmas.Result.{err_from_is_err_and}
use Rattle.sd_answer.proofs.MeaningLemmas.{broken}
use Rattle.sd_answer.proofs.answer.put_error.Goals as goal

pub returns-in_err-finish : goal.returns-in_err-finish
returns-in_err-finish g c =
    let fault = err_from_is_err_and c.from_residual.result c.from_residual.ensures.1 in
    rw fault.1 (broken fault.0 c.new-out.ensures.begins (search rules) c.in_err-finish.ensures
    c.print_error-error.ensures)
