use Rattle.std.proofs.Common.{rules}
use Rattle.sd_sink.proofs.laws.PrintLemmas.{printed}
use Rattle.sd_sid.specs.Naming.{naming_by}
use Rattle.sd_explain.proofs.laws.SizeLaws.{explain-length}
use Rattle.sd_explain.proofs.explain.put_explain.Goals as goal

pub returns-clause-put : goal.returns-clause-put
returns-clause-put g c =
    printed c.new-out.ensures.begins (search rules) c.finish.ensures c.print_explain.ensures.printed

pub returns-clause-short : goal.returns-clause-short
returns-clause-short g c = λ any numbers.
    explain-length (naming_by any numbers) c.args.view.now c.print_explain.ensures.limits
