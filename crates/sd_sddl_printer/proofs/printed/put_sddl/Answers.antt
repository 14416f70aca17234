use Rattle.std.proofs.Common.{sym, rules, ◌∙◌}
use Rattle.std.specs.Option.{option_copied}
use Rattle.sd_sink.proofs.laws.PrintLemmas.{printed}
use Rattle.sd_sddl_printer.proofs.BackLaws.{folded-sddl}
use Rattle.sd_sddl_builder.proofs.laws.FoldedMeaning.{folded-means}
use Rattle.sd_sddl_printer.proofs.laws.SizeLaws.{sddl-length}
use Rattle.sd_sid.specs.Naming.{naming_by}
use Rattle.sd_sddl_printer.proofs.printed.put_sddl.Goals as goal

pub returns-clause-put : goal.returns-clause-put
returns-clause-put g c = printed c.new-out.ensures.begins (search rules) c.finish.ensures c.print_sddl.ensures.printed

pub returns-clause-short : goal.returns-clause-short
returns-clause-short g c = λ any numbers.
    sddl-length (naming_by any numbers) c.args.view.now c.print_sddl.ensures.limits

pub returns-clause-back : goal.returns-clause-back
returns-clause-back g c =
    let naming = naming_by (option_copied c.args.domain) c.args.numeric in
    sym (folded-means _ _) ∙ folded-sddl naming c.args.view.now c.print_sddl.ensures.limits
