use Rattle.std.proofs.Common.{sym, ◌∙◌}
use Rattle.std.proofs.lemmas.List.{take_rest}
use Rattle.sd_sddl_builder.proofs.NameTexts.{name-at}
use Rattle.sd_sddl_builder.proofs.name.front_name.Goals as goal

pub returns-clause-found : goal.returns-clause-found
returns-clause-found c = let text = c.args.text.now in
    rw (take_rest text 2)
    (name-at text c.in_ok-name.name.now c.if-text-lt2.false
    (sym c.is_ascii_alphabetic.ensures.value ∙ c.if-not-is_ascii_alphabetic.false)
    (sym c.is_ascii_alphabetic-else-not-is_ascii_alphabetic.ensures.value ∙ c.if-not-is_ascii_alphabetic-2.false)
    (sym c.in_ok-name.ensures.named))
