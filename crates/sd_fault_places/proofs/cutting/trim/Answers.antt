use Rattle.std.proofs.Common.{◌≡◌, ◌<◌, length, ◌∙◌, sym, ap, arith}
use Rattle.std.proofs.lemmas.Bool.Decides.{nat_tests}
use Rattle.sd_sddl_builder.specs.Line.{trim_end}
use Rattle.sd_fault_places.specs.Inner.Cutting.{trim_start}
use Rattle.sd_fault_places.proofs.Trims.{none-before, some-before, start-empty, trimmed}
use Rattle.sd_fault_places.proofs.cutting.trim.Goals as goal

pub returns-then-is_empty-clause-offset : goal.returns-then-is_empty-clause-offset
returns-then-is_empty-clause-offset c =
    let same = c.trim_start-rest.ensures.value in
    let none : length (trim_start c.args.text.now) ≡ 0 =
    grind (arith, nat_tests, ap length same, c.is_empty.ensures, c.if-is_empty.true) in
    sym (none-before c.args.text.now none)

pub returns-then-is_empty-clause-text : goal.returns-then-is_empty-clause-text
returns-then-is_empty-clause-text c =
    let same = c.trim_start-rest.ensures.value in
    let none : length (trim_start c.args.text.now) ≡ 0 =
    grind (arith, nat_tests, ap length same, c.is_empty.ensures, c.if-is_empty.true) in
    same ∙ start-empty (trim_start c.args.text.now) none ∙ sym (trimmed c.args.text.now)

pub returns-clause-offset : goal.returns-clause-offset
returns-clause-offset c =
    let same = ap length c.trim_start-rest.ensures.value in
    let some : 0 < length (trim_start c.args.text.now) =
    grind (arith, nat_tests, same, c.is_empty.ensures, c.if-is_empty.false) in
    let sum = some-before c.args.text.now some in
    omega (arith, same, sum)

pub returns-clause-text : goal.returns-clause-text
returns-clause-text c =
    c.trim_end.ensures ∙ ap trim_end c.trim_start-rest.ensures.value ∙ sym (trimmed c.args.text.now)
