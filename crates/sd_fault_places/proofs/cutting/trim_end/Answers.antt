use Rattle.std.proofs.Common.{◌∙◌, sym, ap}
use Rattle.sd_sddl_builder.specs.Line.{trim_end}
use Rattle.sd_fault_places.proofs.Trims.{end-blank, end-other}
use Rattle.sd_fault_places.proofs.cutting.trim_end.Goals as goal

pub returns-then-not-is_blank : goal.returns-then-not-is_blank
returns-then-not-is_blank c =
    let last = c.in-Some.ensures.cases.0 in
    let same = end-other c.in-Some.front.now c.in-Some.byte.now (sym c.is_blank.ensures ∙ c.if-not-is_blank.true) in
    last ∙ sym same ∙ sym (ap trim_end last) ∙ c.loop-byte.invariant

pub loop-byte-preserved : goal.loop-byte-preserved
loop-byte-preserved c =
    let last = c.in-Some.ensures.cases.0 in
    let same = end-blank c.in-Some.front.now c.in-Some.byte.now (sym c.is_blank.ensures ∙ c.if-not-is_blank.false) in
    sym same ∙ sym (ap trim_end last) ∙ c.loop-byte.invariant
