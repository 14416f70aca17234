use Rattle.std.proofs.Common.{◌≡◌, ◌-◌, ◌+◌, suc, [], drop, take, ◌∙◌, sym, ap, arith}
use Rattle.std.specs.Prelude.{slice_index_or}
use Rattle.sd_sddl_builder.specs.Line.{ace_cuts}
use Rattle.sd_fault_places.specs.Inner.Cutting.{before_byte}
use Rattle.sd_fault_places.proofs.Cuttings.{first-cut}
use Rattle.sd_fault_places.proofs.Steps.{cut-on}
use Rattle.sd_fault_places.proofs.sddl_aces.cut_number.Goals as goal

pub loop-preserved : goal.loop-preserved
loop-preserved c =
    let left : c.args.number - c.loop.counter ≡ suc (c.args.number - (c.loop.counter + 1)) = omega arith in
    let next : c.behind-rest.result.now ≡ drop 1 (drop (before_byte 59 c.loop.rest.now) c.loop.rest.now) =
    cc (c.behind-rest.ensures, c.behind.ensures, c.before_byte.ensures.value) in
    c.loop.invariant ∙ ap (λ n. slice_index_or (ace_cuts c.loop.rest.now) n []) left
    ∙ cut-on c.loop.rest.now (c.args.number - (c.loop.counter + 1))
    ∙ sym (ap (λ t. slice_index_or (ace_cuts t) (c.args.number - (c.loop.counter + 1)) []) next)

pub returns : goal.returns
returns c =
    let none : c.args.number - c.loop.counter ≡ 0 = omega arith in
    let first : c.until.result.now ≡ take (before_byte 59 c.loop.rest.now) c.loop.rest.now =
    cc (c.until.ensures.value, c.before_byte-2.ensures.value) in
    first ∙ sym (first-cut c.loop.rest.now)
    ∙ sym (c.loop.invariant ∙ ap (λ n. slice_index_or (ace_cuts c.loop.rest.now) n []) none)
