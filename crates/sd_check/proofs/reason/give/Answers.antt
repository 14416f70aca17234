use Rattle.std.proofs.Common.{◌≡◌, ◌<◌, ◌-◌, ◌*◌, ◌^◌, ◌%◌, ℕ, true, arith, bit_and, sym, ◌∙◌, length-set}
use Rattle.std.specs.Int.Count.{count_trailing_zeros}
use Rattle.std.proofs.lemmas.Bool.{and_parts}
use Rattle.sd_rights.specs.Mapping.{carries}
use Rattle.sd_check.proofs.ReasonLaws.{carries-without, given_all, given_step, lowest-carried, lowest-within, one_right}
use Rattle.sd_check.proofs.ReasonLaws.{without-less}
use Rattle.sd_check.proofs.reason.give.Goals as goal
use Rattle.sd_check.proofs.reason.give.Goals.{In-loop-left}

abbrev place : In-loop-left → ℕ
place c = count_trailing_zeros 32 c.loop-left.left

within : (c : In-loop-left) → place c < 25
within c = lowest-within c.loop-left.left (omega (arith, c.loop-left-test.true)) c.loop-left.invariant.limit

carried : (c : In-loop-left) → carries c.loop-left.left (place c) ≡ true
carried c = lowest-carried c.loop-left.left (omega (arith, c.loop-left-test.true)) c.loop-left.invariant.limit

less : (c : In-loop-left) → bit_and c.loop-left.left (4294967295 - 1 * 2 ^ place c % 4294967296) < c.loop-left.left
less c = rw (one_right (place c) (within c))
    (without-less c.loop-left.left (place c) c.loop-left.invariant.limit (within c) (carried c))

pub bounds-reasons-right : goal.bounds-reasons-right
bounds-reasons-right c = within (goal.at.bounds-reasons-right c).In-loop-left

pub loop-left-smaller : goal.loop-left-smaller
loop-left-smaller c = less (goal.at.loop-left-smaller c).In-loop-left

pub loop-left-preserved : goal.loop-left-preserved
loop-left-preserved c =
    let l = (goal.at.loop-left-preserved c).In-loop-left in
    let limit = c.loop-left.invariant.limit in
    let fewer = less l in
    record {
      size = length-set c.loop-left.reasons (place l) c.args.reason ∙ c.loop-left.invariant.size;
      limit = omega (arith, fewer, limit);
      within = rw (one_right (place l) (within l)) (λ (right : ℕ) h. c.loop-left.invariant.within right
          (and_parts (carries c.loop-left.left right) _
          (sym (carries-without c.loop-left.left (place l) right limit (within l)) ∙ h)).0);
      given = rw (one_right (place l) (within l)) (given_step c.args.reasons.now c.loop-left.reasons c.args.rights
          c.loop-left.left (place l) c.args.reason c.loop-left.invariant.size limit (within l)
          (c.loop-left.invariant.within (place l) (carried l)) c.loop-left.invariant.given);
    }

pub returns : goal.returns
returns c = given_all _ _ _ _ _ c.loop-left-test.false c.loop-left.invariant.given
