use Rattle.std.proofs.Common.{◌-◌, ◌+◌, sym, ap, ◌∙◌, arith}
use Rattle.sd_fault_places.specs.Places.{sound_aces}
use Rattle.sd_fault_places.proofs.FaultyAces.{behind_sound, sound-more}
use Rattle.sd_fault_places.proofs.binary_aces.first_faulty.Goals as goal

pub loop-number-preserved : goal.loop-number-preserved
loop-number-preserved c =
    let n = c.args.count - (c.loop-number.number + 1) in
    let m = c.args.count - c.loop-number.number in
    let more = sound-more n m c.loop-number.left.now (omega arith) c.in-Ok.ensures.fault in
    let rest = c.in-Ok.ensures.rest in
    let numbers = ap (sound_aces n) rest in
    record {
      number = omega (arith, c.loop-number.invariant.number, more.0, numbers);
      left = c.loop-number.invariant.left ∙ more.1 ∙ sym (ap (behind_sound n) rest);
    }
