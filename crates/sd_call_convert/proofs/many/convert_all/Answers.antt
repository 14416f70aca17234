use Rattle.std.proofs.Common.{inl, arith}
use Rattle.sd_call.specs.Columns.{numbers}
use Rattle.sd_call_convert.proofs.ManyLemmas.{answer_count, ends_told, front_told}
use Rattle.sd_call_convert.proofs.many.convert_all.Goals as goal

pub write_ends-requires-clause-room : goal.write_ends-requires-clause-room
write_ends-requires-clause-room g c =
    let w = c.args.work.now in
    let held = c.convert_rows-ending.ensures.held in
    let told = front_told _ _ _ _ _ _ _ held in
    let count = answer_count w.manner w.column.data.now (numbers w.column.offsets) c.requires.some in
    omega (arith, told.size, held.few, count, c.requires.offsets)

pub write_ends-requires-clause-reaches : goal.write_ends-requires-clause-reaches
write_ends-requires-clause-reaches g c =
    let held = c.convert_rows-ending.ensures.held in
    let told = front_told _ _ _ _ _ _ _ held in
    omega (arith, told.end, held.within, c.requires.reaches)

pub write_ends-requires-clause-fits : goal.write_ends-requires-clause-fits
write_ends-requires-clause-fits g c =
    let held = c.convert_rows-ending.ensures.held in
    let told = front_told _ _ _ _ _ _ _ held in
    omega (arith, told.end, held.within, c.requires.fits)

pub returns-in-Ok : goal.returns-in-Ok
returns-in-Ok g c =
    let ending = c.convert_rows-ending in
    inl (
      ending.result.count,
      record {
        holds = ending.ensures.held;
        offsets = ends_told _ _ _ _ _ _ _ _ _ ending.ensures.held c.write_ends.ensures.ends c.write_ends.ensures.rest;
        ending = ending.ensures.ending;
      },
    )
