use Rattle.std.proofs.lemmas.List.{map-id}
use Rattle.sd_call_convert.specs.Many.{asked, most_small}
use Rattle.sd_call_convert.proofs.ManyLemmas.{front_converted}
use Rattle.sd_call_convert.proofs.many.convert_many.Goals as goal

pub returns : goal.returns
returns c =
    let new = c.convert_column.new in
    front_converted (asked c.args.conversion.now) most_small c.min-size.result c.args.out.now new.out
    c.args.out_offsets.now new.out_offsets c.args.outcomes.now new.outcomes c.convert_column.result c.min-size.ensures
    c.convert_column.auto.out
    (rw (← c.front_of.ensures, ← (map-id c.args.out_offsets.now), ← (map-id new.out_offsets)) c.convert_column.ensures)
