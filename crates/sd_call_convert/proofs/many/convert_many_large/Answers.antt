use Rattle.std.proofs.lemmas.List.{map-id}
use Rattle.sd_call_convert.proofs.many.convert_many_large.Goals as goal

pub returns : goal.returns
returns c =
    rw (← (map-id c.args.out_offsets.now), ← (map-id c.convert_column.new.out_offsets)) c.convert_column.ensures
