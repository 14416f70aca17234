use Rattle.std.proofs.Common.{map}
use Rattle.std.proofs.lemmas.List.{length-map}
use Rattle.sd_call_convert.specs.Inner.Column.{asked_any}
use Rattle.sd_call_convert.specs.Many.{lent}
use Rattle.sd_call_convert.proofs.ManyLemmas.{all_converted, manner_is, none_converted}
use Rattle.sd_call_convert.proofs.many.convert_column.Goals as goal

pub returns-in-Ok : goal.returns-in-Ok
returns-in-Ok g c =
    let a = c.args in
    let v = a.conversion.now in
    let number = g.T.Offset.number in
    let old = lent a.out.now (map number a.out_offsets.now) a.outcomes.now in
    all_converted (asked_any v) old
    (lent c.convert_all.new.out (map number c.convert_all.new.out_offsets) c.convert_all.new.outcomes)
    c.convert_all.result c.in-Ok.manner
    (manner_is (asked_any v) old _ _ _ _ c.offset_count-count.ensures (length-map a.out_offsets.now number)
    c.has_room-enough.ensures c.in-Ok.ensures.exact)
    c.in-Ok.ensures.domain
    c.convert_all.ensures

pub returns-in-Err : goal.returns-in-Err
returns-in-Err g c =
    let a = c.args in
    let v = a.conversion.now in
    let number = g.T.Offset.number in
    let old = lent a.out.now (map number a.out_offsets.now) a.outcomes.now in
    none_converted (asked_any v) old c.failed.result c.in-Err.fault
    (manner_is (asked_any v) old _ _ _ _ c.offset_count-count.ensures (length-map a.out_offsets.now number)
    c.has_room-enough.ensures c.in-Err.ensures.exact)
    c.failed.ensures
