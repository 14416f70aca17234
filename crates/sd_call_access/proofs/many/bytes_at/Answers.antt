use Rattle.std.proofs.Common.{◌<◌, [], length, map, Ok, arith}
use Rattle.sd_call.specs.Columns.{numbers, rows}
use Rattle.sd_call_columns.proofs.laws.RowLaws.{row_is}
use Rattle.sd_call_access.proofs.ManyLemmas.{list_count, row_count_is, row_of}
use Rattle.sd_call_access.proofs.many.bytes_at.Goals as goal

pub bytes_in-requires : goal.bytes_in-requires
bytes_in-requires c =
    let list = c.in-List.list.now in
    let n = list_count list in
    let few : c.args.i < length (map row_of list) = rw c.in-List.is at c.requires in
    omega (arith, n, few)

pub row_at-requires : goal.row_at-requires
row_at-requires c =
    let column = c.in-Rows.column in
    let n = row_count_is column.data.now (numbers column.offsets) in
    let few : c.args.i < length (rows column.data.now (numbers column.offsets)) = rw c.in-Rows.is at c.requires in
    omega (arith, n, few)

pub returns-in-Rows : goal.returns-in-Rows
returns-in-Rows c =
    let column = c.in-Rows.column in
    let n = row_count_is column.data.now (numbers column.offsets) in
    let few : c.args.i < length (rows column.data.now (numbers column.offsets)) = rw c.in-Rows.is at c.requires in
    rw (c.in-Rows.is, row_is column.data.now (numbers column.offsets) c.args.i (Ok []) (omega (arith, n, few)))
    c.row_at.ensures

pub returns-in-List : goal.returns-in-List
returns-in-List c = rw c.in-List.is c.bytes_in.ensures
