use Rattle.sd_sink.proofs.laws.PrintLemmas.{prints_then}
use Rattle.sd_explain.proofs.acl.print_acl.Goals as goal

pub returns-in-Absent : goal.returns-in-Absent
returns-in-Absent g c = rw c.in-Absent.is (prints_then c.put.ensures c.put-in-Absent.ensures)

pub returns-in-Null : goal.returns-in-Null
returns-in-Null g c = rw c.in-Null.is (prints_then c.put-in-Null.ensures c.put-in-Null-2.ensures)

pub returns-in-List : goal.returns-in-List
returns-in-List g c =
    let count = rw c.count.ensures at c.print_count.ensures in
    rw c.in-List.is (prints_then count c.print_aces.ensures)
