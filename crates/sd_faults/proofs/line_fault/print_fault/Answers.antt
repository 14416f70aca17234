use Rattle.std.proofs.Common.{◌≡◌, ap}
use Rattle.std.specs.Fmt.{decimal}
use Rattle.sd_sink.proofs.laws.PrintLemmas.{prints_as, prints_then}
use Rattle.sd_faults.proofs.line_fault.print_fault.Goals as goal
use Rattle.sd_faults.specs.Faults.{fault_text, name, named_parts, part_text}

pub returns : goal.returns
unfolding fault_text
returns g c =
    let word : c.as_bytes.result.now ≡ name c.args.fault.now = cc in
    let first : c.as_bytes-2.result.now ≡ part_text (named_parts c.args.fault.now).0 = cc in
    let second : c.as_bytes-3.result.now ≡ part_text (named_parts c.args.fault.now).1 = cc in
    prints_then
    (prints_then
    (prints_then
    (prints_then c.put.ensures (prints_as (ap decimal c.number-number.ensures) c.print_decimal.ensures))
    c.put-2.ensures)
    (prints_as word c.put-3.ensures))
    (prints_then (prints_as first c.put-4.ensures) (prints_as second c.put-5.ensures))
