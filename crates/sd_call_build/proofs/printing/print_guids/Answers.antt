use Rattle.std.proofs.Common.{true, ◌≡◌, ap}
use Rattle.sd_kinds.specs.Kinds.{is_object}
use Rattle.sd_ace.specs.AceLayout.{guid_part}
use Rattle.sd_sink.proofs.laws.PrintLemmas.{prints_as, prints_then}
use Rattle.sd_call_build.proofs.printing.print_guids.Goals as goal

pub returns-then-is_object : goal.returns-then-is_object
returns-then-is_object g c =
    let object : is_object c.args.ace.now.kind ≡ true = cc in
    rw object (prints_then (prints_as (ap guid_part c.object.ensures) c.print_guid.ensures)
    (prints_as (ap guid_part c.inherited.ensures) c.print_guid-then-is_object.ensures))
