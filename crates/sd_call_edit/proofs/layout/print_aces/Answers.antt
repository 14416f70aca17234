use Rattle.std.proofs.Common.{ap, List}
use Rattle.std.proofs.lemmas.List.{take_all}
use Rattle.std.specs.List.{flat_map}
use Rattle.sd_ace.specs.Ace.{AccessControlEntry}
use Rattle.sd_ace.specs.AceLayout.{ace_bytes}
use Rattle.sd_sink.proofs.laws.PrintLemmas.{prints_as}
use Rattle.sd_sink.proofs.laws.PrintLoops.{Prints-next}
use Rattle.sd_call_edit.proofs.layout.print_aces.Goals as goal

pub loop-ace-preserved : goal.loop-ace-preserved
loop-ace-preserved g c =
    let l = c.loop-ace in
    Prints-next ace_bytes _ _ _ c.args.aces.now l.ace-index c.ace-item.result c.loop-ace-test.true l.invariant
    (prints_as (ap ace_bytes c.ace-item.is) c.print_ace.ensures)

pub returns : goal.returns
returns g c =
    let all = take_all c.loop-ace.ace-index c.args.aces.now c.loop-ace-test.false in
    prints_as (ap (λ (aces : List AccessControlEntry). flat_map ace_bytes aces) all) c.loop-ace.invariant
