use Rattle.std.proofs.Common.{ap, ◌∙◌, List}
use Rattle.std.proofs.lemmas.List.{take_all}
use Rattle.std.specs.List.{flat_map}
use Rattle.sd_ace.specs.AceLayout.{ace_bytes}
use Rattle.sd_sink.proofs.laws.PrintLemmas.{prints_as}
use Rattle.sd_sink.proofs.laws.PrintLoops.{Prints-next}
use Rattle.sd_call_build.specs.New.{shown_ace}
use Rattle.sd_call_build.specs.declared.new.NewAce.{NewAce}
use Rattle.sd_call_build.proofs.SizeLemmas.{bytes_of_shown}
use Rattle.sd_call_build.proofs.printing.print_aces.Goals as goal

pub loop-new-preserved : goal.loop-new-preserved
loop-new-preserved g c =
    let l = c.loop-new in
    Prints-next (λ (new : NewAce). ace_bytes (shown_ace new)) _ _ _ c.args.aces.now l.new-index _ c.loop-new-test.true
    l.invariant
    (prints_as (ap ace_bytes c.shown_ace.ensures) c.print_ace.ensures)

pub returns : goal.returns
returns g c =
    let all = take_all c.loop-new.new-index c.args.aces.now c.loop-new-test.false in
    prints_as (ap (λ (news : List NewAce). flat_map (λ (new : NewAce). ace_bytes (shown_ace new)) news) all
    ∙ bytes_of_shown c.args.aces.now) c.loop-new.invariant
