use Rattle.std.proofs.Common.{◌+◌, ap, refl, sym}
use Rattle.std.specs.List.{flat_map}
use Rattle.sd_sink.proofs.laws.PrintLemmas.{prints_as}
use Rattle.sd_sink.proofs.laws.PrintLoops.{Prints-item}
use Rattle.sd_sid.specs.Sid.{words}
use Rattle.sd_sid.specs.SidText.{sub_text}
use Rattle.sd_sid.proofs.laws.SidLaws.{words-more}
use Rattle.sd_sid_view.proofs.sid_view.print_subs.Goals as goal

pub loop-i-preserved : goal.loop-i-preserved
loop-i-preserved g c =
    let bytes = c.args.bytes.now in
    let i = c.loop-i.i in
    prints_as (ap (flat_map sub_text) (sym (words-more i (i + 1) bytes refl)))
    (Prints-item sub_text _ _ _ (words i bytes) _ c.loop-i.invariant
    (rw c.word_at.ensures at c.print_decimal_behind.ensures))
