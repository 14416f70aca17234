use Rattle.std.proofs.Common.{◌≡◌, ◌∙◌, length, drop, sym}
use Rattle.std.specs.Prelude.{nat_lt}
use Rattle.std.proofs.lemmas.List.{take_rest}
use Rattle.sd_sid.specs.SidText.{sid_front}
use Rattle.sd_sid.proofs.SidFronts.{letters-are}
use Rattle.sd_sid.proofs.sid_text.front_is_letters.Goals as goal

pub returns-clause-letters : goal.returns-clause-letters
returns-clause-letters c =
    let text = c.args.text.now in
    let more : c.begins_as_sid.result ≡ nat_lt 0 (length (sid_front (drop 2 text))) =
    rw (take_rest text 2) at c.begins_as_sid.ensures in
    letters-are text c.begins_as_sid.result c.if-text-lt2.false
    (sym c.is_ascii_alphabetic.ensures.value ∙ c.if-not-is_ascii_alphabetic.false)
    (sym c.is_ascii_alphabetic-else-not-is_ascii_alphabetic.ensures.value ∙ c.if-not-is_ascii_alphabetic-2.false) more
