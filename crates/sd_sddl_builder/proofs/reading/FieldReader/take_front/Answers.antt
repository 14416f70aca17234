use Rattle.std.proofs.Common.{◌≡◌, sym, ◌∙◌, false}
use Rattle.std.specs.Prelude.{◌&&◌}
use Rattle.std.proofs.lemmas.Bool.{and_left, and_right}
use Rattle.sd_sddl_builder.proofs.FieldLaws.{front-taken}
use Rattle.sd_sddl_builder.proofs.reading.FieldReader.take_front.Goals as goal
use Rattle.sd_sddl_builder.proofs.reading.FieldReader.take_front.Goals.{else-front-via-then-front+else-has_aces}
use Rattle.sd_sddl_builder.proofs.reading.FieldReader.take_front.Goals.{else-front-via-else-front}

pub returns-clause-read : goal.returns-clause-read
returns-clause-read c = λ t h.
    let f = c.in-Some.front in
    let may : (f.null && c.args.has_aces) ≡ false = elim c.else-front.branch [
      | else-front-via-then-front+else-has_aces w ↦ and_right f.null c.args.has_aces w.if-has_aces.false
      | else-front-via-else-front w ↦ and_left f.null c.args.has_aces w.if-front.false
    ] in (
      _,
      c.put_front.ensures.held t h,
      front-taken c.args.which c.args.has_aces t f _ (sym c.front_from_text.ensures ∙ c.in-Some.is) may,
    )
