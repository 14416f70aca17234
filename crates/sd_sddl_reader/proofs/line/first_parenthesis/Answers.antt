use Rattle.std.proofs.Common.{◌≡◌, ◌+◌, ◌∷◌, length, get_or, refl, ap, ◌∙◌, arith, length-append}
use Rattle.sd_sddl_fields.specs.Held.{is_plain_text}
use Rattle.sd_sddl_reader.proofs.Ends.{byte-behind, run-at}
use Rattle.sd_sddl_reader.proofs.line.first_parenthesis.Goals as goal
use Rattle.sd_sddl_reader.proofs.line.first_parenthesis.Goals.{
  then-end-gt-MOST_FIELD_SIZE-via-then-end-gt-MOST_FIELD_SIZE,
  then-end-gt-MOST_FIELD_SIZE-via-else-end-gt-MOST_FIELD_SIZE+then-end-text,
  then-end-gt-MOST_FIELD_SIZE-via-else-end-gt-MOST_FIELD_SIZE+else-end-text+then-text-end-ne40,
}

pub returns-then-end-gt-MOST_FIELD_SIZE-clause-only : goal.returns-then-end-gt-MOST_FIELD_SIZE-clause-only
returns-then-end-gt-MOST_FIELD_SIZE-clause-only c =
    λ field rest none whole stands.
    let text = c.args.text.now in
    let n = c.plain_front-end.result in
    let end = c.plain_front-end.ensures in
    let size : length text ≡ length field + length (40 ∷ rest) = ap length stands ∙ length-append field (40 ∷ rest) in
    let place =
    run-at is_plain_text text field rest 40 n stands whole.plain refl end.within end.plain
    (λ h. end.ends (omega (arith, h, size)) (omega (arith, h, whole.fits))) in
    let byte : get_or text n 0 ≡ 40 =
    ap (λ t. get_or t n 0) stands ∙ byte-behind field (40 ∷ rest) n 0 (omega (arith, place)) in
    elim c.then-end-gt-MOST_FIELD_SIZE.branch [
      | then-end-gt-MOST_FIELD_SIZE-via-then-end-gt-MOST_FIELD_SIZE w ↦
          omega (arith, place, whole.fits, w.if-end-gt-MOST_FIELD_SIZE.true)
      | then-end-gt-MOST_FIELD_SIZE-via-else-end-gt-MOST_FIELD_SIZE+then-end-text w ↦
          omega (arith, place, size, w.if-end-text.true)
      | then-end-gt-MOST_FIELD_SIZE-via-else-end-gt-MOST_FIELD_SIZE+else-end-text+then-text-end-ne40 w ↦
          w.if-text-end-ne40.true byte
    ]
