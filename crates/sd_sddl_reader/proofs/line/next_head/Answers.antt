use Rattle.std.proofs.Common.{◌≡◌, ℕ, ◌+◌, ◌-◌, List, ◌∷◌, length, get_or, Some, None, sym, ap, ◌∙◌, arith}
use Rattle.std.proofs.Common.{length-append}
use Rattle.sd_sddl_builder.specs.Line.{head_of}
use Rattle.sd_sddl_builder.specs.declared.slot.Head.{Head}
use Rattle.sd_sddl_reader.specs.Inner.WholePart.{HeadAfter}
use Rattle.sd_sddl_reader.proofs.Ends.{byte-behind, head-at}
use Rattle.sd_sddl_reader.proofs.line.next_head.Goals as goal
use Rattle.sd_sddl_reader.proofs.line.next_head.Goals.{then-end-eq0-via-then-end-eq0}
use Rattle.sd_sddl_reader.proofs.line.next_head.Goals.{then-end-eq0-via-else-end-eq0+then-end-gt-MOST_FIELD_SIZE}
use Rattle.sd_sddl_reader.proofs.line.next_head.Goals.{
  then-end-eq0-via-else-end-eq0+else-end-gt-MOST_FIELD_SIZE+then-end-text,
  then-end-eq0-via-else-end-eq0+else-end-gt-MOST_FIELD_SIZE+else-end-text+then-text-end-ne58,
}

-- the bytes of a head, and how long the text is
around : (text field rest : List ℕ) (head : Head) (n : ℕ) (h : HeadAfter field head rest text) → n ≡ length field + 1
    → (get_or text (n - 1) 0 ≡ h.letter) × (get_or text n 0 ≡ 58) × (length text ≡ n + 1 + length rest)
around text field rest head n h place =
    let end = h.letter ∷ 58 ∷ rest in (
      ap (λ t. get_or t (n - 1) 0) h.stands ∙ byte-behind field end (n - 1) 0 (omega (arith, place)),
      ap (λ t. get_or t n 0) h.stands ∙ byte-behind field end n 1 (omega (arith, place)),
      ap length h.stands ∙ length-append field end ∙ omega (arith, place),
    )

pub returns-then-end-eq0-clause-only : goal.returns-then-end-eq0-clause-only
returns-then-end-eq0-clause-only c =
    λ field head rest none h.
    let text = c.args.text.now in
    let n = c.plain_front-end.result in
    let end = c.plain_front-end.ensures in
    let size = ap length h.stands ∙ length-append field (h.letter ∷ 58 ∷ rest) in
    let place =
    head-at text field rest h.letter n head h.stands h.whole.plain h.names end.within end.plain
    (λ k. end.ends (omega (arith, k, size)) (omega (arith, k, h.whole.fits))) in
    let near = around text field rest head n h place in
    elim c.then-end-eq0.branch [
      | then-end-eq0-via-then-end-eq0 w ↦ absurd (omega (arith, place, w.if-end-eq0.true))
      | then-end-eq0-via-else-end-eq0+then-end-gt-MOST_FIELD_SIZE w ↦
          omega (arith, place, h.whole.fits, w.if-end-gt-MOST_FIELD_SIZE.true)
      | then-end-eq0-via-else-end-eq0+else-end-gt-MOST_FIELD_SIZE+then-end-text w ↦
          absurd (omega (arith, near.2, w.if-end-text.true))
      | then-end-eq0-via-else-end-eq0+else-end-gt-MOST_FIELD_SIZE+else-end-text+then-text-end-ne58 w ↦
          absurd (w.if-text-end-ne58.true near.1)
    ]

pub returns-in_err-head-clause-only : goal.returns-in_err-head-clause-only
returns-in_err-head-clause-only c =
    λ field head rest none h.
    let text = c.args.text.now in
    let n = c.plain_front-end.result in
    let end = c.plain_front-end.ensures in
    let size = ap length h.stands ∙ length-append field (h.letter ∷ 58 ∷ rest) in
    let place =
    head-at text field rest h.letter n head h.stands h.whole.plain h.names end.within end.plain
    (λ k. end.ends (omega (arith, k, size)) (omega (arith, k, h.whole.fits))) in
    let near = around text field rest head n h place in
    let no : head_of (get_or text (n - 1) 0) ≡ None = sym c.in_err-head.ensures in
    let other : Some head ≡ None = sym h.names ∙ (ap head_of (sym near.0) ∙ no) in
    absurd cc
