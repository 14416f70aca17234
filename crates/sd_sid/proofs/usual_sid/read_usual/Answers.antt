use Rattle.std.proofs.Common.{ap, arith, drop, length, sym, ◌≡◌, ◌∙◌}
use Rattle.std.proofs.lemmas.List.{take_rest}
use Rattle.sd_sid.specs.SidText.{numbers_read, cut_at_dashes, sid_front}
use Rattle.sd_sid.proofs.SidFronts.{s1-behind, s1-form, s1-size}
use Rattle.sd_sid.proofs.usual_sid.read_usual.Goals as goal

pub returns-clause-size : goal.returns-clause-size
returns-clause-size c =
    let text = c.args.text.now in
    let front = sym c.begins_with_s1.ensures.value ∙ c.if-not-begins_with_s1.false in
    let long = c.begins_with_s1.ensures.long c.if-not-begins_with_s1.false in
    let size : c.in_ok-size.size ≡ length (sid_front (drop 4 text)) =
    rw (take_rest text 4) at c.in_ok-size.ensures.size in
    omega (arith, size, s1-size text front long)

pub returns-clause-form : goal.returns-clause-form
returns-clause-form c =
    let text = c.args.text.now in
    let front = sym c.begins_with_s1.ensures.value ∙ c.if-not-begins_with_s1.false in
    let long = c.begins_with_s1.ensures.long c.if-not-begins_with_s1.false in
    let size : c.in_ok-size.size ≡ length (sid_front (drop 4 text)) =
    rw (take_rest text 4) at c.in_ok-size.ensures.size in
    s1-form text front long (omega (arith, size, c.if-size.false)) (rw (take_rest text 4) at c.in_ok-size.ensures.form)

pub returns-clause-numbers : goal.returns-clause-numbers
returns-clause-numbers c =
    let text = c.args.text.now in
    let front = sym c.begins_with_s1.ensures.value ∙ c.if-not-begins_with_s1.false in
    let long = c.begins_with_s1.ensures.long c.if-not-begins_with_s1.false in
    ap (λ t. numbers_read (cut_at_dashes t)) (s1-behind text front long)
    ∙ (rw (take_rest text 4) at c.in_ok-size.ensures.numbers)
