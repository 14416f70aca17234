use Rattle.std.proofs.Common.{◌≡◌, ◌≤◌, take, false, get_or, arith, ap, ◌∙◌, sym, length-take-le, take-take}
use Rattle.std.proofs.Common.{get_or-take}
use Rattle.sd_sddl_fields.specs.Held.{is_plain_text}
use Rattle.sd_sddl_reader.proofs.line.plain_front.Goals as goal

pub returns-then-text-gt-MOST_FIELD_SIZE-clause-within : goal.returns-then-text-gt-MOST_FIELD_SIZE-clause-within
returns-then-text-gt-MOST_FIELD_SIZE-clause-within c =
    let text = c.args.text.now in
    let size = length-take-le 184 text c.if-text-gt-MOST_FIELD_SIZE.true in
    omega (arith, size, c.plain_text.ensures.within, c.if-text-gt-MOST_FIELD_SIZE.true)

pub returns-then-text-gt-MOST_FIELD_SIZE-clause-plain : goal.returns-then-text-gt-MOST_FIELD_SIZE-clause-plain
returns-then-text-gt-MOST_FIELD_SIZE-clause-plain c =
    let text = c.args.text.now in
    let n = c.plain_text.result in
    let size = length-take-le 184 text c.if-text-gt-MOST_FIELD_SIZE.true in
    let fits : n ≤ 184 = omega (arith, size, c.plain_text.ensures.within) in
    rw (take-take n 184 text fits) at c.plain_text.ensures.plain

pub returns-then-text-gt-MOST_FIELD_SIZE-clause-ends : goal.returns-then-text-gt-MOST_FIELD_SIZE-clause-ends
returns-then-text-gt-MOST_FIELD_SIZE-clause-ends c = λ behind field.
    let text = c.args.text.now in
    let n = c.plain_text.result in
    let size = length-take-le 184 text c.if-text-gt-MOST_FIELD_SIZE.true in
    let other : is_plain_text (get_or (take 184 text) n 0) ≡ false =
    c.plain_text.ensures.ends (omega (arith, size, field)) in
    ap is_plain_text (sym (get_or-take 184 text n 0 (omega (arith, field)))) ∙ other
