use Rattle.std.proofs.Common.{◌≡◌, ◌<◌, ◌≤◌, ◌+◌, ◌||◌, true, false, length, refl, sym, ◌∙◌, arith, true≢false}
use Rattle.std.proofs.lemmas.Bool.Decides.{nat_tests}
use Rattle.std.proofs.lemmas.Bool.{or_parts}
use Rattle.std.proofs.lemmas.List.{length-take-le}
use Rattle.sd_sddl_fields.proofs.laws.HeldRuns.{run-more, run-spoilt, run-too-long}
use Rattle.sd_sddl_fields.proofs.field_text.FieldText.push_run.Goals.{then-self, else-self}
use Rattle.sd_sddl_fields.proofs.field_text.FieldText.push_run.Goals as goal

pub returns-then-self-2 : goal.returns-then-self-2
returns-then-self-2 c =
    let lost : (c.args.self.now.broken || c.args.self.now.gap) ≡ true = rw (← c.self.view_is) (elim c.if-self.branch [
      | then-self w ↦ rw (w.if-self.true) refl
      | else-self w ↦ rw (w.if-self.false) (sym w.value-is ∙ c.if-self-2.true)
    ]) in
    let some : 0 < length c.args.run.now = let n = c.if-is_empty.false in grind (arith, nat_tests) in
    c.spoil.ensures ∙ sym (run-spoilt c.args.self.now c.args.run.now lost some)

pub returns-then-self-run : goal.returns-then-self-run
returns-then-self-run c =
    let kept : (c.args.self.now.broken || c.args.self.now.gap) ≡ false = rw (← c.self.view_is) (elim c.if-self.branch [
      | then-self w ↦ absurd (true≢false (sym w.if-self.true ∙ sym w.value-is ∙ c.if-self-2.false))
      | else-self w ↦ rw (w.if-self.false) (sym w.value-is ∙ c.if-self-2.false)
    ]) in
    let n = or_parts _ _ kept in
    let size : length c.args.self.now.text ≡ c.self.inside.len =
    rw (← c.self.view_is) (length-take-le c.self.inside.len c.self.inside.bytes (rw c.self.told c.self.invariant)) in
    c.spoil-then-self-run.ensures
    ∙ sym (run-too-long c.args.self.now c.args.run.now n.0 n.1 (rw size c.self.invariant) (rw size (omega arith)))

pub returns-else-self-run : goal.returns-else-self-run
returns-else-self-run c =
    let kept : (c.args.self.now.broken || c.args.self.now.gap) ≡ false = rw (← c.self.view_is) (elim c.if-self.branch [
      | then-self w ↦ absurd (true≢false (sym w.if-self.true ∙ sym w.value-is ∙ c.if-self-2.false))
      | else-self w ↦ rw (w.if-self.false) (sym w.value-is ∙ c.if-self-2.false)
    ]) in
    let n = or_parts _ _ kept in
    let size : length c.args.self.now.text ≡ c.self.inside.len =
    rw (← c.self.view_is) (length-take-le c.self.inside.len c.self.inside.bytes (rw c.self.told c.self.invariant)) in
    let fits : length c.args.self.now.text + length c.args.run.now ≤ 183 = omega arith in
    c.append.ensures ∙ (rw (n.0, n.1) refl ∙ sym (run-more c.args.self.now c.args.run.now n.0 n.1 fits))
