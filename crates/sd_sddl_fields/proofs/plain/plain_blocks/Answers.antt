use Rattle.std.proofs.Common.{◌≡◌, ◌+◌, ◌-◌, arith, drop, refl, sym, ◌∙◌, take, true}
use Rattle.std.specs.List.{list_all}
use Rattle.std.proofs.Math.Seq.{take-add}
use Rattle.std.proofs.lemmas.List.Folds.{list_all-append}
use Rattle.std.proofs.lemmas.Bool.{and_parts}
use Rattle.std.specs.Prelude.{ℕ, List, [], ◌∷◌}
use Rattle.sd_sddl_fields.specs.Held.{is_plain_text}
use Rattle.sd_sddl_fields.specs.Inner.Blocks.{is_plain_late}
use Rattle.sd_sddl_fields.proofs.plain.plain_blocks.Goals as goal

late-plain : (bs : List ℕ) → list_all is_plain_late bs ≡ true → list_all is_plain_text bs ≡ true
late-plain [] all = refl
late-plain (b ∷ bs) all =
    let parts = and_parts (is_plain_late b) _ all in
    rw ((and_parts (is_plain_text b) _ parts.0).0, late-plain bs parts.1) refl

pub loop-count-preserved : goal.loop-count-preserved
loop-count-preserved c =
    let text = c.args.text.now in
    let count = c.loop-count.count in
    let size : count + 8 - count ≡ 8 = omega arith in
    let late : list_all is_plain_late (take 8 (drop count text)) ≡ true =
    rw size at (sym c.are_plain.ensures ∙ c.if-are_plain.true) in
    let block = late-plain (take 8 (drop count text)) late in
    record {
      within = omega (arith, c.loop-count-test.true);
      plain =
          rw (
            take-add count 8 text,
            list_all-append is_plain_text (take count text) (take 8 (drop count text)),
            c.loop-count.invariant.plain,
            block,
          ) refl;
    }

pub returns-else-are_plain-clause-ends : goal.returns-else-are_plain-clause-ends
returns-else-are_plain-clause-ends c =
    let size : c.loop-count.count + 8 - c.loop-count.count ≡ 8 = omega arith in
    λ h. rw size at (sym c.are_plain.ensures ∙ c.if-are_plain.false)

pub returns-after-loop-count-clause-ends : goal.returns-after-loop-count-clause-ends
returns-after-loop-count-clause-ends c = λ h. absurd (omega (arith, h, c.loop-count-test.false))
