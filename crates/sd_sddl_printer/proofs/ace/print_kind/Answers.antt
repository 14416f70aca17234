use Rattle.std.proofs.Common.{◌≡◌, ◌≤◌, ℕ, List, [], ◌∷◌, ◌++◌, length, slice_index, codes, refl, ap, ◌∙◌, arith}
use Rattle.sd_sink.proofs.laws.PrintLemmas.{prints_as}
use Rattle.sd_sddl_printer.specs.Printed.{kind_field}
use Rattle.sd_sddl_printer.proofs.ace.print_kind.Goals as goal

abbrev field : List ℕ → List ℕ
field text = codes "(" ++ text ++ codes ";"

one : (text : List ℕ) → length text ≡ 1 → 40 ∷ slice_index text 0 ∷ 59 ∷ [] ≡ field text
one [] e = absurd (omega arith)
one (a ∷ []) e = refl
one (a ∷ b ∷ rest) e = absurd (omega arith)

two : (text : List ℕ) → (length text ≡ 1 → ⊥) → 1 ≤ length text → length text ≤ 2
    → 40 ∷ slice_index text 0 ∷ slice_index text 1 ∷ 59 ∷ [] ≡ field text
two [] other some few = absurd (omega arith)
two (a ∷ []) other some few = absurd (other refl)
two (a ∷ b ∷ []) other some few = refl
two (a ∷ b ∷ c ∷ rest) other some few = absurd (omega arith)

pub returns-then-letters-eq1 : goal.returns-then-letters-eq1
unfolding kind_field
returns-then-letters-eq1 g c = prints_as (one _ c.if-letters-eq1.true ∙ ap field c.letters-letters.ensures.value)
    c.put.ensures

pub returns : goal.returns
unfolding kind_field
returns g c =
    let letters = c.letters-letters.ensures in
    prints_as (two _ c.if-letters-eq1.false letters.some letters.short ∙ ap field letters.value) c.put-2.ensures
