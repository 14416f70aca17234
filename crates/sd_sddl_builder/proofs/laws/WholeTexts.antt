-- The text of a field that is whole in what comes of a line.
use Rattle.std.proofs.Common.{◌≡◌, ℕ, ◌≤◌, Bool, true, false, ◌||◌, List, [], ◌∷◌, length, refl, arith}
use Rattle.std.specs.Prelude.{◌==◌, not}
use Rattle.std.specs.List.{list_all, list_any}
use Rattle.std.proofs.lemmas.Bool.{and_parts}
use Rattle.std.proofs.lemmas.Bool.Decides.{nat_tests}
use Rattle.sd_sddl_fields.specs.FieldTexts.{is_blank}
use Rattle.sd_sddl_fields.specs.Held.{is_plain_inside}
use Rattle.sd_sddl_builder.specs.Meaning.{is_unreadable}

no-blank : (w x y z : Bool) → not (w || (x || (y || z))) ≡ true → z ≡ false
no-blank true x y z e = absurd cc
no-blank false true y z e = absurd cc
no-blank false false true z e = absurd cc
no-blank false false false true e = absurd cc
no-blank false false false false e = refl

clean-inside : (t : List ℕ) → list_all is_plain_inside t ≡ true → list_any is_blank t ≡ false
clean-inside [] plain = refl
clean-inside (b ∷ bs) plain =
    let p = and_parts (is_plain_inside b) _ plain in
    rw (no-blank (b == 40) (b == 41) (b == 59) (is_blank b) p.0) (clean-inside bs p.1)

-- it has no blank and is not too long
pub whole-readable : (t : List ℕ) → list_all is_plain_inside t ≡ true → length t ≤ 183 → is_unreadable t ≡ false
whole-readable t plain fits = rw (clean-inside t plain) (grind (arith, nat_tests))
