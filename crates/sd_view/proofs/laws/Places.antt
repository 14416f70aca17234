-- Where the parts of a layout stand.
use Rattle.std.proofs.Common.{◌≡◌, ◌<◌, ◌+◌, ℕ, false, eqb, List, ◌++◌, length, drop, refl, sym, ap, ◌∙◌, arith}
use Rattle.std.proofs.lemmas.Bool.Decides.{nat_tests}
use Rattle.std.proofs.lemmas.List.{drop_at, drop-drop}
use Rattle.sd_view.specs.Layout.{offset_if}

-- a size that is not zero
pub not-zero : (n : ℕ) → 0 < n → eqb n 0 ≡ false
not-zero n h = grind (arith, nat_tests)

pub offset-stands : (start n : ℕ) → 0 < n → offset_if start n ≡ start
offset-stands start n h = rw (not-zero n h) refl

-- what stands after a part
pub after : (start n : ℕ) (whole part rest : List ℕ) → length part ≡ n → drop start whole ≡ part ++ rest
    → drop (start + n) whole ≡ rest
after start n whole part rest len shape = sym (drop-drop n start whole) ∙ ap (drop n) shape ∙ drop_at part rest n len
