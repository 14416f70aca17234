-- A text is cut at its first dash.
use Rattle.std.proofs.Common.{◌≡◌, ◌≤◌, ◌<◌, ◌+◌, ℕ, Bool, true, false, List, [], ◌∷◌, length, take, drop, refl, arith}
use Rattle.std.proofs.Common.{suc}
use Rattle.std.specs.Prelude.{◌==◌}
use Rattle.std.specs.List.{position_or_len}
use Rattle.sd_text.specs.Cuts.{all_cuts}
use Rattle.sd_sid.specs.SidText.{cut_at_dashes}

-- where the first dash stands
abbrev pub dash_at : List ℕ → ℕ
dash_at text = position_or_len (λ b. b == 45) text

abbrev CutsHere : List ℕ → Type 0
CutsHere text = cut_at_dashes text ≡ record {
  first = take (dash_at text) text;
  others = all_cuts (cut_at_dashes (drop (dash_at text + 1) text));
}

pub cut_here : (text : List ℕ) → dash_at text < length text → CutsHere text
cut_here [] within = absurd (omega arith)
cut_here (b ∷ bs) within = by (b == 45) refl (cut_here bs)
  where
    by : (dash : Bool) → (b == 45) ≡ dash → (dash_at bs < length bs → CutsHere bs) → CutsHere (b ∷ bs)
    by true e rest = rw e refl
    by false e rest =
        let more : dash_at (b ∷ bs) ≡ suc (dash_at bs) = rw e (omega arith) in
        let next : dash_at (b ∷ bs) + 1 ≡ suc (dash_at bs + 1) = omega (arith, more) in
        rw (next, more, e, rest (omega (arith, within, more))) refl

abbrev IsWhole : List ℕ → Type 0
IsWhole text = cut_at_dashes text ≡ record { first = text; others = [] }

pub cut_end : (text : List ℕ) → length text ≤ dash_at text → IsWhole text
cut_end [] none = refl
cut_end (b ∷ bs) none = by (b == 45) refl (cut_end bs)
  where
    by : (dash : Bool) → (b == 45) ≡ dash → (length bs ≤ dash_at bs → IsWhole bs) → IsWhole (b ∷ bs)
    by true e rest =
        let here : dash_at (b ∷ bs) ≡ 0 = rw e refl in
        absurd (omega (arith, none, here))
    by false e rest =
        let more : dash_at (b ∷ bs) ≡ suc (dash_at bs) = rw e (omega arith) in
        rw (e, rest (omega (arith, none, more))) refl
