-- A run of P, AR and AI: one step of it.
use Rattle.std.proofs.Common.{◌≡◌, ℕ, List, [], ◌∷◌, Option, Some, None, refl, sym, true, false}
use Rattle.std.specs.Prelude.{◌==◌}
use Rattle.std.specs.Char.{to_ascii_uppercase}
use Rattle.sd_parts.specs.declared.control.AclFlags.{AclFlags}
use Rattle.std.specs.Option.{option_or}
use Rattle.sd_sddl_fields.specs.FieldTexts.{flags_after, two_letters}

pub or-none : {A : Type 0} (x : Option A) → option_or x None ≡ x
or-none None = refl
or-none (Some x) = refl

-- a P
pub run-p : (f : AclFlags) (a : ℕ) (rest text : List ℕ) → text ≡ a ∷ rest → to_ascii_uppercase a ≡ 80
    → flags_after (record f { protected = true }) rest ≡ flags_after f text
run-p f a rest text is e = rw is (by_rest rest)
  where
    by_rest : (rest : List ℕ) → flags_after (record f { protected = true }) rest ≡ flags_after f (a ∷ rest)
    by_rest [] = rw e refl
    by_rest (b ∷ rest) = rw e (sym (or-none (flags_after (record f { protected = true }) (b ∷ rest))))

-- AR or AI
pub run-pair : (f g : AclFlags) (a b : ℕ) (tail rest text : List ℕ) → text ≡ a ∷ tail → tail ≡ b ∷ rest
    → (to_ascii_uppercase a == 80) ≡ false → Some g ≡ two_letters f a b
    → flags_after g rest ≡ flags_after f text
run-pair f g a b tail rest text is more e p = rw (is, more, e, ← p) refl
