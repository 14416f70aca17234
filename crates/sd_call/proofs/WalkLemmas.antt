-- Where the ACE behind another one lies.
use Rattle.std.proofs.Common.{◌≡◌, inl, inr, ℕ, ◌-◌, List, [], length, drop, refl, ap, arith, length-drop, nat_lt}
use Rattle.std.proofs.lemmas.Bool.{cases_Bool, ltb-false, ltb-true}
use Rattle.std.proofs.lemmas.List.{drop_all}
use Rattle.sd_acl_view.specs.AclReading.{ace_fault}
use Rattle.sd_call.specs.Walk.{front_found}

behind_all : (number offset other : ℕ) → front_found number offset [] ≡ front_found number other []
unfolding front_found ace_fault
behind_all number offset other = refl

pub same_place : (number offset : ℕ) (extent : List ℕ)
    → front_found number (length extent - length (drop offset extent)) (drop offset extent)
    ≡ front_found number offset (drop offset extent)
same_place number offset extent = elim (cases_Bool (nat_lt (length extent) offset)) [
  | inl past ↦
      let none : drop offset extent ≡ [] =
      drop_all offset extent (omega (arith, ltb-true (length extent) offset past)) in
      rw none (behind_all number (length extent - 0) offset)
  | inr within ↦
      let place : length extent - length (drop offset extent) ≡ offset =
      omega (arith, length-drop offset extent, ltb-false (length extent) offset within) in
      ap (λ (n : ℕ). front_found number n (drop offset extent)) place
]
