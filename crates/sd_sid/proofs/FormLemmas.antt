-- The form of a SID's text.
use Rattle.std.proofs.Common.{◌≡◌, ◌≤◌, ◌-◌, ℕ, Bool, true, ◌&&◌, List, length, drop, take, ap, sym, ◌∙◌, arith}
use Rattle.std.specs.Prelude.{nat_le}
use Rattle.std.proofs.lemmas.Bool.Decides.{nat_tests}
use Rattle.std.proofs.lemmas.List.{take_rest}
use Rattle.sd_sid.specs.SidText.{cut_at_dashes, are_numbers, begins_with_s1, has_form}

pub form_is : (text : List ℕ) (r : Bool) → length text ≤ 183 → begins_with_s1 text ≡ true
    → r ≡ are_numbers (cut_at_dashes (take (length text - 4) (drop 4 text))) → r ≡ has_form text
unfolding has_form
form_is text r short front e =
    let fits : nat_le (length text) 183 ≡ true = grind (arith, nat_tests) in
    e ∙ ap (λ (t : List ℕ). are_numbers (cut_at_dashes t)) (take_rest text 4)
    ∙ sym (ap (λ (b : Bool). (b && begins_with_s1 text) && are_numbers (cut_at_dashes (drop 4 text))) fits
    ∙ ap (λ (b : Bool). b && are_numbers (cut_at_dashes (drop 4 text))) front)
