-- ACEs that are taken one after the other.
use Rattle.std.proofs.Common.{◌≡◌, ◌<◌, ℕ, ◌+◌, List, [], ◌∷◌, ◌++◌, length, take, drop, map, get_or, ap, sym, ◌∙◌}
use Rattle.std.proofs.Common.{append-nil, append_assoc}
use Rattle.std.proofs.Math.ListN.{set}
use Rattle.std.proofs.lemmas.List.{get_or_default}
use Rattle.std.proofs.lemmas.List.Edits.{map_over_more}
use Rattle.sd_ace.specs.Ace.{AccessControlEntry}

abbrev pub Aces : Type 0
Aces = List AccessControlEntry

pub parts_one : (ys rest left aces : Aces) (a : AccessControlEntry) → aces ≡ ys ++ left → left ≡ a ∷ rest
    → aces ≡ (ys ++ a ∷ []) ++ rest
parts_one ys rest left aces a parts step =
    parts ∙ ap (λ (zs : Aces). ys ++ zs) step ∙ sym (append_assoc ys (a ∷ []) rest)

pub all_yielded : (ys left aces : Aces) → aces ≡ ys ++ left → left ≡ [] → aces ≡ ys
all_yielded ys left aces parts none = parts ∙ ap (λ (zs : Aces). ys ++ zs) none ∙ append-nil ys

-- one ACE more is set in place
pub set_next : (f : AccessControlEntry → AccessControlEntry) (xs ys : Aces) (i : ℕ) (d new : AccessControlEntry)
    → i < length xs → i < length ys → ys ≡ map f (take i xs) ++ drop i xs → new ≡ f (get_or ys i d)
    → set ys i new ≡ map f (take (i + 1) xs) ++ drop (i + 1) xs
set_next f xs ys i d new within here is e =
    ap (λ (a : AccessControlEntry). set ys i a) e
    ∙ map_over_more f xs ys i (get_or ys i d) within is (get_or_default ys i d (get_or ys i d) here)
