-- Changes that are made one more at a time, and the counts that are noted.
use Rattle.std.proofs.Common.{◌≡◌, ◌≤◌, ◌<◌, ◌+◌, ℕ, suc, List, [], ◌∷◌, ◌++◌, length, take, drop, get_or, Result}
use Rattle.std.proofs.Common.{Ok, Err, refl, ap, sym, ◌∙◌, arith, take-append-drop, drop-cons}
use Rattle.std.proofs.Math.ListN.{set}
use Rattle.std.proofs.Math.Seq.{take-suc}
use Rattle.std.proofs.lemmas.List.{length-map, length-take-le, map-append}
use Rattle.sd_view.specs.Descriptor.{Descriptor}
use Rattle.sd_edit.specs.Edits.{Outcome, edit, edited, followed}
use Rattle.sd_edit.specs.declared.change.Change.{Change}
use Rattle.sd_edit.specs.declared.edited.ChangeFault.{ChangeFault}
use Rattle.sd_edit.proofs.laws.EditLaws.{made_fault, made_one}
use Rattle.sd_call_edit.specs.Edit.{changes_of, counted, shown_change}
use Rattle.sd_call_edit.specs.declared.input.ChangeInput.{ChangeInput}

-- 1. Each change that was made has a count.

count_of : (r : Result (Descriptor × ℕ) ChangeFault) (cs : List Change) (m : Descriptor)
    → ((d m : Descriptor) → (edit cs d).1 ≡ Ok m → length (edit cs d).0 ≡ length cs)
    → (followed r (edit cs)).1 ≡ Ok m → length (followed r (edit cs)).0 ≡ suc (length cs)
count_of (Ok made) cs m later e = ap (λ (n : ℕ). suc n) (later made.0 m e)
count_of (Err f) cs m later e = absurd (cc)

pub counts : (cs : List Change) (d m : Descriptor) → (edit cs d).1 ≡ Ok m → length (edit cs d).0 ≡ length cs
counts [] d m e = refl
counts (c ∷ cs) d m e = count_of (edited c d) cs m (counts cs) e

-- 2. The counts that are noted.

set_over : (counts old : List ℕ) (n : ℕ) → length counts < length (counted counts old)
    → set (counted counts old) (length counts) n ≡ counted (counts ++ n ∷ []) old
set_over [] [] n h = absurd (omega (arith, h))
set_over [] (x ∷ old) n h = refl
set_over (k ∷ counts) [] n h = absurd (omega (arith, h))
set_over (k ∷ counts) (x ∷ old) n h =
    ap (λ (xs : List ℕ). k ∷ xs) (set_over counts old n (omega (arith, h)))

skip_over : (counts old : List ℕ) (n : ℕ) → length (counted counts old) ≤ length counts
    → counted counts old ≡ counted (counts ++ n ∷ []) old
skip_over [] [] n h = refl
skip_over [] (x ∷ old) n h = absurd (omega (arith, h))
skip_over (k ∷ counts) [] n h = refl
skip_over (k ∷ counts) (x ∷ old) n h =
    ap (λ (xs : List ℕ). k ∷ xs) (skip_over counts old n (omega (arith, h)))

pub counted_set : (counts old now : List ℕ) (i n : ℕ) → length counts ≡ i → now ≡ counted counts old → i < length now
    → set now i n ≡ counted (counts ++ n ∷ []) old
counted_set counts old now i n at is within =
    let size = ap length is in
    ap (λ (xs : List ℕ). set xs i n) is
    ∙ ap (λ (k : ℕ). set (counted counts old) k n) (sym at)
    ∙ set_over counts old n (omega (arith, size, at, within))

pub counted_skip : (counts old now : List ℕ) (i n : ℕ) → length counts ≡ i → now ≡ counted counts old
    → length now ≤ i → now ≡ counted (counts ++ n ∷ []) old
counted_skip counts old now i n at is beyond =
    let size = ap length is in is ∙ skip_over counts old n (omega (arith, size, at, beyond))

-- 3. The changes that are spelled, one more at a time.

next_of : (inputs : List ChangeInput) (i : ℕ) (d : ChangeInput) → i < length inputs
    → changes_of (take (i + 1) inputs) ≡ changes_of (take i inputs) ++ shown_change (get_or inputs i d) ∷ []
next_of inputs i d within =
    let next : i + 1 ≡ suc i = omega arith in
    ap (λ (k : ℕ). changes_of (take k inputs)) next
    ∙ ap changes_of (take-suc inputs i d within)
    ∙ map-append shown_change (take i inputs) (get_or inputs i d ∷ [])

all_of : (inputs : List ChangeInput) (i : ℕ) (d : ChangeInput) → i < length inputs
    → changes_of inputs
    ≡ changes_of (take i inputs) ++ shown_change (get_or inputs i d) ∷ changes_of (drop (i + 1) inputs)
all_of inputs i d within =
    let next : suc i ≡ i + 1 = omega arith in
    ap changes_of (sym (take-append-drop i inputs))
    ∙ map-append shown_change (take i inputs) (drop i inputs)
    ∙ ap (λ (cs : List ChangeInput). changes_of (take i inputs) ++ changes_of cs)
    (drop-cons inputs i d within ∙ ap (λ (k : ℕ). get_or inputs i d ∷ drop k inputs) next)

-- one is made
pub makes_next : (inputs : List ChangeInput) (i : ℕ) (input : ChangeInput) (d m n : Descriptor) (k : ℕ)
    → i < length inputs → (edit (changes_of (take i inputs)) d).1 ≡ Ok m
    → edited (shown_change (get_or inputs i input)) m ≡ Ok (n, k)
    → let o : Outcome = ((edit (changes_of (take i inputs)) d).0 ++ k ∷ [], Ok n) in
    edit (changes_of (take (i + 1) inputs)) d ≡ o
makes_next inputs i input d m n k within left made =
    ap (λ (cs : List Change). edit cs d) (next_of inputs i input within)
    ∙ made_one (changes_of (take i inputs)) (shown_change (get_or inputs i input)) d m n k left made

-- one can't be made
pub makes_none : (inputs : List ChangeInput) (i : ℕ) (input : ChangeInput) (d m : Descriptor) (f : ChangeFault)
    → i < length inputs → (edit (changes_of (take i inputs)) d).1 ≡ Ok m
    → edited (shown_change (get_or inputs i input)) m ≡ Err f
    → let o : Outcome = ((edit (changes_of (take i inputs)) d).0, Err f) in edit (changes_of inputs) d ≡ o
makes_none inputs i input d m f within left fault =
    ap (λ (cs : List Change). edit cs d) (all_of inputs i input within)
    ∙ made_fault (changes_of (take i inputs)) (changes_of (drop (i + 1) inputs))
    (shown_change (get_or inputs i input)) d m f left fault

-- as many counts as changes
pub count_at : (inputs : List ChangeInput) (i : ℕ) (d m : Descriptor) → i ≤ length inputs
    → (edit (changes_of (take i inputs)) d).1 ≡ Ok m → length (edit (changes_of (take i inputs)) d).0 ≡ i
count_at inputs i d m within left =
    counts (changes_of (take i inputs)) d m left
    ∙ length-map (take i inputs) shown_change
    ∙ length-take-le i inputs within
