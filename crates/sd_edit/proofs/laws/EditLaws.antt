-- Changes one after the other.
use Rattle.std.proofs.Common.{◌≡◌, ℕ, List, [], ◌∷◌, ◌++◌, Result, Ok, Err, refl, ap, ◌∙◌, append-nil}
use Rattle.sd_view.specs.Descriptor.{Descriptor}
use Rattle.sd_edit.specs.Edits.{Outcome, edit, edited, followed, then_edit, then_edit_of}
use Rattle.sd_edit.specs.declared.change.Change.{Change}
use Rattle.sd_edit.specs.declared.edited.ChangeFault.{ChangeFault}

one_more : (n : ℕ) (counts : List ℕ) (r : Result Descriptor ChangeFault) (b : List Change)
    → let o : Outcome = then_edit_of b counts r in
    let p : Outcome = (n ∷ o.0, o.1) in p ≡ then_edit_of b (n ∷ counts) r
one_more n counts (Ok d) b = refl
one_more n counts (Err fault) b = refl

followed_then : (r : Result (Descriptor × ℕ) ChangeFault) (a b : List Change)
    → ((d : Descriptor) → edit (a ++ b) d ≡ then_edit b (edit a d))
    → followed r (edit (a ++ b)) ≡ then_edit b (followed r (edit a))
followed_then (Ok made) a b later =
    ap (λ (o : Outcome). let p : Outcome = (made.1 ∷ o.0, o.1) in p) (later made.0)
    ∙ one_more made.1 (edit a made.0).0 (edit a made.0).1 b
followed_then (Err fault) a b later = refl

pub edit_append : (a b : List Change) (d : Descriptor) → edit (a ++ b) d ≡ then_edit b (edit a d)
edit_append [] b d = refl
edit_append (c ∷ a) b d = followed_then (edited c d) a b (edit_append a b)

-- one change more is made
pub made_one : (cs : List Change) (c : Change) (d m n : Descriptor) (k : ℕ) → (edit cs d).1 ≡ Ok m
    → edited c m ≡ Ok (n, k) → let o : Outcome = ((edit cs d).0 ++ k ∷ [], Ok n) in edit (cs ++ c ∷ []) d ≡ o
made_one cs c d m n k left made =
    edit_append cs (c ∷ []) d
    ∙ ap (then_edit_of (c ∷ []) (edit cs d).0) left
    ∙ ap (λ (s : Result (Descriptor × ℕ) ChangeFault). let o : Outcome = followed s (edit []) in
    let p : Outcome = ((edit cs d).0 ++ o.0, o.1) in p) made

-- one can't be made
pub made_fault : (cs rest : List Change) (c : Change) (d m : Descriptor) (f : ChangeFault) → (edit cs d).1 ≡ Ok m
    → edited c m ≡ Err f → let o : Outcome = ((edit cs d).0, Err f) in edit (cs ++ c ∷ rest) d ≡ o
made_fault cs rest c d m f left fault =
    edit_append cs (c ∷ rest) d
    ∙ ap (then_edit_of (c ∷ rest) (edit cs d).0) left
    ∙ ap (λ (s : Result (Descriptor × ℕ) ChangeFault). let o : Outcome = followed s (edit rest) in
    let p : Outcome = ((edit cs d).0 ++ o.0, o.1) in p) fault
    ∙ ap (λ (counts : List ℕ). let o : Outcome = (counts, Err f) in o) (append-nil (edit cs d).0)
