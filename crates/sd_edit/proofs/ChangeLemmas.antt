-- Changes of a list, one more at a time.
use Rattle.std.proofs.Common.{◌≡◌, ◌<◌, ℕ, suc, ◌+◌, List, [], ◌∷◌, ◌++◌, length, take, drop, get_or, Ok, Err, ap, sym}
use Rattle.std.proofs.Common.{◌∙◌, arith, drop-cons, take-append-drop}
use Rattle.std.proofs.Math.Seq.{take-suc}
use Rattle.sd_view.specs.Descriptor.{Descriptor}
use Rattle.sd_edit.specs.Edits.{Outcome, edit, edited}
use Rattle.sd_edit.specs.declared.change.Change.{Change}
use Rattle.sd_edit.specs.declared.edited.ChangeFault.{ChangeFault}
use Rattle.sd_edit.proofs.laws.EditLaws.{made_fault, made_one}

module _ (cs : List Change) (i : ℕ) (c : Change) (within : i < length cs) (is : c ≡ get_or cs i c) where
  next_of : take (i + 1) cs ≡ take i cs ++ c ∷ []
  next_of =
      let next : i + 1 ≡ suc i = omega arith in
      ap (λ (k : ℕ). take k cs) next ∙ take-suc cs i c within ∙ ap (λ (x : Change). take i cs ++ x ∷ []) (sym is)

  all_of : cs ≡ take i cs ++ c ∷ drop (suc i) cs
  all_of =
      sym (take-append-drop i cs)
      ∙ ap (λ (xs : List Change). take i cs ++ xs)
      (drop-cons cs i c within ∙ ap (λ (x : Change). x ∷ drop (suc i) cs) (sym is))

  pub makes_next : (d m n : Descriptor) (k : ℕ) → (edit (take i cs) d).1 ≡ Ok m → edited c m ≡ Ok (n, k)
      → let o : Outcome = ((edit (take i cs) d).0 ++ k ∷ [], Ok n) in edit (take (i + 1) cs) d ≡ o
  makes_next d m n k left made =
      ap (λ (xs : List Change). edit xs d) next_of ∙ made_one (take i cs) c d m n k left made

  pub makes_none : (d m : Descriptor) (f : ChangeFault) → (edit (take i cs) d).1 ≡ Ok m → edited c m ≡ Err f
      → let o : Outcome = ((edit (take i cs) d).0, Err f) in edit cs d ≡ o
  makes_none d m f left fault =
      ap (λ (xs : List Change). edit xs d) all_of ∙ made_fault (take i cs) (drop (suc i) cs) c d m f left fault
