-- A letter with a colon directly after it is a head.
use Rattle.std.proofs.Common.{◌≡◌, ℕ, Bool, true, false, List, [], ◌∷◌, inl, inr, refl}
use Rattle.std.specs.Prelude.{◌==◌, if◌then◌else◌, Option, Some, None}
use Rattle.std.proofs.lemmas.Bool.Decides.{eqb_tells}
use Rattle.sd_sddl_builder.specs.declared.slot.Head.{Head}
use Rattle.sd_sddl_builder.specs.Line.{begins_with_colon, head_of, is_paired, pieces_from, sections_of}

pub no_head : (c : Bool) (x : Option Head) → x ≡ None → (if c then x else None) ≡ None
no_head true x e = e
no_head false x e = refl

pub no-colon : (b : ℕ) (bs : List ℕ) (x : Option Head) → (b == 58) ≡ false
    → (if begins_with_colon (pieces_from false (b ∷ bs)).after then x else None) ≡ None
no-colon b bs x e = by_open (b == 40) refl
  where
    by_open : (o : Bool) → (b == 40) ≡ o
        → (if begins_with_colon (pieces_from false (b ∷ bs)).after then x else None) ≡ None
    by_open true f = rw f refl
    by_open false f = rw (f, e) refl

pub not_letter : (b c : ℕ) (p : Head) → head_of b ≡ Some p → head_of c ≡ None → (b == c) ≡ false
not_letter b c p e n = elim (eqb_tells b c)
    [ inl h ↦ absurd (let f : head_of b ≡ None = rw (h.1) n in cc) | inr h ↦ h.0 ]

pub headed : (b : ℕ) (p : Head) (bs : List ℕ) → head_of b ≡ Some p → (b == 40) ≡ false
    → sections_of (b ∷ 58 ∷ bs) ≡ record {
      before = [];
      parts = record { head = p; body = (sections_of bs).before } ∷ (sections_of bs).parts;
    }
headed b p bs e e40 = rw (e40, e, no_head (begins_with_colon (pieces_from false bs).after) (head_of 58) refl) refl

pub head-paired : (b : ℕ) (bs : List ℕ) → (b == 40) ≡ false → (b == 41) ≡ false
    → is_paired false (b ∷ 58 ∷ bs) ≡ is_paired false bs
head-paired b bs e40 e41 = rw (e40, e41) refl
