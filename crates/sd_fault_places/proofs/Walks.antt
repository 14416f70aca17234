-- A walk through a text, one byte at a time.
use Rattle.std.proofs.Common.{◌≡◌, ◌≤◌, ℕ, suc, ◌+◌, Bool, true, false, ◌∷◌, List, refl, arith}
use Rattle.std.specs.Prelude.{◌==◌, if◌then◌else◌, Option, Some, None, is_some}
use Rattle.std.specs.Option.{option_and_then, option_map}
use Rattle.sd_sddl_fields.specs.FieldTexts.{is_blank}
use Rattle.sd_sddl_builder.specs.Line.{head_of}
use Rattle.sd_sddl_builder.specs.declared.slot.Head.{Head}
use Rattle.sd_sddl_builder.specs.declared.slot.Head.TheVariants as head
use Rattle.sd_fault_places.specs.Inner.Counted.{aces_at, aces_before}
use Rattle.sd_fault_places.specs.Shape.{at_stand, is_inside, is_last, next_stand, reach, stand_of, step, stop}
use Rattle.sd_fault_places.specs.declared.shape.Front.{Front}
use Rattle.sd_fault_places.specs.declared.shape.Stand.{Stand}
use Rattle.sd_fault_places.specs.declared.shape.Stand.TheVariants as stand

-- a byte with which a line goes on
pub walked : (m n : Front) (b : ℕ) (bs : List ℕ) → step m b ≡ Some n
    → (reach m (b ∷ bs) ≡ suc (reach n bs)) × (stop m (b ∷ bs) ≡ stop n bs)
walked m n b bs e = rw e (refl, refl)

-- a byte ends one ACE at most
abbrev Stands : ℕ → Option Stand → Type 0
Stands k None = Unit {0}
Stands k (Some s) = aces_at s ≤ k

abbrev Fronts : ℕ → Option Front → Type 0
Fronts k None = Unit {0}
Fronts k (Some m) = aces_before m ≤ k

one_of : (k : ℕ) (c : Bool) (x y : Option Stand) → Stands k x → Stands k y → Stands k (if c then x else y)
one_of k true x y p q = p
one_of k false x y p q = q

stands : (s : Stand) (b : ℕ) → Stands (aces_at s + 1) (next_stand s b)
stands stand.Before b = one_of 1 (is_blank b) _ _ (omega arith) tt
stands (stand.Sid p) b = one_of 1 _ None (Some (stand.Sid p)) tt (omega arith)
stands (stand.Flags w) b =
    one_of 1 (b == 40) _ _ (omega arith) (one_of 1 (b == 41) None (Some (stand.Flags w)) tt (omega arith))
stands (stand.Behind w n) b =
    one_of (n + 1) (b == 40) _ _ (omega arith)
    (one_of (n + 1) (is_blank b) (Some (stand.Behind w n)) None (omega arith) tt)
stands (stand.Ace w n f) b =
    one_of (n + 1) (b == 40) None _ tt
    (one_of (n + 1) (b == 41) _ _ (one_of (n + 1) (is_last f) (Some (stand.Behind w (n + 1))) None (omega arith) tt)
    (one_of (n + 1) (b == 59) _ _ (one_of (n + 1) (is_last f) None _ tt (omega arith)) (omega arith)))

fronts : (k : ℕ) (o : Option Stand) → Stands k o → Fronts k (option_map at_stand o)
fronts k None p = tt
fronts k (Some s) p = p

begun : (k : ℕ) (o : Option Head) → Fronts k (option_map (λ h. at_stand (stand_of h)) o)
begun k None = tt
begun k (Some (head.Sid p)) = omega arith
begun k (Some (head.Acl w)) = omega arith

counts : (m : Front) (b : ℕ) → Fronts (aces_before m + 1) (step m b)
counts m b = by_test (is_inside m.stand) (b == 58) _ (is_some (head_of b))
  where
    plain : Fronts (aces_before m + 1) (option_map at_stand (next_stand m.stand b))
    plain = fronts (aces_before m + 1) (next_stand m.stand b) (stands m.stand b)

    by_test : (x y z w : Bool) → Fronts (aces_before m + 1)
        (if x then option_map at_stand (next_stand m.stand b)
        else (if y then option_map (λ h. at_stand (stand_of h)) (option_and_then head_of m.letter)
        else (if z then None
        else (if w then Some (record { stand = m.stand; letter = Some b })
        else option_map at_stand (next_stand m.stand b)))))
    by_test true y z w = plain
    by_test false true z w = begun (aces_before m + 1) (option_and_then head_of m.letter)
    by_test false false true w = tt
    by_test false false false true = omega arith
    by_test false false false false = plain

pub counted : (m n : Front) (b : ℕ) → step m b ≡ Some n → aces_before n ≤ aces_before m + 1
counted m n b e = rw e at (counts m b)
