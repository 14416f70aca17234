-- Blanks at the ends of a text.
use Rattle.std.proofs.Common.{◌≡◌, ◌<◌, ℕ, suc, ◌+◌, Bool, true, false, ◌&&◌, List, [], ◌∷◌, ◌++◌, length, refl, arith}
use Rattle.std.specs.Prelude.{if◌then◌else◌}
use Rattle.std.specs.List.{list_all}
use Rattle.std.proofs.Math.Bool.{and-false, and-true}
use Rattle.std.proofs.lemmas.List.Folds.{list_all-append}
use Rattle.sd_sddl_fields.specs.FieldTexts.{is_blank}
use Rattle.sd_sddl_builder.specs.Line.{trim, trim_end}
use Rattle.sd_fault_places.specs.Fields.{blanks_at, blanks_before}
use Rattle.sd_fault_places.specs.Inner.Cutting.{trim_start}

-- 1. A byte at the end.

pub end-blank : (t : List ℕ) (b : ℕ) → is_blank b ≡ true → trim_end (t ++ b ∷ []) ≡ trim_end t
end-blank [] b e = rw e refl
end-blank (c ∷ t) b e =
    rw (list_all-append is_blank t (b ∷ []), e, and-true (list_all is_blank t), end-blank t b e) refl

pub end-other : (t : List ℕ) (b : ℕ) → is_blank b ≡ false → trim_end (t ++ b ∷ []) ≡ t ++ b ∷ []
end-other [] b e = rw e refl
end-other (c ∷ t) b e =
    rw (
      list_all-append is_blank t (b ∷ []),
      e,
      and-false (list_all is_blank t),
      and-false
          (is_blank c),
      end-other t b e,
    )
    refl

-- 2. Blanks at the front.

pub trimmed : (t : List ℕ) → trim t ≡ trim_end (trim_start t)
trimmed [] = refl
trimmed (b ∷ bs) = by_blank (trimmed bs) (is_blank b)
  where
    by_blank : trim bs ≡ trim_end (trim_start bs) → (x : Bool)
        → (if x then trim bs else trim_end (b ∷ bs)) ≡ trim_end (if x then trim_start bs else b ∷ bs)
    by_blank more true = more
    by_blank more false = refl

all-blank : (t : List ℕ) → length (trim_start t) ≡ 0 → list_all is_blank t ≡ true
all-blank [] e = refl
all-blank (b ∷ bs) e = by_blank (all-blank bs) (is_blank b) e
  where
    by_blank : (length (trim_start bs) ≡ 0 → list_all is_blank bs ≡ true) → (x : Bool)
        → length (if x then trim_start bs else b ∷ bs) ≡ 0 → (x && list_all is_blank bs) ≡ true
    by_blank more true e = more e
    by_blank more false e = absurd (omega (arith, e))

some-other : (t : List ℕ) → 0 < length (trim_start t) → list_all is_blank t ≡ false
some-other [] e = absurd (omega (arith, e))
some-other (b ∷ bs) e = by_blank (some-other bs) (is_blank b) e
  where
    by_blank : (0 < length (trim_start bs) → list_all is_blank bs ≡ false) → (x : Bool)
        → 0 < length (if x then trim_start bs else b ∷ bs) → (x && list_all is_blank bs) ≡ false
    by_blank more true e = more e
    by_blank more false e = refl

before-start : (t : List ℕ) → blanks_at t + length (trim_start t) ≡ length t
before-start [] = refl
before-start (b ∷ bs) = by_blank (before-start bs) (is_blank b)
  where
    by_blank : blanks_at bs + length (trim_start bs) ≡ length bs → (x : Bool)
        → (if x then suc (blanks_at bs) else 0) + length (if x then trim_start bs else b ∷ bs)
        ≡ suc (length bs)
    by_blank more true = omega (arith, more)
    by_blank more false = omega arith

pub none-before : (t : List ℕ) → length (trim_start t) ≡ 0 → blanks_before t ≡ 0
none-before t e = rw (all-blank t e) refl

pub some-before : (t : List ℕ) → 0 < length (trim_start t) → blanks_before t + length (trim_start t) ≡ length t
some-before t e = rw (some-other t e) (before-start t)

pub start-empty : (t : List ℕ) → length t ≡ 0 → t ≡ trim_end t
start-empty [] e = refl
start-empty (b ∷ bs) e = absurd (omega (arith, e))
