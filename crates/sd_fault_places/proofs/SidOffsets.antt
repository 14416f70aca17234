-- Where the SID is in an ACE depends on its first twelve bytes alone.
use Rattle.std.proofs.Common.{◌≡◌, ◌<◌, ◌≤◌, ◌⊎◌, inl, inr, ◌+◌, ◌-◌, ◌/◌, ◌%◌, ◌&&◌, ℕ, Bool, true, false, eqb, min}
use Rattle.std.proofs.Common.{List, ◌++◌, length, take, drop, slice_index, refl, ap, ◌∙◌, sym, arith}
use Rattle.std.specs.Prelude.{replicate, unwrap_or}
use Rattle.std.proofs.lemmas.Bool.{cases_lt}
use Rattle.std.proofs.lemmas.List.{get_or-append_right, get_or-drop, get_or-replicate, get_or-take, get_or_append_left}
use Rattle.std.proofs.lemmas.List.{get_or_past, length-take-le}
use Rattle.sd_ace.specs.Ace.{sid_offset}
use Rattle.sd_kinds.specs.Kinds.{is_object, kind_of}
use Rattle.sd_kinds.specs.declared.kinds.AceKind.{AceKind}
use Rattle.sd_kinds.specs.declared.kinds.AceKind.TheVariants as kinds
use Rattle.sd_acl_view.specs.Ace.{announces_inherited, announces_object}
use Rattle.sd_acl_view.specs.AclReading.{guid_if, inherited_in, kind_in, object_in, sid_offset_in}
use Rattle.sd_acl_view.specs.Bytes.{u32_at}

same_number : (a b : List ℕ) → ((k : ℕ) → k < 12 → slice_index a k ≡ slice_index b k) → u32_at 8 a ≡ u32_at 8 b
unfolding u32_at
same_number a b same =
    let e = at 0 (omega arith) in
    let f = at 1 (omega arith) in
    let g = at 2 (omega arith) in
    let h = at 3 (omega arith) in
    cc
  where
    at : (k : ℕ) → k < 4 → slice_index (drop 8 a) k ≡ slice_index (drop 8 b) k
    at k low = get_or-drop 8 a k 0 ∙ same (8 + k) (omega (arith, low)) ∙ sym (get_or-drop 8 b k 0)

by_guids : (kind : AceKind) (p q : Bool) (o i u v : List ℕ)
    → sid_offset kind (guid_if p o) (guid_if q i) ≡ sid_offset kind (guid_if p u) (guid_if q v)
unfolding guid_if
by_guids kind true true o i u v = refl
by_guids kind true false o i u v = refl
by_guids kind false true o i u v = refl
by_guids kind false false o i u v = refl

by_fields : (j k : AceKind) (m n : ℕ) (o i u v : List ℕ) → j ≡ k → m ≡ n
    → sid_offset j (guid_if (is_object j && eqb (m % 2) 1) o) (guid_if (is_object j && eqb (m / 2 % 2) 1) i)
    ≡ sid_offset k (guid_if (is_object k && eqb (n % 2) 1) u) (guid_if (is_object k && eqb (n / 2 % 2) 1) v)
by_fields j k m n o i u v d e =
    rw (d, e) (by_guids k (is_object k && eqb (n % 2) 1) (is_object k && eqb (n / 2 % 2) 1) o i u v)

-- the bytes that are there, and zeros behind them
padded : (xs : List ℕ) (n k : ℕ) → n ≡ min (length xs) 16 → k < 12
    → slice_index (take n xs ++ drop n (replicate 16 0)) k ≡ slice_index xs k
padded xs n k is low = either (cases_lt k n)
  where
    size : length (take n xs) ≡ n
    size = length-take-le n xs (omega (arith, is))

    either : (k < n) ⊎ (n ≤ k) → slice_index (take n xs ++ drop n (replicate 16 0)) k ≡ slice_index xs k
    either (inl held) =
        get_or_append_left (take n xs) _ 0 k (omega (arith, size, held)) ∙ get_or-take n xs k 0 held
    either (inr past) =
        get_or-append_right (take n xs) _ n k 0 size past
        ∙ get_or-drop n (replicate 16 0) (k - n) 0
        ∙ get_or-replicate 16 (n + (k - n)) 0 0 (omega (arith, low, past))
        ∙ sym (get_or_past xs k 0 (omega (arith, is, low, past)))

same_offset : (a b : List ℕ) → ((k : ℕ) → k < 12 → slice_index a k ≡ slice_index b k)
    → sid_offset_in a ≡ sid_offset_in b
unfolding sid_offset_in kind_in object_in inherited_in announces_object announces_inherited
same_offset a b same =
    by_fields (kind_in a) (kind_in b) (u32_at 8 a) (u32_at 8 b) _ _ _ _
    (ap (λ (n : ℕ). unwrap_or (kind_of n) kinds.Allow) (same 0 (omega arith))) (same_number a b same)

pub padded_offset : (xs : List ℕ) (n : ℕ) → n ≡ min (length xs) 16
    → sid_offset_in (take n xs ++ drop n (replicate 16 0)) ≡ sid_offset_in xs
padded_offset xs n is = same_offset _ xs (λ k low. padded xs n k is low)
