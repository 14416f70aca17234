-- What a base64 text spells is bytes.
use Rattle.std.proofs.Common.{◌≡◌, ◌<◌, ℕ, zero, suc, ◌+◌, ◌*◌, ◌==◌, nat_lt, Bool, true, false, cond}
use Rattle.std.proofs.Common.{List, [], ◌∷◌, ◌++◌, length, take, drop, slice_index, slice_set}
use Rattle.std.proofs.Common.{Option, Some, None, Result, Ok, Err, refl, subst, inl, inr, lit≤, arith}
use Rattle.std.proofs.lemmas.Bool.{cases_Bool, cases_eq, cases_lt}
use Rattle.std.proofs.lemmas.List.{get_or-drop, get_or-set_other, get_or-set_same, get_or_past, set_past}
use Rattle.base64.proofs.Tables.{IsDecodeTable_from, are_tables_inverse}
use Rattle.base64.specs.Decode.{IsDecodeTable, decode_group, decode_outcome, group_bytes, group_error}
use Rattle.base64.specs.Decode.{groups_before_last, groups_bytes, groups_error, no_leftover, or_else}
use Rattle.base64.specs.Decode.{push_leftover, scan_bytes, scan_last, scan_steps, suffix_bytes, symbol_error}
use Rattle.base64.specs.Engines.{standard}
use Rattle.base64.specs.GeneralPurpose.{IsBytes, decode_of}
use Rattle.base64.specs.declared.decode.DecodeError.{DecodeError}
use Rattle.base64.specs.declared.engine.general_purpose.GeneralPurpose.{GeneralPurpose}
use Rattle.sd_buffer.proofs.laws.SpelledBase64.{decoded-base64}
use Rattle.sd_buffer.specs.Text.{base64_spells}

IsBytes-tail : (x : ℕ) (xs : List ℕ) → IsBytes (x ∷ xs) → IsBytes xs
IsBytes-tail x xs h i = h (suc i)

pub IsBytes-drop : (n : ℕ) (xs : List ℕ) → IsBytes xs → IsBytes (drop n xs)
IsBytes-drop n xs h i = rw get_or-drop (h (n + i))

pub IsBytes-take : (n : ℕ) (xs : List ℕ) → IsBytes xs → IsBytes (take n xs)
IsBytes-take zero xs h i = omega arith
IsBytes-take (suc n) [] h i = omega arith
IsBytes-take (suc n) (x ∷ xs) h zero = h 0
IsBytes-take (suc n) (x ∷ xs) h (suc i) = IsBytes-take n xs (IsBytes-tail x xs h) i

IsBytes-append : (xs ys : List ℕ) → IsBytes xs → IsBytes ys → IsBytes (xs ++ ys)
IsBytes-append [] ys h k i = k i
IsBytes-append (x ∷ xs) ys h k zero = h 0
IsBytes-append (x ∷ xs) ys h k (suc i) = IsBytes-append xs ys (IsBytes-tail x xs h) k i

-- the state between the symbols of a last group, whose type has no name outside its crate
abbrev type_of : {A : Type 0} → A → Type 0
type_of {A} x = A

abbrev Leftover : Type 0
Leftover = type_of no_leftover

-- values of six bits
abbrev AreSmall : List ℕ → Type 0
AreSmall values = (i : ℕ) → slice_index values i < 64

-- what four of them make is bytes
group-bytes : (a b c d : ℕ) → a < 64 → b < 64 → c < 64 → d < 64 → IsBytes (decode_group a b c d)
group-bytes a b c d ha hb hc hd zero = omega arith
group-bytes a b c d ha hb hc hd (suc zero) = omega arith
group-bytes a b c d ha hb hc hd (suc (suc zero)) = omega arith
group-bytes a b c d ha hb hc hd (suc (suc (suc i))) = omega arith

-- a symbol's value, also where a text has a number that is no byte
module _ (dec : List ℕ) (long : length dec ≡ 256) (table : IsDecodeTable dec) where
  value-small : (x : ℕ) → (slice_index dec x == 255) ≡ false → slice_index dec x < 64
  value-small x symbol = elim (cases_lt x 256) [
    | inl lt ↦ elim (table x lt) [ inl is ↦ absurd (cc (rw is at symbol)) | inr small ↦ small ]
    | inr ge ↦ let past = get_or_past dec x 0 (omega arith) in omega (arith, past)
  ]

  symbol-small : (s : List ℕ) (i : ℕ) → symbol_error dec s i ≡ None → slice_index dec (slice_index s i) < 64
  symbol-small s i none = elim (cases_Bool (slice_index dec (slice_index s i) == 255)) [
    | inl bad ↦ absurd (cc (rw bad at none))
    | inr good ↦ value-small (slice_index s i) good
  ]

  or_else-none : (x y : Option DecodeError) → or_else x y ≡ None → (x ≡ None) × (y ≡ None)
  or_else-none None y h = (refl, h)
  or_else-none (Some e) y h = cc h

  one_group-bytes : (s : List ℕ) (i : ℕ) → group_error dec s i ≡ None → IsBytes (group_bytes dec s i)
  one_group-bytes s i none =
      let a = or_else-none (symbol_error dec s i) _ none in
      let b = or_else-none (symbol_error dec s (i + 1)) _ a.1 in
      let c = or_else-none (symbol_error dec s (i + 2)) (symbol_error dec s (i + 3)) b.1 in
      group-bytes _ _ _ _ (symbol-small s i a.0) (symbol-small s (i + 1) b.0) (symbol-small s (i + 2) c.0)
      (symbol-small s (i + 3) c.1)

  groups-bytes : (s : List ℕ) (q : ℕ) → groups_error dec s q ≡ None → IsBytes (groups_bytes dec s q)
  unfolding groups_error groups_bytes
  groups-bytes s zero none = λ i. omega arith
  groups-bytes s (suc q) none =
      let parts = or_else-none (groups_error dec s q) (group_error dec s (4 * q)) none in
      IsBytes-append _ _ (groups-bytes s q parts.0) (one_group-bytes s (4 * q) parts.1)

  -- the last group, symbol by symbol
  abbrev SmallSoFar : Result Leftover DecodeError → Type 0
  SmallSoFar (Ok st) = AreSmall st.morsels
  SmallSoFar (Err e) = Unit {0}

  set-small : (xs : List ℕ) (at v : ℕ) → AreSmall xs → v < 64 → AreSmall (slice_set xs at v)
  set-small xs at v all small i = elim (cases_eq i at) [
    | inl same ↦ elim (cases_lt at (length xs)) [
      | inl fits ↦ rw (same, get_or-set_same xs at v 0 fits) small
      | inr past ↦ rw (set_past xs at v past) (all i)
    ]
    | inr other ↦ rw (get_or-set_other xs at i v 0 other) (all i)
  ]

  chosen-small : (c : Bool) (x y : Result Leftover DecodeError) → SmallSoFar x → SmallSoFar y → SmallSoFar (cond c x y)
  chosen-small true x y h k = h
  chosen-small false x y h k = k

  push-small : (pad at : ℕ) (st : Leftover) (i b : ℕ) → AreSmall st.morsels
      → SmallSoFar (push_leftover dec pad at st i b)
  push-small pad at st i b h =
      chosen-small (b == pad) _ _ (chosen-small (nat_lt i 2) _ _ tt h)
      (chosen-small (nat_lt 0 st.padding_count) _ _ tt
      (elim (cases_Bool (slice_index dec b == 255)) [
        | inl bad ↦ rw bad tt
        | inr good ↦ rw good (set-small st.morsels st.morsels_count (slice_index dec b) h (value-small b good))
      ]))

  scan-small : (pad at i : ℕ) (r : Result Leftover DecodeError) (bs : List ℕ) → SmallSoFar r
      → SmallSoFar (scan_steps dec pad at r i bs)
  unfolding scan_steps
  scan-small pad at i (Err e) bs h = tt
  scan-small pad at i (Ok st) [] h = h
  scan-small pad at i (Ok st) (b ∷ bs) h = scan-small pad at (i + 1) (push_leftover dec pad at st i b) bs
      (push-small pad at st i b h)

  left-bytes : (r : Result Leftover DecodeError) → SmallSoFar r → IsBytes (scan_bytes r)
  left-bytes (Ok st) h = IsBytes-take _ _ (group-bytes _ _ _ _ (h 0) (h 1) (h 2) (h 3))
  left-bytes (Err e) h = λ i. omega arith

  start-small : AreSmall no_leftover.morsels
  start-small zero = lit≤ tt
  start-small (suc zero) = lit≤ tt
  start-small (suc (suc zero)) = lit≤ tt
  start-small (suc (suc (suc zero))) = lit≤ tt
  start-small (suc (suc (suc (suc i)))) = omega arith

  last-bytes : (pad at : ℕ) (s : List ℕ) → IsBytes (suffix_bytes dec pad at s)
  last-bytes pad at s = left-bytes (scan_last dec pad at s)
      (scan-small pad at 0 (Ok no_leftover) (drop at s) start-small)

outcome-ok : (x : Option DecodeError) (d b : List ℕ) → decode_outcome x d ≡ Ok b → (x ≡ None) × (d ≡ b)
outcome-ok None d b h = (refl, cc h)
outcome-ok (Some e) d b h = cc h

decoded-bytes : (e : GeneralPurpose) (text bytes : List ℕ) → length e.decode_table ≡ 256 → decode_of e text ≡ Ok bytes
    → IsBytes bytes
decoded-bytes e text bytes long h =
    let dec = e.decode_table in
    let pad = e.padding.value in
    let table : IsDecodeTable dec = IsDecodeTable_from e.encode_table dec
    (are_tables_inverse e.encode_table dec pad e.tables) in
    let q = groups_before_last (length text) in
    let parts = outcome-ok _ _ bytes h in
    let none = or_else-none dec long table _ _ parts.0 in
    let whole = or_else-none dec long table (groups_error dec text q) _ none.1 in
    subst IsBytes parts.1
    (IsBytes-append _ _ (groups-bytes dec long table text q whole.0) (last-bytes dec long table pad (4 * q) text))

-- what a text spells is bytes
pub spelled-base64 : (text bytes : List ℕ) → base64_spells text ≡ Ok bytes → IsBytes bytes
spelled-base64 text bytes e = decoded-bytes standard text bytes refl (decoded-base64 text bytes e)
