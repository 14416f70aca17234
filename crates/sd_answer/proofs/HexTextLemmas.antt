-- The hex text of some bytes, piece by piece.
use Rattle.std.proofs.Common.{◌≡◌, ◌≤◌, ◌<◌, ℕ, ◌+◌, ◌-◌, ◌*◌, ◌/◌, ◌%◌, ◌∷◌, length, set, slice_index, subst}
use Rattle.std.proofs.Common.{append_assoc, length-drop, List, [], ◌++◌, take, drop, Result, Ok, Err, refl, sym, ◌∙◌}
use Rattle.std.proofs.Common.{ap, arith}
use Rattle.std.proofs.lemmas.List.{length-take-le, take-take, take_all, take-append-drop, take_at, take_more_set}
use Rattle.std.specs.Prelude.{IsOk, OnOk}
use Rattle.std.proofs.Math.Seq.{take-add}
use Rattle.hex.specs.Hex.{encode_with, encode_lower, lower_digits}
use Rattle.sd_sink.proofs.laws.PrintLemmas.{prints_then}
use Rattle.sd_sink.proofs.laws.SinkLemmas.{PutAll-trans, PutSome-after, PutSome-more, Puts-after}
use Rattle.sd_sink.specs.Print.{PrintTold, Prints}
use Rattle.sd_sink.specs.Sink.{PutAll, PutSome, Puts, SinkTold}
use Rattle.sd_sink.specs.declared.sink.SinkFault.{SinkFault}

encode_with-append : (t xs ys : List ℕ) → encode_with t (xs ++ ys) ≡ encode_with t xs ++ encode_with t ys
unfolding encode_with
encode_with-append t [] ys = refl
encode_with-append t (x ∷ xs) ys = ap (λ l. slice_index t (x / 16) ∷ slice_index t (x % 16) ∷ l)
    (encode_with-append t xs ys)

-- a piece more
encode-piece : (bytes : List ℕ) (at n : ℕ) → encode_lower (take (at + n) bytes) ≡ encode_lower (take at bytes)
    ++ encode_lower (take n (drop at bytes))
encode-piece bytes at n = ap encode_lower (take-add at n bytes)
    ∙ encode_with-append lower_digits (take at bytes) (take n (drop at bytes))

pub Prints-piece : (a b c : PrintTold) (bytes digits : List ℕ) (at n : ℕ)
    → digits ≡ encode_lower (take (at + n - at) (drop at bytes))
    → Prints a b (encode_lower (take at bytes)) → Prints b c digits → Prints a c (encode_lower (take (at + n) bytes))
Prints-piece a b c bytes digits at n is p q =
    let same : digits ≡ encode_lower (take n (drop at bytes)) = is ∙ ap (λ k. encode_lower (take k (drop at bytes)))
    (omega arith) in
    rw (encode-piece bytes at n, ← same) (prints_then p q)

-- a block of bytes more is written
pub encode-block : (bytes old new : List ℕ) (done n : ℕ) → old ≡ encode_lower (take done bytes)
    → new ≡ encode_lower (take n (drop done bytes)) → old ++ new ≡ encode_lower (take (done + n) bytes)
encode-block bytes old new done n is-old is-new = rw (is-old, is-new) (sym (encode-piece bytes done n))

length-encode : (t bytes : List ℕ) → length (encode_with t bytes) ≡ 2 * length bytes
unfolding encode_with
length-encode t [] = refl
length-encode t (x ∷ bytes) = let rest = length-encode t bytes in omega (arith, rest)

-- the digits of fewer bytes, from the front on
pub encode-front : (bytes digits : List ℕ) (k m : ℕ) → k ≤ m → m ≤ length bytes
    → take (2 * m) digits ≡ encode_lower (take m bytes) → take (2 * k) digits ≡ encode_lower (take k bytes)
encode-front bytes digits k m few within is =
    let rest = encode_lower (take (m - k) (drop k bytes)) in
    let all : k + (m - k) ≡ m = omega (arith, few) in
    let long : length (encode_lower (take k bytes)) ≡ 2 * k =
    length-encode lower_digits (take k bytes) ∙ omega (arith, length-take-le k bytes (omega (arith, few, within))) in
    sym (take-take (2 * k) (2 * m) digits (omega (arith, few)))
    ∙ ap (λ (xs : List ℕ). take (2 * k) xs) (is ∙ rw all at (encode-piece bytes k (m - k)))
    ∙ take_at (encode_lower (take k bytes)) rest (2 * k) long

-- what holds of a value that is there
pub on-value : {T E : Type 0} (r : Result T E) (P : Type 0) → IsOk r → OnOk r P → P
on-value (Ok x) P is h = h
on-value (Err e) P is h = cc is

-- the digits of some bytes and of those behind them
encode-whole : (bytes : List ℕ) (k : ℕ)
    → encode_lower (take k bytes) ++ encode_lower (drop k bytes) ≡ encode_lower bytes
encode-whole bytes k =
    sym (encode_with-append lower_digits (take k bytes) (drop k bytes)) ∙ ap encode_lower (take-append-drop k bytes)

-- the digits of a piece more were put
pub PutAll-piece : (a b c : SinkTold) (bytes digits : List ℕ) (at n : ℕ)
    → digits ≡ encode_lower (take (at + n - at) (drop at bytes))
    → PutAll a b (encode_lower (take at bytes)) → PutAll b c digits → PutAll a c (encode_lower (take (at + n) bytes))
PutAll-piece a b c bytes digits at n is p q =
    let same : digits ≡ encode_lower (take n (drop at bytes)) = is ∙ ap (λ k. encode_lower (take k (drop at bytes)))
    (omega arith) in
    rw (encode-piece bytes at n, ← same) (PutAll-trans a b c (encode_lower (take at bytes)) digits p q)

-- or a part of them, and that is all of what follows that was put
pub PutSome-piece : (a b c : SinkTold) (bytes digits behind : List ℕ) (at n : ℕ)
    → digits ≡ encode_lower (take (at + n - at) (drop at bytes))
    → PutAll a b (encode_lower (take at bytes)) → PutSome b c digits → PutSome a c (encode_lower bytes ++ behind)
PutSome-piece a b c bytes digits behind at n is p q =
    let same : digits ≡ encode_lower (take n (drop at bytes)) = is ∙ ap (λ k. encode_lower (take k (drop at bytes)))
    (omega arith) in
    let front = encode_lower (take at bytes) in
    let rest = encode_lower (drop (at + n) bytes) in
    let text : (front ++ digits) ++ (rest ++ behind) ≡ encode_lower bytes ++ behind =
    sym (append_assoc (front ++ digits) rest behind)
    ∙ ap (λ l. l ++ behind)
    (ap (λ l. l ++ rest) (ap (λ l. front ++ l) same ∙ sym (encode-piece bytes at n)) ∙ encode-whole bytes (at + n)) in
    subst (λ (t : List ℕ). PutSome a c t) text
    (PutSome-more a c (front ++ digits) (rest ++ behind) (PutSome-after a b c front digits p q))

-- the digits of the last piece, and an LF
pub Puts-last : (a b c : SinkTold) (bytes cells : List ℕ) (at count : ℕ) (result : Result (Unit {0}) SinkFault)
    → at ≤ length bytes → count < length cells
    → take count cells ≡ encode_lower (take (length bytes - at) (drop at bytes))
    → PutAll a b (encode_lower (take at bytes)) → Puts b c (take (count + 1) (set cells count 10)) result
    → Puts a c (encode_lower bytes ++ 10 ∷ []) result
Puts-last a b c bytes cells at count result within room is p q =
    let rest = length bytes - at in
    let all : take (at + rest) bytes ≡ bytes = take_all (at + rest) bytes (omega (arith, within)) in
    let front = encode_lower (take at bytes) in
    let text : front ++ take (count + 1) (set cells count 10) ≡ encode_lower bytes ++ 10 ∷ [] =
    ap (λ l. front ++ l) (take_more_set cells count 10 room ∙ ap (λ l. l ++ 10 ∷ []) is)
    ∙ sym (append_assoc front (encode_lower (take rest (drop at bytes))) (10 ∷ []))
    ∙ ap (λ l. l ++ 10 ∷ []) (sym (encode-piece bytes at rest) ∙ ap encode_lower all) in
    Puts-after a b c front (take (count + 1) (set cells count 10)) (encode_lower bytes ++ 10 ∷ []) result text p q

-- how long what is left is
pub length-left : (bytes : List ℕ) (at : ℕ) → at ≤ length bytes
    → length (take (length bytes - at) (drop at bytes)) ≡ length bytes - at
length-left bytes at within = length-take-le (length bytes - at) (drop at bytes) (omega (arith, length-drop at bytes))
