-- Blocks of base64: what their values make, and what is spelled with a block more.
use Rattle.std.proofs.Common.{◌≡◌, ◌≤◌, ◌<◌, ℕ, suc, ◌+◌, ◌*◌, ◌/◌, ◌%◌, ◌==◌, ◌&&◌, nat_lt, Bool, true, List, [], ◌∷◌}
use Rattle.std.proofs.Common.{◌++◌, length, take, drop, replicate, slice_index, Option, Some, None, Result, Ok, Err}
use Rattle.std.proofs.Common.{refl, sym, subst, ap, ◌∙◌, inl, inr, ◌⊎◌, arith, length-append, length-drop}
use Rattle.std.specs.Prelude.{MatchResult}
use Rattle.std.specs.Simd.Lanes.{Each1}
use Rattle.std.proofs.Math.Seq.{take-add}
use Rattle.std.proofs.lemmas.Bool.{and_parts, cases_lt, eqb-true, ltb-true}
use Rattle.std.proofs.lemmas.List.{drop_all, length-replicate, length-take-le, take-append-drop}
use borrow.Rule.Slice.PartMut.{put_mid}
use Rattle.base64.proofs.EngineFacts.{encode_of-append, encode_of-nil}
use Rattle.base64.proofs.RoundTrip.{drop_encoded, length-encode_symbols}
use Rattle.base64.proofs.Tables.{all_below_at}
use Rattle.base64.specs.Engines.{standard}
use Rattle.base64.specs.GeneralPurpose.{IsBytes, encode_of, engine_symbols}
use Rattle.base64.specs.Rfc4648.{encode_symbols, padding_len, unpadded_len}
use Rattle.base64.specs.Tables.{all_below}
use Rattle.sd_buffer.specs.Text.{base64_spells}
use Rattle.sd_buffer.specs.declared.buffer.TextFault.{TextFault}
use Rattle.sd_buffer.specs.Inner.Base64Blocks.{AreSixBits, joined_groups, symbol_value}
use Rattle.sd_buffer.proofs.laws.Slices.{front-of-part}
use Rattle.sd_buffer.proofs.laws.Base64Bytes.{IsBytes-drop, IsBytes-take, spelled-base64}
use Rattle.sd_buffer.proofs.laws.SpelledBase64.{encode-whole, one_encoding, wrong-base64}

-- ---- the value of a symbol

abbrev is_of : ℕ → Option ℕ → Bool
is_of c None = true
is_of c (Some v) = nat_lt v 64 && (slice_index (engine_symbols standard) v == c)

values-all : all_below (λ c. is_of c (symbol_value c)) 256 ≡ true
values-all = refl

symbol-at : (c v : ℕ) → c < 256 → symbol_value c ≡ Some v → (v < 64) × (slice_index (engine_symbols standard) v ≡ c)
symbol-at c v byte is =
    let all = all_below_at (λ c. is_of c (symbol_value c)) 256 c values-all byte in
    let here : is_of c (Some v) ≡ true = ap (λ (o : Option ℕ). is_of c o) (sym is) ∙ all in
    let parts = and_parts (nat_lt v 64) (slice_index (engine_symbols standard) v == c) here in
    (ltb-true v 64 parts.0, eqb-true (slice_index (engine_symbols standard) v) c parts.1)

-- ---- a block

length-joined : (values : List ℕ) → length (joined_groups values) % 3 ≡ 0
length-joined [] = refl
length-joined (a ∷ []) = refl
length-joined (a ∷ b ∷ []) = refl
length-joined (a ∷ b ∷ c ∷ []) = refl
length-joined (a ∷ b ∷ c ∷ d ∷ rest) = let more = length-joined rest in omega arith

-- values of symbols have six bits
pub values-small : (text values : List ℕ) → IsBytes text → AreSixBits text values → Each1 (λ (v : ℕ). v < 64) values
values-small text [] bytes are = tt
values-small [] (v ∷ values) bytes are = absurd (cc)
values-small (c ∷ text) (v ∷ values) bytes are =
    let value : symbol_value c ≡ Some v = cc in
    let left : AreSixBits text values = cc in
    ((symbol-at c v (bytes 0) value).0, values-small text values (λ i. bytes (suc i)) left)

-- four values give their symbols back
group-encoded : (t rest : List ℕ) (a b c d : ℕ) → a < 64 → b < 64 → c < 64 → d < 64
    → encode_symbols t ((a * 4 + b / 16) ∷ (b % 16 * 16 + c / 4) ∷ (c % 4 * 64 + d) ∷ rest)
    ≡ slice_index t a ∷ slice_index t b ∷ slice_index t c ∷ slice_index t d ∷ encode_symbols t rest
unfolding encode_symbols
group-encoded t rest a b c d la lb lc ld =
    let e0 : (a * 4 + b / 16) / 4 ≡ a = omega arith in
    let e1 : (a * 4 + b / 16) % 4 * 16 + (b % 16 * 16 + c / 4) / 16 ≡ b = omega arith in
    let e2 : (b % 16 * 16 + c / 4) % 16 * 4 + (c % 4 * 64 + d) / 64 ≡ c = omega arith in
    let e3 : (c % 4 * 64 + d) % 64 ≡ d = omega arith in
    rw (e0, e1, e2, e3) refl

symbols-joined : (text values : List ℕ) → IsBytes text → length text % 4 ≡ 0 → AreSixBits text values
    → text ≡ encode_symbols (engine_symbols standard) (joined_groups values)
unfolding encode_symbols
symbols-joined [] [] bytes whole are = refl
symbols-joined [] (v ∷ values) bytes whole are = absurd (cc)
symbols-joined (a ∷ []) values bytes whole are = absurd (omega arith)
symbols-joined (a ∷ b ∷ []) values bytes whole are = absurd (omega arith)
symbols-joined (a ∷ b ∷ c ∷ []) values bytes whole are = absurd (omega arith)
symbols-joined (a ∷ b ∷ c ∷ d ∷ text) [] bytes whole are = absurd (cc)
symbols-joined (a ∷ b ∷ c ∷ d ∷ text) (p ∷ []) bytes whole are = absurd (cc)
symbols-joined (a ∷ b ∷ c ∷ d ∷ text) (p ∷ q ∷ []) bytes whole are = absurd (cc)
symbols-joined (a ∷ b ∷ c ∷ d ∷ text) (p ∷ q ∷ r ∷ []) bytes whole are = absurd (cc)
symbols-joined (a ∷ b ∷ c ∷ d ∷ text) (p ∷ q ∷ r ∷ s ∷ values) bytes whole are =
    let first : symbol_value a ≡ Some p = cc in
    let second : symbol_value b ≡ Some q = cc in
    let third : symbol_value c ≡ Some r = cc in
    let fourth : symbol_value d ≡ Some s = cc in
    let left : AreSixBits text values = cc in
    let is-p = symbol-at a p (bytes 0) first in
    let is-q = symbol-at b q (bytes 1) second in
    let is-r = symbol-at c r (bytes 2) third in
    let is-s = symbol-at d s (bytes 3) fourth in
    let rest = symbols-joined text values (λ i. bytes (suc (suc (suc (suc i))))) (omega arith) left in
    let group = group-encoded (engine_symbols standard) (joined_groups values) p q r s is-p.0 is-q.0 is-r.0 is-s.0 in
    rw (group, is-p.1, is-q.1, is-r.1, is-s.1, ← rest) refl

-- a block of symbols is the encoding of the bytes that their values make
pub encoded-block : (text values : List ℕ) → IsBytes text → length text % 4 ≡ 0 → AreSixBits text values
    → text ≡ encode_of standard (joined_groups values)
encoded-block text values bytes whole are =
    symbols-joined text values bytes whole are ∙ sym (encode-whole (joined_groups values) (length-joined values))

-- n characters more are the encoding of some bytes more
pub encoded-more : (text bytes more : List ℕ) (m n : ℕ) → length bytes % 3 ≡ 0
    → take m text ≡ encode_of standard bytes → take n (drop m text) ≡ encode_of standard more
    → take (m + n) text ≡ encode_of standard (bytes ++ more)
encoded-more text bytes more m n whole first second =
    take-add m n text ∙ rw (first, second) (sym (encode_of-append standard bytes more whole))

-- ---- blocks at the front of a text, and the rest

-- what the rest spells is spelled behind the blocks
both-spelled : (text front bytes : List ℕ) (m : ℕ) → IsBytes text → IsBytes (front ++ bytes) → length front % 3 ≡ 0
    → take m text ≡ encode_of standard front → base64_spells (drop m text) ≡ Ok bytes
    → base64_spells text ≡ Ok (front ++ bytes)
both-spelled text front bytes m are both whole first second =
    let rest = (one_encoding (drop m text) (IsBytes-drop m text are) bytes (spelled-base64 _ bytes second)).0 second in
    let all : text ≡ encode_of standard (front ++ bytes) =
    sym (take-append-drop m text) ∙ rw (first, rest) (sym (encode_of-append standard front bytes whole)) in
    (one_encoding text are (front ++ bytes) both).1 all

-- the encoding of more bytes than some groups, from these groups on
drop-encoding : (bytes : List ℕ) (q : ℕ) → 3 * q ≤ length bytes
    → drop (4 * q) (encode_of standard bytes) ≡ encode_of standard (drop (3 * q) bytes)
drop-encoding bytes q within =
    let left = length-drop (3 * q) bytes in
    let same : padding_len (length bytes) ≡ padding_len (length (drop (3 * q) bytes)) = omega (arith, left, within) in
    drop_encoded (engine_symbols standard) bytes (replicate (padding_len (length bytes)) 61) q within
    ∙ ap (λ (n : ℕ). encode_symbols (engine_symbols standard) (drop (3 * q) bytes) ++ replicate n 61) same

length-encoding : (bytes : List ℕ) (q : ℕ) → length bytes < 3 * q → length (encode_of standard bytes) ≤ 4 * q
length-encoding bytes q few =
    let symbols = encode_symbols (engine_symbols standard) bytes in
    let size : length symbols ≡ unpadded_len (length bytes) = length-encode_symbols (engine_symbols standard) bytes in
    let padding = length-replicate {A = ℕ} (padding_len (length bytes)) 61 in
    omega (arith, length-append symbols (replicate (padding_len (length bytes)) 61), size, padding)

spells-nothing : base64_spells [] ≡ Ok []
spells-nothing = (one_encoding [] (λ i. omega arith) [] (λ i. omega arith)).1 (sym (encode_of-nil standard))

-- what is left of a text of base64 behind some groups is base64
rest-spelled : (text bytes : List ℕ) (q : ℕ) → IsBytes text → base64_spells text ≡ Ok bytes
    → (base64_spells (drop (4 * q) text) ≡ Ok (drop (3 * q) bytes)) ⊎ (base64_spells (drop (4 * q) text) ≡ Ok [])
rest-spelled text bytes q are spelled =
    let out = spelled-base64 text bytes spelled in
    let is = (one_encoding text are bytes out).0 spelled in
    elim (cases_lt (length bytes) (3 * q)) [
      | inl few ↦
          let none : drop (4 * q) text ≡ [] =
          drop_all (4 * q) text (omega (arith, ap length is, length-encoding bytes q few)) in
          inr (rw none spells-nothing)
      | inr enough ↦
          let left = ap (λ (xs : List ℕ). drop (4 * q) xs) is ∙ drop-encoding bytes q enough in
          inl ((one_encoding (drop (4 * q) text) (IsBytes-drop (4 * q) text are) (drop (3 * q) bytes)
          (IsBytes-drop (3 * q) bytes out)).1 left)
    ]

rest-wrong : (text bytes : List ℕ) (fault : TextFault) (q : ℕ) → IsBytes text
    → base64_spells (drop (4 * q) text) ≡ Err fault → base64_spells text ≡ Ok bytes → ⊥
rest-wrong text bytes fault q are wrong spelled = elim (rest-spelled text bytes q are spelled) [
  | inl e ↦ cc
  | inr e ↦ cc
]

both-wrong : (r s : Result (List ℕ) TextFault) (text : List ℕ) (fault : TextFault) (q : ℕ) → IsBytes text
    → base64_spells (drop (4 * q) text) ≡ Err fault → base64_spells text ≡ r → r ≡ Err fault
both-wrong (Ok bytes) s text fault q are wrong e = absurd (rest-wrong text bytes fault q are wrong e)
both-wrong (Err other) s text fault q are wrong e =
    let same : other ≡ fault = wrong-base64 text other e ∙ sym (wrong-base64 _ fault wrong) in
    ap (λ (f : TextFault). Err f) same

-- decoding that answers a count has left what the text spells
abbrev pub Left : Result (List ℕ) TextFault → List ℕ → Result ℕ TextFault → Type 0
Left spelled new result =
    MatchResult spelled (λ bytes. (result ≡ Ok (length bytes)) × (take (length bytes) new ≡ bytes))
    (λ fault. result ≡ Err fault)

left-ok : (spelled : Result (List ℕ) TextFault) (new : List ℕ) (n : ℕ) → Left spelled new (Ok n) → n ≤ length new
    → spelled ≡ Ok (take n new)
left-ok (Ok bytes) new n h room = let same : n ≡ length bytes = cc in rw (same, h.1) refl
left-ok (Err fault) new n h room = absurd (cc)

left-err : (spelled : Result (List ℕ) TextFault) (new : List ℕ) (fault : TextFault) → Left spelled new (Err fault)
    → spelled ≡ Err fault
left-err (Ok bytes) new fault h = absurd (cc)
left-err (Err other) new fault h =
    let same : other ≡ fault = cc in
    ap (λ (f : TextFault). Err f) same

-- blocks are decoded, and the rest behind them
pub decoded-both : (text cells part : List ℕ) (k q n : ℕ) → IsBytes text → IsBytes (put_mid (3 * q) k cells part)
    → 3 * q ≤ length cells → n ≤ length part → take (4 * q) text ≡ encode_of standard (take (3 * q) cells)
    → Left (base64_spells (drop (4 * q) text)) part (Ok n)
    → Left (base64_spells text) (put_mid (3 * q) k cells part) (Ok (3 * q + n))
decoded-both text cells part k q n are new within few first rest =
    let whole = length-take-le (3 * q) cells within in
    let size = length-take-le n part few in
    let front = front-of-part (3 * q) k n cells part within few in
    let both : IsBytes (take (3 * q) cells ++ take n part) = subst IsBytes front (IsBytes-take (3 * q + n) _ new) in
    let spelled = both-spelled text (take (3 * q) cells) (take n part) (4 * q) are both (omega (arith, whole)) first
    (left-ok _ part n rest few) in
    let long : length (take (3 * q) cells ++ take n part) ≡ 3 * q + n =
    omega (arith, length-append (take (3 * q) cells) (take n part), whole, size) in
    rw (spelled, long) (refl, front)

pub wrong-both : (text new other : List ℕ) (q : ℕ) (fault : TextFault) → IsBytes text
    → Left (base64_spells (drop (4 * q) text)) other (Err fault) → Left (base64_spells text) new (Err fault)
wrong-both text new other q fault are rest =
    let wrong = both-wrong (base64_spells text) (Ok []) text fault q are (left-err _ other fault rest) refl in
    rw wrong refl
