-- The base64 of some bytes, piece by piece and how long it is.
use Rattle.std.proofs.Common.{◌≡◌, ◌≤◌, ℕ, ◌+◌, ◌*◌, ◌-◌, ◌%◌, true}
use Rattle.std.proofs.Common.{List, [], ◌∷◌, ◌++◌, length, take, drop, replicate, ap, ◌∙◌, arith}
use Rattle.std.proofs.Math.Seq.{take-add}
use Rattle.std.proofs.lemmas.List.{length-append, length-replicate, length-take-le}
use Rattle.base64.proofs.EngineFacts.{encode_of-append}
use Rattle.base64.specs.Engines.{standard}
use Rattle.base64.specs.GeneralPurpose.{encode_of}
use Rattle.base64.specs.Rfc4648.{encode, encode_symbols, padding_len}
use Rattle.base64.specs.declared.engine.general_purpose.GeneralPurpose.{GeneralPurpose}
use Rattle.sd_sink.proofs.laws.PrintLemmas.{prints_then}
use Rattle.sd_sink.specs.Print.{PrintTold, Prints}

symbols-short : (t m : List ℕ) → length (encode_symbols t m) ≤ 2 * length m
unfolding encode_symbols
symbols-short t [] = omega arith
symbols-short t (a ∷ []) = omega arith
symbols-short t (a ∷ b ∷ []) = omega arith
symbols-short t (a ∷ b ∷ c ∷ rest) = let more = symbols-short t rest in omega arith

encode-short : (t m : List ℕ) (pad : ℕ) → length (encode t pad true m) ≤ 2 * length m + 2
encode-short t m pad =
    let symbols = symbols-short t m in
    omega (
      arith,
      length-append (encode_symbols t m) (replicate (padding_len (length m)) pad),
      length-replicate (padding_len (length m)) pad,
    )

-- at most two characters a byte, and two
pub base64-short : (m : List ℕ) → length (encode_of standard m) ≤ 2 * length m + 2
base64-short m = encode-short _ m _

pub encode-piece : (e : GeneralPurpose) (bytes : List ℕ) (at n : ℕ) → at ≤ length bytes → at % 3 ≡ 0
    → encode_of e (take (at + n) bytes) ≡ encode_of e (take at bytes) ++ encode_of e (take n (drop at bytes))
encode-piece e bytes at n within whole =
    let long = length-take-le at bytes within in
    ap (encode_of e) (take-add at n bytes) ∙ encode_of-append e (take at bytes) (take n (drop at bytes)) (rw long whole)

-- a piece more, where those before it are of a multiple of three bytes
pub Prints-base64 : (a b c : PrintTold) (bytes text : List ℕ) (at n : ℕ) → at ≤ length bytes → at % 3 ≡ 0
    → text ≡ encode_of standard (take (at + n - at) (drop at bytes))
    → Prints a b (encode_of standard (take at bytes)) → Prints b c text
    → Prints a c (encode_of standard (take (at + n) bytes))
Prints-base64 a b c bytes text at n within whole is p q =
    let piece : at + n - at ≡ n = omega arith in
    let same : text ≡ encode_of standard (take n (drop at bytes)) = rw piece at is in
    rw (encode-piece standard bytes at n within whole, ← same) (prints_then p q)
