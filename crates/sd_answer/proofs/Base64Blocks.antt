-- The base64 of some bytes, block by block.
use Rattle.std.proofs.Common.{◌≡◌, ◌≤◌, ℕ, ◌+◌, ◌%◌, length, List, ◌++◌, take, drop, sym, ap, ◌∙◌}
use Rattle.std.proofs.lemmas.List.{length-take-le, take-append-drop}
use Rattle.base64.proofs.EngineFacts.{encode_of-append}
use Rattle.base64.specs.Engines.{standard}
use Rattle.base64.specs.GeneralPurpose.{encode_of}
use Rattle.sd_answer.proofs.Base64Lemmas.{encode-piece}

-- a block of bytes more is written
pub encode-block : (bytes old new : List ℕ) (at n : ℕ) → at ≤ length bytes → at % 3 ≡ 0
    → old ≡ encode_of standard (take at bytes) → new ≡ encode_of standard (take n (drop at bytes))
    → old ++ new ≡ encode_of standard (take (at + n) bytes)
encode-block bytes old new at n within whole is-old is-new =
    rw (is-old, is-new) (sym (encode-piece standard bytes at n within whole))

-- what is left of the bytes is written
pub encode-left : (bytes old new : List ℕ) (at : ℕ) → at ≤ length bytes → at % 3 ≡ 0
    → old ≡ encode_of standard (take at bytes) → new ≡ encode_of standard (drop at bytes)
    → old ++ new ≡ encode_of standard bytes
encode-left bytes old new at within whole is-old is-new =
    let long = length-take-le at bytes within in
    rw (is-old, is-new) (
    sym (encode_of-append standard (take at bytes) (drop at bytes) (rw long whole))
    ∙ ap (encode_of standard) (take-append-drop at bytes))
