use Rattle.std.proofs.Common.{◌≡◌, ◌<◌, ℕ, ◌/◌, ◌%◌, [], ◌∷◌, refl, arith}
use Rattle.byteorder.specs.Endian.{big_bytes}
use Rattle.sd_builder.proofs.append.sid_header.Goals as goal

-- a number of one byte has no other
one-byte : (a : ℕ) → a < 256 → big_bytes 6 a ≡ 0 ∷ 0 ∷ 0 ∷ 0 ∷ 0 ∷ a ∷ []
one-byte a small =
    let first : a / 1099511627776 % 256 ≡ 0 = omega (arith, small) in
    let second : a / 4294967296 % 256 ≡ 0 = omega (arith, small) in
    let third : a / 16777216 % 256 ≡ 0 = omega (arith, small) in
    let fourth : a / 65536 % 256 ≡ 0 = omega (arith, small) in
    let fifth : a / 256 % 256 ≡ 0 = omega (arith, small) in
    let last : a % 256 ≡ a = omega (arith, small) in
    rw (first, second, third, fourth, fifth, last) refl

pub returns : goal.returns
returns c = rw (one-byte c.args.authority (omega arith)) refl
