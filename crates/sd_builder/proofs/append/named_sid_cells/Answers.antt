use Rattle.std.proofs.Common.{◌≡◌, ◌≤◌, ℕ, zero, suc, ◌+◌, ◌*◌, List, [], ◌∷◌, ◌++◌, length, take, get_or, refl, arith}
use Rattle.std.specs.List.{flat_map}
use Rattle.byteorder.specs.Endian.{big_bytes, little_bytes}
use Rattle.sd_builder.proofs.append.named_sid_cells.Goals as goal

-- the header, two numbers, and as many of them as the SID has
of-two : (authority count : ℕ) (subs : List ℕ) → count ≤ 2 → 2 ≤ length subs
    → take (8 + 4 * length (take count subs)) ((1 ∷ count ∷ big_bytes 6 authority)
    ++ (little_bytes 4 (get_or subs 0 0) ++ little_bytes 4 (get_or subs 1 0)))
    ≡ 1 ∷ length (take count subs) ∷ big_bytes 6 authority ++ flat_map (little_bytes 4) (take count subs)
of-two authority zero (x ∷ y ∷ rest) few long = refl
of-two authority (suc zero) (x ∷ y ∷ rest) few long = refl
of-two authority (suc (suc zero)) (x ∷ y ∷ rest) few long = refl
of-two authority (suc (suc (suc n))) subs few long = absurd (omega (arith, few))
of-two authority count [] few long = absurd (omega (arith, long))
of-two authority count (x ∷ []) few long = absurd (omega (arith, long))

pub returns : goal.returns
returns c =
    let name = c.args.name.now in
    rw (
      c.copy_from_slice.ensures.after,
      c.copy_from_slice-2.ensures.after,
      c.copy_from_slice-3.ensures.after,
      c.sid_header.ensures,
      c.to_le_bytes.ensures,
      c.to_le_bytes-2.ensures,
    )
    (of-two name.authority name.count name.subs c.requires (omega arith))
