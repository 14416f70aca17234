use Rattle.std.proofs.Common.{◌≡◌, ◌==◌, ◌∙◌, ℕ, zero, suc, cond, eqb, not, refl, ap, arith, take, w8}
use Rattle.std.proofs.Math.Dec.{eqb-suc-zero}
use Rattle.std.proofs.lemmas.List.{take_all}
use Rattle.std.proofs.lemmas.Simd.{bitmask_splat, first_set_mask_l, length-chunk}
use Rattle.std.specs.Int.Count.{count_trailing_zeros, trailing_of_zero}
use Rattle.std.specs.List.{prefix_len}
use Rattle.sd_run.proofs.feed.before_lf.Goals as goal

-- no bit of zero is set
lowest : (n : ℕ) → count_trailing_zeros 64 n ≡ cond (eqb n 0) 64 (count_trailing_zeros 64 n)
lowest zero = trailing_of_zero 64
lowest (suc n) = rw (eqb-suc-zero n) refl

pub returns : goal.returns
returns c =
    let block = c.args.block.now in
    let lanes = take 64 block in
    let same : lanes ≡ block = take_all 64 block (omega (arith, c.requires)) in
    let long = length-chunk 0 64 block (omega (arith, c.requires)) in
    let mask = bitmask_splat w8 (λ (a b : ℕ). a == b) lanes 64 10 long (omega arith) in
    let first = first_set_mask_l (λ (b : ℕ). b == 10) lanes 64 long (omega arith) in
    ap (count_trailing_zeros 64) mask ∙ lowest _ ∙ first ∙ ap (prefix_len (λ (b : ℕ). not (b == 10))) same
