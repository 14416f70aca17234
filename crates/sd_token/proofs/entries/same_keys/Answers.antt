use Rattle.std.proofs.Common.{◌==◌, ℕ, arith, w32}
use Rattle.std.proofs.lemmas.Simd.{bitmask_splat, length-chunk}
use Rattle.std.specs.Simd.Lanes.{chunk}
use Rattle.sd_token.proofs.entries.same_keys.Goals as goal

pub returns : goal.returns
returns c =
    let keys = c.args.keys.now in
    bitmask_splat w32 (λ (a b : ℕ). a == b) (chunk c.args.at 16 keys) 16 c.args.key
    (length-chunk c.args.at 16 keys c.requires) (omega arith)
