-- The sizes of SIDs.
use Rattle.std.proofs.Common.{◌≤◌, ℕ, List, length, ap, length-append, arith}
use Rattle.sd_sid.specs.Sid.{BeginsWithSid, SecurityId, sid_bytes, sid_size}
use Rattle.sd_sid.proofs.laws.SidLaws.{length-sid_bytes}

-- a SID is no longer than the bytes that begin with it
pub sid_fits : (bytes : List ℕ) (s : SecurityId) → BeginsWithSid bytes s → sid_size s ≤ length bytes
sid_fits bytes s h =
    omega (arith, ap (λ (xs : List ℕ). length xs) h.shape, length-append (sid_bytes s) h.rest, length-sid_bytes s)
