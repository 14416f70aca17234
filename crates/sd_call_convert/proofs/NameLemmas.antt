-- No text of a SID is longer than 183 characters.
use Rattle.std.proofs.Common.{◌≤◌, length, arith}
use Rattle.sd_sid.specs.Sid.{IsSid, SecurityId}
use Rattle.sd_sid.specs.SidText.{sid_text}
use Rattle.sd_sid.proofs.laws.TextLaws.{length-sid_text}

pub text_short : (s : SecurityId) → IsSid s → length (sid_text s) ≤ 183
text_short s h = omega (arith, length-sid_text s h, h.count)
