use Rattle.std.proofs.Common.{◌≡◌, Result, Ok, Err, MatchResult, ap, sym, refl}
use Rattle.sd_sid.specs.Sid.{SecurityId}
use Rattle.sd_sid.specs.Inner.Read.{IsRead}
use Rattle.sd_sid.specs.declared.sid_text.SidFault.{SidFault}
use Rattle.sd_sid.proofs.sid.Sid.read_front.Goals as goal

stands : (read : Result SecurityId SidFault) (result : Result (Unit {0}) SidFault) (new : SecurityId)
    → IsRead read result new → MatchResult result (λ _. read ≡ Ok new) (λ fault. read ≡ Err fault)
stands (Ok s) result new h = rw h.0 (ap Ok (sym h.1))
stands (Err fault) result new h = rw h refl

pub returns-clause-exact : goal.returns-clause-exact
returns-clause-exact c = stands _ _ _ c.read_front.ensures.read
