use Rattle.std.proofs.Common.{arith}
use Rattle.sd_sid.proofs.Words.{AreWords-take}
use Rattle.sd_sid.specs.Inner.SidFields.{kept_length}
use Rattle.sd_sid.proofs.sid.Sid.authority.Goals as goal

pub returns-clause-limits : goal.returns-clause-limits
returns-clause-limits c =
    let h = c.self.invariant in
    let n = kept_length c.self.inside.count c.self.inside.subs h.1 h.2 in
    rw (← c.self.view_is) (record {
      authority = h.0;
      count = omega (arith, n, h.1);
      subs = AreWords-take c.self.inside.count c.self.inside.subs h.4;
    })
