use Rattle.std.proofs.Common.{◌≡◌, ◌<◌, arith, ◌∙◌, length}
use Rattle.std.proofs.lemmas.List.{length-set, length-take-le}
use Rattle.sd_sid.proofs.Words.{AreWords-set, zeros-after}
use Rattle.sd_sid.proofs.sid.Sid.push.Goals as goal

pub invariant_of-self : goal.invariant_of-self
invariant_of-self c =
    let sid = c.self.inside in
    let i = c.self.invariant in
    let kept : length c.args.self.now.subs ≡ sid.count = rw (← c.self.view_is)
    (length-take-le sid.count sid.subs (omega arith)) in
    let room : sid.count < 15 = omega (arith, kept, c.requires) in (
      i.0,
      omega arith,
      length-set sid.subs sid.count c.args.sub ∙ i.2,
      zeros-after sid.count c.args.sub sid.subs room i.2 i.3,
      AreWords-set sid.subs sid.count c.args.sub c.ranges.sub.fits i.4,
    )
