use Rattle.std.proofs.Common.{◌≡◌, take}
use Rattle.sd_sid.proofs.sid.Sid.set.Given as goal

abbrev pub invariant-loop-sub : goal.invariant-loop-sub
invariant-loop-sub l = l.self ≡ record { authority = l.authority; subs = take l.sub-index l.subs }
