use Rattle.std.proofs.Common.{◌≡◌, length, arith}
use Rattle.uuid.proofs.RoundTrips.{swap_twice}
use Rattle.sd_ace.proofs.guid.guid_bytes.Goals as goal

pub returns-clause-back : goal.returns-clause-back
returns-clause-back c =
    let size : length c.args.guid.now ≡ 16 = rw (← c.into_bytes.ensures) (omega arith) in
    rw c.to_bytes_le.ensures (swap_twice c.args.guid.now size)
