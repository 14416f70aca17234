use Rattle.std.proofs.Common.{arith}
use Rattle.uuid.proofs.RoundTrips.{swap_twice}
use Rattle.sd_ace.proofs.guid.guid_read.Goals as goal

pub returns-clause-back : goal.returns-clause-back
returns-clause-back c = rw c.from_bytes_le.ensures (swap_twice c.args.bytes.now (omega arith))
