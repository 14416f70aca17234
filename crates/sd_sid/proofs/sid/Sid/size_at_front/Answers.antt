use Rattle.std.proofs.Common.{◌≡◌, slice_index, arith}
use Rattle.sd_sid.proofs.laws.SidLaws.{SidStands, sid_at-stands}
use Rattle.sd_sid.proofs.sid.Sid.size_at_front.Goals as goal

pub returns-clause-found : goal.returns-clause-found
returns-clause-found c =
    let bytes = c.args.bytes.now in
    let count : c.from-count.result ≡ slice_index bytes 1 = c.from-count.ensures in
    let stands : SidStands bytes = record {
      header = omega (arith, c.if-bytes-lt-HEADER_SIZE.false);
      revision = c.if-bytes-ne1.false;
      count = omega (arith, count, c.if-count-gt-MOST_SUBS.false);
      whole = omega (arith, count, c.if-bytes-count.false);
    } in
    rw count (sid_at-stands bytes (λ i. omega (arith, c.type_inv.bytes i)) stands)
