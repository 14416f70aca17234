use Rattle.std.proofs.Common.{arith}
use Rattle.std.proofs.lemmas.Slice.{drop-put_mid}
use Rattle.sd_buffer.proofs.buffer.write_at.Goals as goal

pub returns-clause-rest : goal.returns-clause-rest
returns-clause-rest c =
    let n = c.args.at in
    let k = c.args.bytes.now in
    drop-put_mid n _ c.args.cells.now _ _ (omega arith) (omega arith) (omega (arith, c.copy_from_slice.auto.self))
