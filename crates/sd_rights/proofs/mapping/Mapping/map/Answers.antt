use Rattle.std.proofs.Common.{◌<◌, ◌^◌, ◌%◌, arith}
use Rattle.std.proofs.lemmas.Nat.{or_lt}
use Rattle.sd_rights.proofs.mapping.Mapping.map.Goals as goal

pub returns-clause-specific : goal.returns-clause-specific
returns-clause-specific c =
    let kept : c.args.mask % 2 ^ 28 < 2 ^ 28 = omega arith in
    let all : c.mask_if-all.result < 2 ^ 28 = omega arith in
    let execute : c.mask_if-execute.result < 2 ^ 28 = omega arith in
    let write : c.mask_if-write.result < 2 ^ 28 = omega arith in
    let read : c.mask_if-read.result < 2 ^ 28 = omega arith in
    or_lt 28 _ _ (or_lt 28 _ _ (or_lt 28 _ _ (or_lt 28 _ _ kept all) execute) write) read
