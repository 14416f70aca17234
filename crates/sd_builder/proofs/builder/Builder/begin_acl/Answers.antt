use Rattle.std.proofs.Common.{arith, refl}
use Rattle.sd_builder.proofs.Building.{begin-builds, begin-room}
use Rattle.sd_builder.proofs.builder.Builder.begin_acl.Goals as goal

pub append-requires : goal.append-requires
append-requires c = (omega arith, begin-room _ _ c.args.which c.requires.0 c.requires.1 c.requires.2)

pub returns : goal.returns
returns c = record {
  value =
      λ t h.
      rw (c.append.ensures, c.bytes.ensures.value)
      (begin-builds _ _ _ c.args.which c.requires.0 t c.requires.1 c.requires.2 refl h);
}
