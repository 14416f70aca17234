use Rattle.std.proofs.Common.{refl}
use Rattle.sd_builder.proofs.Building.{new-builds}
use Rattle.sd_builder.proofs.builder.Builder.new.Goals as goal

pub returns : goal.returns
returns c = record {
  value =
      rw (c.append.ensures, c.clear.ensures, c.each.ensures) (new-builds _ refl);
}
