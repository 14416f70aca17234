use Rattle.sd_builder.proofs.Building.{null-builds}
use Rattle.sd_builder.proofs.builder.Builder.null_acl.Goals as goal

pub returns : goal.returns
returns c = record {
  value =
      λ t h. rw (c.keep.ensures, c.into.ensures)
      (null-builds _ _ c.args.which c.requires.0 t c.requires.1 c.requires.2 h);
}
