use Rattle.std.proofs.Common.{◌≡◌, ◌<◌, ◌^◌, take}
use Rattle.sd_acl_view.specs.Acl.{acl_size}
use Rattle.sd_edit.proofs.acl.acl_size.Given as goal

abbrev pub invariant-loop-ace : goal.invariant-loop-ace
invariant-loop-ace l = record {
  size : l.size ≡ acl_size (take l.ace-index l.aces);
  small : l.size < 2 ^ 16;
}
