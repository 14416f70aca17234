use Rattle.std.proofs.Common.{◌≡◌, ◌<◌, ◌^◌, take, map}
use Rattle.sd_acl_view.specs.Acl.{acl_size}
use Rattle.sd_call_build.specs.New.{shown_ace}
use Rattle.sd_call_build.proofs.sizes.acl_size.Given as goal

abbrev pub invariant-loop-new : goal.invariant-loop-new
invariant-loop-new l = record {
  size : l.size ≡ acl_size (map shown_ace (take l.new-index l.aces));
  small : l.size < 2 ^ 16;
}
