use Rattle.std.proofs.Common.{◌≡◌, ◌-◌, None}
use Rattle.sd_acl_view.specs.AclReading.{aces_fault}
use Rattle.sd_acl_view.specs.Inner.Written.{all_named_flags}
use Rattle.sd_acl_view.proofs.written_acl.have_named_flags.Given as goal

abbrev pub invariant-loop : goal.invariant-loop
invariant-loop l = record {
  sound : aces_fault (l.count - l.counter) l.left ≡ None;
  named : all_named_flags (l.count - l.counter) l.left ≡ all_named_flags l.count l.bytes;
}
