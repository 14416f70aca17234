use Rattle.std.proofs.Common.{◌≡◌, ◌≤◌, ◌+◌, ◌-◌, ◌||◌, length}
use Rattle.sd_acl_view.specs.Acl.{acl_size, aces_size, has_object}
use Rattle.sd_acl_view.specs.AclReading.{aces_fault, aces_of}
use Rattle.sd_acl_view.proofs.acl.check_aces.Given as goal

abbrev pub invariant-loop : goal.invariant-loop
invariant-loop l =
    (aces_fault (l.count - l.counter) l.left ≡ aces_fault l.count l.bytes)
    × (l.size + aces_size (aces_of (l.count - l.counter) l.left) ≡ acl_size (aces_of l.count l.bytes))
    × (l.object || has_object (aces_of (l.count - l.counter) l.left) ≡ has_object (aces_of l.count l.bytes))
    × (l.size + length l.left ≤ 8 + length l.bytes)
