-- A list with one ACE more.
use Rattle.std.proofs.Common.{◌≡◌, ◌+◌, List, [], ◌∷◌, ◌++◌, arith}
use Rattle.std.specs.List.{AllByRecursion}
use Rattle.sd_ace.specs.Ace.{AccessControlEntry, IsAce, ace_size}
use Rattle.sd_acl_view.specs.Acl.{aces_size}

pub all-more : (aces : List AccessControlEntry) (a : AccessControlEntry) → AllByRecursion IsAce aces → IsAce a
    → AllByRecursion IsAce (aces ++ a ∷ [])
all-more [] a h more = (more, tt)
all-more (x ∷ others) a h more = (h.0, all-more others a h.1 more)

pub size-more : (aces : List AccessControlEntry) (a : AccessControlEntry)
    → aces_size (aces ++ a ∷ []) ≡ aces_size aces + ace_size a
size-more [] a = omega arith
size-more (x ∷ others) a = omega (arith, size-more others a)
