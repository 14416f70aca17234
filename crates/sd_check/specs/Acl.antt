-- The ACEs of an ACL, whether it is there or not.
use Rattle.std.specs.Prelude.{List, []}
use Rattle.sd_ace.specs.Ace.{AccessControlEntry}
use Rattle.sd_view.specs.declared.acl_part.AclPart.{AclPart}
use Rattle.sd_view.specs.declared.acl_part.AclPart.TheVariants as acl

-- an ACL that is absent or null lists none
abbrev pub listed_aces : AclPart → List AccessControlEntry
listed_aces acl.Absent = []
listed_aces acl.Null = []
listed_aces (acl.List aces) = aces
