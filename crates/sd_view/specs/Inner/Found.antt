-- What the check of some bytes found, which is kept for the views of them.
use Rattle.std.specs.Prelude.{false}
use Rattle.sd_acl_view.specs.Acl.{acl_size, has_object}
use Rattle.sd_view.specs.Descriptor.{Descriptor}
use Rattle.sd_view.specs.declared.acl_part.AclPart.{AclPart}
use Rattle.sd_view.specs.declared.acl_part.AclPart.TheVariants as acl
use Rattle.sd_acl_view.specs.declared.acl.Written.{Written}
use Rattle.sd_view.specs.declared.view.Acls.{Acls}

-- what the front of a written ACL is made from, besides the count: its size, and whether an object ACE
-- stands in it
abbrev pub written_of : AclPart → Written
written_of acl.Absent = record { size = 0; object = false }
written_of acl.Null = record { size = 0; object = false }
written_of (acl.List aces) = record { size = acl_size aces; object = has_object aces }

abbrev pub shown_written : Descriptor → Acls
shown_written d = record { sacl = written_of d.sacl; dacl = written_of d.dacl }
