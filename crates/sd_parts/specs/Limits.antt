-- The sizes of the parts of a descriptor and the revisions of ACLs, in numbers: the constants of src/limits.rt.
use Rattle.std.specs.Prelude.{◌≡◌}
use Rattle.sd_parts.specs.declared.limits.TheConstants.{ACL_HEADER_SIZE, ACL_REVISION, ACL_REVISION_DS, CAPACITY}
use Rattle.sd_parts.specs.declared.limits.TheConstants.{HEADER_SIZE, MOST_ACL_SIZE, MOST_SID_SIZE, SID_HEADER_SIZE}

-- what the constants are
pub record AreLimits : Type 0 where
  -- 2.4.6: revision, Sbz1, control word and four offsets
  pub header : HEADER_SIZE ≡ 20
  -- 2.4.2.2: a SID without sub-authorities, and with 15
  pub sid_header : SID_HEADER_SIZE ≡ 8
  pub most_sid : MOST_SID_SIZE ≡ 68
  -- 2.4.5: an ACL without ACEs, and the most that its size field can say
  pub acl_header : ACL_HEADER_SIZE ≡ 8
  pub most_acl : MOST_ACL_SIZE ≡ 65535
  -- 2.4.5: ACL_REVISION, and ACL_REVISION_DS, which object ACEs need
  pub revision : ACL_REVISION ≡ 2
  pub object_revision : ACL_REVISION_DS ≡ 4
  -- a header, two SIDs and two ACLs, each of the largest size
  pub capacity : CAPACITY ≡ 131226
