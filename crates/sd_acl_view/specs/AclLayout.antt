-- The one written form of an ACL (MS-DTYP 2.4.5).
use Rattle.std.specs.Prelude.{ℕ, List, [], ◌∷◌, ◌++◌, length, Bool, true, false}
use Rattle.std.specs.List.{flat_map}
use Rattle.byteorder.specs.Endian.{little_bytes}
use Rattle.sd_ace.specs.Ace.{AccessControlEntry}
use Rattle.sd_ace.specs.AceLayout.{ace_bytes}
use Rattle.sd_acl_view.specs.Acl.{acl_size, has_object}

-- revision 4 exactly where an object ACE stands
abbrev pub revision_if : Bool → ℕ
revision_if true = 4
revision_if false = 2

-- revision, Sbz1, size, count, Sbz2
abbrev pub acl_header : List AccessControlEntry → List ℕ
acl_header aces = revision_if (has_object aces) ∷ 0 ∷ little_bytes 2 (acl_size aces)
    ++ (little_bytes 2 (length aces) ++ (0 ∷ 0 ∷ []))

-- the header and the ACEs, one after the other
abbrev pub acl_bytes : List AccessControlEntry → List ℕ
acl_bytes aces = acl_header aces ++ flat_map ace_bytes aces
