-- The headers of ACLs that are lists.
use Rattle.std.proofs.Common.{◌≡◌, ◌<◌, ◌∙◌, ◌∷◌, ◌++◌, [], ℕ, Bool, List, length, refl, arith}
use Rattle.byteorder.specs.Endian.{little_bytes}
use Rattle.sd_ace.specs.Ace.{AccessControlEntry}
use Rattle.sd_acl_view.specs.Acl.{acl_size, has_object}
use Rattle.sd_acl_view.specs.AclLayout.{acl_header, revision_if}
use Rattle.sd_acl_view.proofs.laws.AclLayoutSizes.{aces-many}

-- an ACL that fits has few ACEs
pub few : (aces : List AccessControlEntry) → acl_size aces < 65536 → length aces < 65536
few aces h = omega (arith, (aces-many aces).1, h)

-- the header by what is known of the ACEs
pub header_by : (bytes : List ℕ) (object : Bool) (size count : ℕ) (aces : List AccessControlEntry)
    → bytes ≡ revision_if object ∷ 0 ∷ little_bytes 2 size ++ (little_bytes 2 count ++ (0 ∷ 0 ∷ []))
    → object ≡ has_object aces → size ≡ acl_size aces → count ≡ length aces → bytes ≡ acl_header aces
header_by bytes object size count aces is o s n = is ∙ rw (o, s, n) refl
