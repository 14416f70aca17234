-- The written form of an ACE or an ACL is as long as its size says.
use Rattle.std.proofs.Common.{◌≡◌, ◌≤◌, ◌<◌, ℕ, ◌+◌, ◌*◌, ◌%◌, ◌^◌, Bool, true, false, cond, List, [], ◌∷◌, ◌++◌}
use Rattle.std.proofs.Common.{length, Option, Some, None, refl, ◌∙◌, arith, length-append}
use Rattle.std.specs.List.{flat_map}
use Rattle.byteorder.specs.Endian.{little_bytes}
use Rattle.sd_ace.specs.Ace.{AccessControlEntry, IsAce, ace_size, guid_size}
use Rattle.sd_kinds.specs.Kinds.{is_object, kind_code}
use Rattle.sd_sid.specs.Sid.{SecurityId, sid_bytes, sid_size}
use Rattle.sd_sid.proofs.laws.SidLaws.{length-sid_bytes}
use Rattle.sd_acl_view.specs.Acl.{IsAcl, acl_size, aces_size}
use Rattle.sd_ace.specs.AceLayout.{ace_bytes, guids, object_flags}
use Rattle.sd_acl_view.specs.AclLayout.{acl_bytes}

-- the bytes of an ACE and the offset of its SID, by whether its kind is one of objects
abbrev pub bytes_by : ℕ → ℕ → ℕ → ℕ → Bool → Option (List ℕ) → Option (List ℕ) → SecurityId → List ℕ
bytes_by kind flags n mask b object inherited s =
    (kind ∷ flags ∷ little_bytes 2 n ++ (little_bytes 4 mask ++ object_flags b object inherited))
    ++ (guids b object inherited ++ sid_bytes s)

abbrev pub front_by : Bool → Option (List ℕ) → Option (List ℕ) → ℕ
front_by b object inherited = cond b (12 + guid_size object + guid_size inherited) 8

length-by : (kind flags n mask : ℕ) (b : Bool) (o i : Option (List ℕ)) (s : SecurityId)
    → length (bytes_by kind flags n mask b o i s) ≡ front_by b o i + sid_size s
length-by kind flags n mask false o i s = omega (arith, length-sid_bytes s)
length-by kind flags n mask true None None s = omega (arith, length-sid_bytes s)
length-by kind flags n mask true None (Some x) s = omega (arith, length-sid_bytes s)
length-by kind flags n mask true (Some x) None s = omega (arith, length-sid_bytes s)
length-by kind flags n mask true (Some x) (Some y) s = omega (arith, length-sid_bytes s)

-- an ACE has as many bytes as its size says
pub length-ace_bytes : (a : AccessControlEntry) → length (ace_bytes a) ≡ ace_size a
length-ace_bytes a = length-by (kind_code a.kind) a.flags (ace_size a) a.mask (is_object a.kind) a.object
    a.inherited a.sid

-- that is at least 16 bytes and at most 112, and a multiple of 4
front-fourth : (b : Bool) (o i : Option (List ℕ)) → (front_by b o i % 4 ≡ 0) × (8 ≤ front_by b o i)
    × (front_by b o i ≤ 44)
front-fourth false o i = (refl, omega arith, omega arith)
front-fourth true None None = (refl, omega arith, omega arith)
front-fourth true None (Some x) = (refl, omega arith, omega arith)
front-fourth true (Some x) None = (refl, omega arith, omega arith)
front-fourth true (Some x) (Some y) = (refl, omega arith, omega arith)

pub ace_size-fourth : (a : AccessControlEntry) → (ace_size a % 4 ≡ 0) × (16 ≤ ace_size a)
ace_size-fourth a =
    let front = front-fourth (is_object a.kind) a.object a.inherited in
    (omega (arith, front.0), omega (arith, front.1))

pub ace_size-small : (a : AccessControlEntry) → IsAce a → ace_size a < 2 ^ 16
ace_size-small a h =
    let front = front-fourth (is_object a.kind) a.object a.inherited in
    omega (arith, front.2, h.sid.count)

-- the same of ACEs one after the other
pub length-aces : (aces : List AccessControlEntry) → length (flat_map ace_bytes aces) ≡ aces_size aces
length-aces [] = refl
length-aces (a ∷ others) = length-append (ace_bytes a) (flat_map ace_bytes others)
    ∙ omega (arith, length-ace_bytes a, length-aces others)

pub aces-many : (aces : List AccessControlEntry) → (aces_size aces % 4 ≡ 0) × (16 * length aces ≤ aces_size aces)
aces-many [] = (refl, omega arith)
aces-many (a ∷ others) =
    let one = ace_size-fourth a in
    let more = aces-many others in
    (omega (arith, one.0, more.0), omega (arith, one.1, more.1))

-- an ACL has as many bytes as its size says
pub length-acl_bytes : (aces : List AccessControlEntry) → length (acl_bytes aces) ≡ acl_size aces
length-acl_bytes aces = omega (arith, length-aces aces)

-- they are a multiple of 4, and so at most 65,532
pub acl_size-fourth : (aces : List AccessControlEntry) → acl_size aces % 4 ≡ 0
acl_size-fourth aces = let all = aces-many aces in omega (arith, all.0)

pub acl_size-most : (aces : List AccessControlEntry) → IsAcl aces → acl_size aces ≤ 65532
acl_size-most aces h = omega (arith, acl_size-fourth aces, h.fits)
