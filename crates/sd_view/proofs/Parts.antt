-- The bytes of a part and their number, and where they stand.
use Rattle.std.proofs.Common.{◌≡◌, ◌+◌, ◌*◌, ℕ, Bool, true, false, eqb, List, [], take, drop, slice_index, Some, refl}
use Rattle.std.proofs.Common.{sym, ap, ◌∙◌, arith}
use Rattle.std.proofs.lemmas.Bool.Decides.{nat_tests}
use Rattle.std.proofs.lemmas.List.{take_at}
use Rattle.sd_sid.specs.Sid.{sid_bytes, sid_of, sid_stands}
use Rattle.sd_sid.proofs.laws.Numbers.{AreBytes, AreBytes-drop}
use Rattle.sd_acl_view.specs.AclReading.{acl_at_front, acl_of}
use Rattle.sd_view.specs.declared.acl_part.AclPart.{AclPart}
use Rattle.sd_view.specs.declared.acl_part.AclPart.TheVariants as acl
use Rattle.sd_view.specs.Inner.Found.{written_of}
use Rattle.sd_view.specs.Layout.{acl_part_size, sid_part}
use Rattle.sd_view.specs.Reading.{acl_shown, sid_shown}
use Rattle.sd_view.specs.Inner.Readable.{IsSidAt}
use Rattle.sd_sid.proofs.laws.SidLaws.{length-sid_bytes}
use Rattle.sd_view.proofs.ReadLaws.{stands-at, stands-sid}

-- no SID is shown at 0
pub no_sid-bytes : (bytes : List ℕ) (offset : ℕ) → offset ≡ 0 → sid_part (sid_shown bytes offset) ≡ []
unfolding sid_shown
no_sid-bytes bytes offset e = rw e refl

-- the SID that is shown is the one that its bytes give
pub sid_shown-stands : (bytes : List ℕ) (offset : ℕ) → (offset ≡ 0 → ⊥) → sid_stands (drop offset bytes) ≡ true
    → sid_shown bytes offset ≡ Some (sid_of (drop offset bytes))
unfolding sid_shown
sid_shown-stands bytes offset other e =
    let zero_test : eqb offset 0 ≡ false = grind (arith, nat_tests) in
    let found = stands-at (drop offset bytes) e in
    rw (zero_test, found) refl

-- the ACL that is shown is the one at the front of its bytes
pub acl_shown-stands : (bytes : List ℕ) (present : Bool) (offset : ℕ) → present ≡ true → (offset ≡ 0 → ⊥)
    → acl_shown bytes present offset ≡ acl.List (acl_of (acl_at_front (drop offset bytes)))
unfolding acl_shown
acl_shown-stands bytes present offset e other =
    let zero_test : eqb offset 0 ≡ false = grind (arith, nat_tests) in
    rw (e, zero_test) refl

-- the bytes of the SID that is shown stand at its offset, as many as its count says
pub sid-bytes : (bytes : List ℕ) (offset : ℕ) → AreBytes bytes → (offset ≡ 0 → ⊥) → IsSidAt bytes offset
    → take (8 + 4 * slice_index (drop offset bytes) 1) (drop offset bytes) ≡ sid_part (sid_shown bytes offset)
sid-bytes bytes offset b other h =
    let rest = drop offset bytes in
    let n = 8 + 4 * slice_index rest 1 in
    let test = h.stands other in
    let sid = stands-sid rest (AreBytes-drop offset bytes b) test in
    let size = length-sid_bytes (sid_of rest) ∙ sym sid.1 in
    ap (take n) sid.0.shape ∙ take_at (sid_bytes (sid_of rest)) sid.0.rest n size
    ∙ ap sid_part (sym (sid_shown-stands bytes offset other test))

-- what is kept of an ACL has its written size
pub written-size : (p : AclPart) → (written_of p).size ≡ acl_part_size p
written-size acl.Absent = refl
written-size acl.Null = refl
written-size (acl.List aces) = refl
