-- The ACE at the front of what is left of an ACL without a fault can be read.
use Rattle.std.proofs.Common.{◌≡◌, ℕ, ◌+◌, ◌/◌, ◌%◌, not, eqb, ltb, List, length, take, drop, slice_index, None, refl}
use Rattle.std.proofs.Common.{arith}
use Rattle.std.specs.Prelude.{is_some}
use Rattle.std.proofs.lemmas.Bool.{ltb-false}
use Rattle.std.proofs.lemmas.List.{length-take-le}
use Rattle.sd_kinds.specs.Kinds.{kind_of}
use Rattle.sd_sid.specs.Sid.{sid_at}
use Rattle.sd_sid.proofs.laws.Numbers.{AreBytes, AreBytes-drop, AreBytes-take}
use Rattle.sd_acl_view.specs.AclReading.{ace_fault, ace_of, extent_fault, sid_offset_in}
use Rattle.sd_acl_view.specs.Bytes.{u16_at}
use Rattle.sd_acl_view.specs.Inner.ReadableAce.{IsReadableAce}
use Rattle.sd_acl_view.specs.declared.fault.AclFault.TheVariants as faults
use Rattle.sd_acl_view.proofs.laws.AclLaws.{ace-bounds, ace-shows, shows-ace-limits, sid_found}
use Rattle.sd_acl_view.proofs.laws.FirstFault.{passed, went_on}

pub ace-readable : (left : List ℕ) → AreBytes left → ace_fault left ≡ None → IsReadableAce (take (u16_at 2 left) left)
unfolding extent_fault
ace-readable left b e =
    let n = u16_at 2 left in
    let extent = take n left in
    let shows = ace-shows left b e in
    let bounds = ace-bounds left e in
    let long : length extent ≡ n = length-take-le n left bounds.1 in
    let kind = went_on (not (is_some (kind_of (slice_index extent 0)))) faults.AceType _ bounds.2 in
    let flag = went_on (eqb (slice_index extent 1 / 0x20 % 2) 1) faults.AceFlags _ kind.1 in
    let room = went_on (ltb (length extent) (sid_offset_in extent + 8)) faults.AceSize _ flag.1 in
    let sid = passed (is_some (sid_at (drop (sid_offset_in extent) extent))) faults.Sid room.1 in
    record {
      room = omega (arith, long, bounds.0);
      sound = bounds.2;
      front = ltb-false (length extent) (sid_offset_in extent + 8) room.0;
      sid = sid_found (drop (sid_offset_in extent) extent) (sid_at (drop (sid_offset_in extent) extent))
          (AreBytes-drop (sid_offset_in extent) extent (AreBytes-take n left b)) refl sid;
      limits = shows-ace-limits extent (ace_of extent) (AreBytes-take n left b) shows.0;
    }
