-- The SID in the extent of an ACE.
use Rattle.std.proofs.Common.{◌≡◌, ℕ, List, drop, sym, ap, ◌∙◌, subst}
use Rattle.sd_ace.specs.Ace.{AccessControlEntry}
use Rattle.sd_sid.specs.Sid.{sid_of}
use Rattle.sd_sid.proofs.laws.SidLaws.{SidStands, begins-Stands}
use Rattle.sd_acl_view.specs.AclReading.{ace_of, sid_offset_in}
use Rattle.sd_acl_view.specs.Inner.ReadableAce.{IsReadableAce}

-- a SID stands behind the front of the extent,
pub sid-stands : (extent rest : List ℕ) (n : ℕ) → IsReadableAce extent → n ≡ sid_offset_in extent
    → rest ≡ drop n extent → SidStands rest
sid-stands extent rest n h at place =
    subst (λ (xs : List ℕ). SidStands xs) (sym (place ∙ ap (λ (k : ℕ). drop k extent) at)) (begins-Stands _ _ h.sid)

-- and it is that of the ACE
pub sid-read : (extent rest : List ℕ) (n : ℕ) (a : AccessControlEntry) → n ≡ sid_offset_in extent → rest ≡ drop n extent
    → ace_of extent ≡ a → sid_of rest ≡ a.sid
sid-read extent rest n a at place view =
    ap sid_of (place ∙ ap (λ (k : ℕ). drop k extent) at) ∙ ap (λ (b : AccessControlEntry). b.sid) view
