-- The first ACE with a fault, one ACE at a time.
use Rattle.std.proofs.Common.{◌≡◌, ◌≤◌, ℕ, zero, suc, ◌+◌, List, drop, Some, None, refl, arith}
use Rattle.sd_acl_view.specs.AclReading.{ace_fault}
use Rattle.sd_acl_view.specs.Bytes.{u16_at}
use Rattle.sd_acl_view.specs.declared.fault.AclFault.{AclFault}
use Rattle.sd_fault_places.specs.Places.{behind_aces, sound_aces}

-- what is left of the ACEs from the first one with a fault on
abbrev pub behind_sound : ℕ → List ℕ → List ℕ
behind_sound n left = behind_aces (sound_aces n left) left

-- a sound one
pub sound-more : (n m : ℕ) (left : List ℕ) → m ≡ n + 1 → ace_fault left ≡ None
    → (sound_aces m left ≡ sound_aces n (drop (u16_at 2 left) left) + 1)
    × (behind_sound m left ≡ behind_sound n (drop (u16_at 2 left) left))
sound-more n zero left one e = absurd (omega arith)
sound-more n (suc k) left one e =
    let same : k ≡ n = omega arith in
    rw (e, same) (omega arith, refl)

-- one with a fault
pub sound-stop : (m : ℕ) (left : List ℕ) (f : AclFault) → 1 ≤ m → ace_fault left ≡ Some f
    → (sound_aces m left ≡ 0) × (behind_sound m left ≡ left)
sound-stop zero left f some e = absurd (omega arith)
sound-stop (suc k) left f some e = rw e (refl, refl)
