use Rattle.std.proofs.Common.{◌≡◌, ℕ, ◌/◌, ◌%◌, ◌*◌, bit_and, arith, refl}
use Rattle.std.proofs.lemmas.Nat.Bits.{and_high}
use Rattle.sd_ace.proofs.ace.Ace.new.Goals.{then-flags-ne0-via-then-flags-ne0}
use Rattle.sd_ace.proofs.ace.Ace.new.Goals.{then-flags-ne0-via-else-flags-ne0+then-not-guids_fit}
use Rattle.sd_ace.proofs.ace.Ace.new.Goals as goal

bit_0x20 : (n : ℕ) → bit_and n 0x20 ≡ n / 0x20 % 2 * 0x20
bit_0x20 n = and_high n 1 5

pub returns-then-flags-ne0-clause-found : goal.returns-then-flags-ne0-clause-found
returns-then-flags-ne0-clause-found c = (
  λ e. absurd cc,
  λ h. elim c.then-flags-ne0.branch [
    | then-flags-ne0-via-then-flags-ne0 w ↦ absurd (omega (arith, bit_0x20 c.args.flags, h.0, w.if-flags-ne0))
    | then-flags-ne0-via-else-flags-ne0+then-not-guids_fit w ↦ let fit = w.guids_fit.ensures.1 h.1 in absurd cc
  ],
)

pub invariant_of-result : goal.invariant_of-result
invariant_of-result c =
    (omega arith, omega (arith, bit_0x20 c.args.flags), omega arith, c.guids_fit.ensures.0 c.if-not-guids_fit.false)

pub returns-clause-found : goal.returns-clause-found
returns-clause-found c =
    (λ e. (omega (arith, bit_0x20 c.args.flags), c.guids_fit.ensures.0 c.if-not-guids_fit.false), λ h. refl)
