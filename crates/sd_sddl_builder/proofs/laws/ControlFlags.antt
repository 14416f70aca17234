-- The flags of both ACLs in a control word.
use Rattle.std.proofs.Common.{◌≡◌, ◌<◌, ℕ, ◌+◌, ◌*◌, ◌^◌, ap, sym, ◌∙◌, arith}
use Rattle.sd_parts.specs.Control.{bit_if, other_flags}
use Rattle.sd_parts.specs.declared.control.AclFlags.{AclFlags}
use Rattle.sd_parts.proofs.laws.ControlLaws.{bit_if-most, bit_if-times}
use Rattle.sd_sddl_builder.specs.Meaning.{control_flags}

-- the flags stand in the upper byte, without its highest bit
upper-byte : (k : ℕ) → k < 128 → other_flags (256 * k) ≡ 256 * k
upper-byte k small = omega arith

-- the six flags over 256
abbrev six_bits : AclFlags → AclFlags → ℕ
six_bits sacl dacl =
    bit_if sacl.protected 0x20 + bit_if sacl.auto_inherit_required 0x2 + bit_if sacl.auto_inherited 0x8
    + (bit_if dacl.protected 0x10 + bit_if dacl.auto_inherit_required 0x1 + bit_if dacl.auto_inherited 0x4)

bits-low : (sacl dacl : AclFlags) → six_bits sacl dacl < 128
bits-low s d =
    let sp = bit_if-most s.protected 0x20 in
    let sr = bit_if-most s.auto_inherit_required 0x2 in
    let si = bit_if-most s.auto_inherited 0x8 in
    let dp = bit_if-most d.protected 0x10 in
    let dr = bit_if-most d.auto_inherit_required 0x1 in
    let di = bit_if-most d.auto_inherited 0x4 in
    omega arith

flags-upper : (sacl dacl : AclFlags) → control_flags sacl dacl ≡ 256 * six_bits sacl dacl
flags-upper s d =
    let sp = bit_if-times s.protected 256 0x20 in
    let sr = bit_if-times s.auto_inherit_required 256 0x2 in
    let si = bit_if-times s.auto_inherited 256 0x8 in
    let dp = bit_if-times d.protected 256 0x10 in
    let dr = bit_if-times d.auto_inherit_required 256 0x1 in
    let di = bit_if-times d.auto_inherited 256 0x4 in
    omega arith

pub flags-stay : (sacl dacl : AclFlags) → other_flags (control_flags sacl dacl) ≡ control_flags sacl dacl
flags-stay s d = ap other_flags (flags-upper s d) ∙ upper-byte (six_bits s d) (bits-low s d) ∙ sym (flags-upper s d)

-- they have 15 bits
pub flags-small : (sacl dacl : AclFlags) → control_flags sacl dacl < 2 ^ 16
flags-small s d = omega (arith, flags-upper s d, bits-low s d)
