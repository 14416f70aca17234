-- The control word of a descriptor (MS-DTYP 2.4.6): its bits, and among them the flags of either ACL. The bits that
-- have names are the constants of src/control.rt, and `CONTROL_BITS` lists them; `AreControlBits` and
-- `AreListedBits` say which numbers these are.
use Rattle.std.specs.Prelude.{◌≡◌, ℕ, ◌+◌, ◌-◌, Bool, true, false, List, [], ◌∷◌, codes, map}
use Rattle.sd_text.specs.Bits.{bit_of, has_bit}
use Rattle.sd_parts.specs.declared.part.Which.{Which}
use Rattle.sd_parts.specs.declared.part.Which.TheVariants as which
use Rattle.sd_parts.specs.declared.control.AclFlags.{AclFlags}
use Rattle.sd_parts.specs.declared.control.ControlBit.{ControlBit}
use Rattle.sd_parts.specs.declared.control.TheConstants.{DACL_AUTO_INHERITED, DACL_AUTO_INHERIT_REQUIRED}
use Rattle.sd_parts.specs.declared.control.TheConstants.{DACL_DEFAULTED, DACL_PRESENT, DACL_PROTECTED}
use Rattle.sd_parts.specs.declared.control.TheConstants.{GROUP_DEFAULTED, OWNER_DEFAULTED, RM_CONTROL_VALID}
use Rattle.sd_parts.specs.declared.control.TheConstants.{SACL_AUTO_INHERITED, SACL_AUTO_INHERIT_REQUIRED}
use Rattle.sd_parts.specs.declared.control.TheConstants.{SACL_DEFAULTED, SACL_PRESENT, SACL_PROTECTED, SELF_RELATIVE}

-- a bit where it is to be set
abbrev pub bit_if : Bool → ℕ → ℕ
bit_if true bit = bit
bit_if false bit = 0

-- the bit that says that an ACL stands, null or not: SP or DP
abbrev pub present_bit : Which → ℕ
present_bit which.Sacl = SACL_PRESENT
present_bit which.Dacl = DACL_PRESENT

-- the flags of an ACL in a control word: PS, SC and SI, and PD, DC and DI
abbrev pub acl_flags : Which → ℕ → AclFlags
acl_flags which.Sacl control = record {
  protected = has_bit SACL_PROTECTED control;
  auto_inherit_required = has_bit SACL_AUTO_INHERIT_REQUIRED control;
  auto_inherited = has_bit SACL_AUTO_INHERITED control;
}
acl_flags which.Dacl control = record {
  protected = has_bit DACL_PROTECTED control;
  auto_inherit_required = has_bit DACL_AUTO_INHERIT_REQUIRED control;
  auto_inherited = has_bit DACL_AUTO_INHERITED control;
}

-- the bits that the flags of an ACL are
abbrev pub flag_bits : Which → AclFlags → ℕ
flag_bits which.Sacl f =
    bit_if f.protected SACL_PROTECTED + bit_if f.auto_inherit_required SACL_AUTO_INHERIT_REQUIRED
    + bit_if f.auto_inherited SACL_AUTO_INHERITED
flag_bits which.Dacl f =
    bit_if f.protected DACL_PROTECTED + bit_if f.auto_inherit_required DACL_AUTO_INHERIT_REQUIRED
    + bit_if f.auto_inherited DACL_AUTO_INHERITED

abbrev pub no_flags : AclFlags
no_flags = record { protected = false; auto_inherit_required = false; auto_inherited = false }

abbrev pub all_flags : AclFlags
all_flags = record { protected = true; auto_inherit_required = true; auto_inherited = true }

abbrev pub other_acl : Which → Which
other_acl which.Sacl = which.Dacl
other_acl which.Dacl = which.Sacl

-- the flags without SR, SP and DP, which tell of the form and of the ACLs that stand
abbrev pub other_flags : ℕ → ℕ
other_flags flags = flags - bit_of SELF_RELATIVE flags - bit_of SACL_PRESENT flags - bit_of DACL_PRESENT flags

-- the control word: those flags, SR, and SP and DP where the ACLs are present
abbrev pub control_of : ℕ → Bool → Bool → ℕ
control_of flags sacl dacl = other_flags flags + SELF_RELATIVE + bit_if sacl SACL_PRESENT + bit_if dacl DACL_PRESENT

-- what the constants are: each bit of 2.4.6
pub record AreControlBits : Type 0 where
  pub owner_defaulted : OWNER_DEFAULTED ≡ 0x1
  pub group_defaulted : GROUP_DEFAULTED ≡ 0x2
  pub dacl_present : DACL_PRESENT ≡ 0x4
  pub dacl_defaulted : DACL_DEFAULTED ≡ 0x8
  pub sacl_present : SACL_PRESENT ≡ 0x10
  pub sacl_defaulted : SACL_DEFAULTED ≡ 0x20
  pub dacl_required : DACL_AUTO_INHERIT_REQUIRED ≡ 0x100
  pub sacl_required : SACL_AUTO_INHERIT_REQUIRED ≡ 0x200
  pub dacl_inherited : DACL_AUTO_INHERITED ≡ 0x400
  pub sacl_inherited : SACL_AUTO_INHERITED ≡ 0x800
  pub dacl_protected : DACL_PROTECTED ≡ 0x1000
  pub sacl_protected : SACL_PROTECTED ≡ 0x2000
  pub rm_valid : RM_CONTROL_VALID ≡ 0x4000
  pub self_relative : SELF_RELATIVE ≡ 0x8000

-- a bit with its letters
abbrev pub lettered : ControlBit → ℕ × List ℕ
lettered b = (b.bit, b.first ∷ b.second ∷ [])

-- the table lists these bits with these letters, in rising order, and no others
abbrev pub AreListedBits : List ControlBit → Type 0
AreListedBits bits =
    map lettered bits
    ≡ (0x1, codes "OD") ∷ (0x2, codes "GD") ∷ (0x4, codes "DP") ∷ (0x8, codes "DD") ∷ (0x10, codes "SP")
    ∷ (0x20, codes "SD") ∷ (0x100, codes "DC") ∷ (0x200, codes "SC") ∷ (0x400, codes "DI") ∷ (0x800, codes "SI")
    ∷ (0x1000, codes "PD") ∷ (0x2000, codes "PS") ∷ (0x4000, codes "RM") ∷ (0x8000, codes "SR") ∷ []

-- bits of the control word: SR, SP and DP
abbrev pub self_relative : ℕ → Bool
self_relative control = has_bit SELF_RELATIVE control

abbrev pub sacl_present : ℕ → Bool
sacl_present control = has_bit SACL_PRESENT control

abbrev pub dacl_present : ℕ → Bool
dacl_present control = has_bit DACL_PRESENT control
