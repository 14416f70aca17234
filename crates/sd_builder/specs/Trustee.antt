-- The trustee of an ACE, or an owner or a group, as it was read.
use Rattle.std.specs.Prelude.{◌≤◌}
use Rattle.sd_sid.specs.Account.{account_sid}
use Rattle.sd_sid.specs.Sid.{SecurityId}
use Rattle.sd_sid.specs.SidText.{known_sid}
use Rattle.sd_builder.specs.declared.trustee.Trustee.{Trustee}
use Rattle.sd_builder.specs.declared.trustee.Trustee.TheVariants.{Account, Named, Sid}

abbrev pub trustee_sid : Trustee → SecurityId
trustee_sid (Account account) = account_sid account
trustee_sid (Named name) = known_sid name.now
trustee_sid (Sid sid) = sid.now

-- a SID with a name has at most six numbers
abbrev pub IsTrustee : Trustee → Type 0
IsTrustee (Account account) = Unit {0}
IsTrustee (Named name) = name.now.count ≤ 6
IsTrustee (Sid sid) = Unit {0}
