-- How SIDs are named in what is printed (MS-DTYP 2.5.1.1).
use Rattle.std.specs.Prelude.{ℕ, Bool, if◌then◌else◌, List, Option, None}
use Rattle.sd_sid.specs.Sid.{SecurityId}
use Rattle.sd_sid.specs.SidText.{alias_of}
use Rattle.sd_sid.specs.declared.naming.Naming.{Naming}

-- by their aliases, those of a domain too where there is one, or by numbers alone
abbrev pub naming_by : Option SecurityId → Bool → Naming
naming_by domain numeric = record { domain = domain; numeric = numeric }

-- the alias of a SID, where it has one and numbers alone are not asked for
abbrev pub alias_by : Naming → SecurityId → Option (List ℕ)
alias_by naming s = if naming.numeric then None else alias_of s naming.domain
