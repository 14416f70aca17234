-- What two letters name, in either case (MS-DTYP 2.5.1.1).
use Rattle.std.specs.Prelude.{ℕ, ◌==◌, ◌&&◌, Option}
use Rattle.std.specs.Char.{to_ascii_uppercase}
use Rattle.std.specs.List.{find}
use Rattle.sd_alias.specs.declared.table.WellKnown.{WellKnown}
use Rattle.sd_alias.specs.declared.table.DomainRelative.{DomainRelative}
use Rattle.sd_alias.specs.declared.table.TheConstants.{WELL_KNOWN, DOMAIN_RELATIVE}

-- everywhere
abbrev pub known_named : ℕ → ℕ → Option WellKnown
known_named a b = find (λ e. e.first == to_ascii_uppercase a && e.second == to_ascii_uppercase b) WELL_KNOWN

-- in a domain
abbrev pub relative_named : ℕ → ℕ → Option DomainRelative
relative_named a b = find (λ e. e.first == to_ascii_uppercase a && e.second == to_ascii_uppercase b) DOMAIN_RELATIVE
