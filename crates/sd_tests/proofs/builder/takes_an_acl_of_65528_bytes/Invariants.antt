use Rattle.std.specs.Prelude.{List, [], Some}
use Rattle.sd_ace.specs.Ace.{AccessControlEntry}
use Rattle.sd_builder.specs.Builds.{Builds}
use Rattle.sd_builder.specs.Draft.{no_parts}
use Rattle.sd_parts.specs.declared.part.Which.TheVariants.{Sacl}
use Rattle.sd_tests.proofs.builder.takes_an_acl_of_65528_bytes.Given as goal

abbrev pub invariant-loop : goal.invariant-loop
invariant-loop g l = (aces : List AccessControlEntry)
    × Builds l.builder l.buf (record { parts = record no_parts { «open» = Some (Sacl, aces) }; order = [] })
