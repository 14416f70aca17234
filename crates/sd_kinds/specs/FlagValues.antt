-- The flags of an ACE, written out: numbers as in MS-DTYP 2.4.4.1, names as in 2.5.1.1 (ace-flag-string).
use Rattle.std.specs.Prelude.{◌≡◌, [], ◌∷◌, codes, map}
use Rattle.sd_text.specs.Names.{named_row}
use Rattle.sd_kinds.specs.declared.flags.TheConstants.{CONTAINER_INHERIT, FAILED_ACCESS, FLAGS, INHERITED, INHERIT_ONLY}
use Rattle.sd_kinds.specs.declared.flags.TheConstants.{NO_PROPAGATE, OBJECT_INHERIT, ONWARD, SUCCESSFUL_ACCESS}

-- the table of names has these rows, in the order in which they are printed
unfoldable pub FlagNames : Type 0
FlagNames =
    map named_row FLAGS
    ≡ (codes "OI", 0x01)
    ∷ (codes "CI", 0x02)
    ∷ (codes "NP", 0x04)
    ∷ (codes "IO", 0x08)
    ∷ (codes "ID", 0x10)
    ∷ (codes "SA", 0x40)
    ∷ (codes "FA", 0x80)
    ∷ []

-- each flag by itself, and the two with which an ACE goes on from a container
unfoldable pub FlagValues : Type 0
FlagValues =
    (OBJECT_INHERIT ≡ 0x01)
    × (CONTAINER_INHERIT ≡ 0x02)
    × (NO_PROPAGATE ≡ 0x04)
    × (INHERIT_ONLY ≡ 0x08)
    × (INHERITED ≡ 0x10)
    × (SUCCESSFUL_ACCESS ≡ 0x40)
    × (FAILED_ACCESS ≡ 0x80)
    × (ONWARD ≡ 0x03)
