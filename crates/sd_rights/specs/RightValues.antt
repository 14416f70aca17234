-- The names of access rights, written out: numbers as in MS-DTYP 2.4.3, names as in 2.5.1.1 (ace-rights). The
-- number of KX, the same as that of KR, is this project's own.
use Rattle.std.specs.Prelude.{◌≡◌, [], ◌∷◌, codes, map}
use Rattle.sd_text.specs.Names.{named_row}
use Rattle.sd_rights.specs.declared.rights_table.TheConstants.{COMPOUNDS, LABELS, SINGLES}

-- the rights of one bit, in rising order
unfoldable pub SingleRights : Type 0
SingleRights =
    map named_row SINGLES
    ≡ (codes "CC", 0x00000001)
    ∷ (codes "DC", 0x00000002)
    ∷ (codes "LC", 0x00000004)
    ∷ (codes "SW", 0x00000008)
    ∷ (codes "RP", 0x00000010)
    ∷ (codes "WP", 0x00000020)
    ∷ (codes "DT", 0x00000040)
    ∷ (codes "LO", 0x00000080)
    ∷ (codes "CR", 0x00000100)
    ∷ (codes "SD", 0x00010000)
    ∷ (codes "RC", 0x00020000)
    ∷ (codes "WD", 0x00040000)
    ∷ (codes "WO", 0x00080000)
    ∷ (codes "GA", 0x10000000)
    ∷ (codes "GX", 0x20000000)
    ∷ (codes "GW", 0x40000000)
    ∷ (codes "GR", 0x80000000)
    ∷ []

-- the rights of files and registry keys; of two names for one number the first is printed
unfoldable pub CompoundRights : Type 0
CompoundRights =
    map named_row COMPOUNDS
    ≡ (codes "FA", 0x001F01FF)
    ∷ (codes "FR", 0x00120089)
    ∷ (codes "FW", 0x00120116)
    ∷ (codes "FX", 0x001200A0)
    ∷ (codes "KA", 0x000F003F)
    ∷ (codes "KR", 0x00020019)
    ∷ (codes "KW", 0x00020006)
    ∷ (codes "KX", 0x00020019)
    ∷ []

-- the rights of a mandatory label
unfoldable pub LabelRights : Type 0
LabelRights =
    map named_row LABELS
    ≡ (codes "NW", 0x00000001)
    ∷ (codes "NR", 0x00000002)
    ∷ (codes "NX", 0x00000004)
    ∷ []
