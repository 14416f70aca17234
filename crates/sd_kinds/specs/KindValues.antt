-- The table of kinds, written out: type bytes as in MS-DTYP 2.4.4.1, letters as in 2.5.1.1 (ace-type).
use Rattle.std.specs.Prelude.{◌≡◌, ℕ, List, [], ◌∷◌, codes, map}
use Rattle.sd_kinds.specs.Kinds.{letters_of}
use Rattle.sd_kinds.specs.declared.kinds.AceKind.{AceKind}
use Rattle.sd_kinds.specs.declared.kinds.AceKind.TheVariants as kinds
use Rattle.sd_kinds.specs.declared.kinds.KindEntry.{KindEntry}
use Rattle.sd_kinds.specs.declared.kinds.TheConstants.{KINDS}

-- a kind, its type byte and its letters
abbrev pub kind_row : KindEntry → AceKind × ℕ × List ℕ
kind_row e = (e.kind, e.code, letters_of e)

-- the table has these rows
unfoldable pub KindValues : Type 0
KindValues =
    map kind_row KINDS
    ≡ (kinds.Allow, 0x00, codes "A")
    ∷ (kinds.Deny, 0x01, codes "D")
    ∷ (kinds.Audit, 0x02, codes "AU")
    ∷ (kinds.ObjectAllow, 0x05, codes "OA")
    ∷ (kinds.ObjectDeny, 0x06, codes "OD")
    ∷ (kinds.ObjectAudit, 0x07, codes "OU")
    ∷ (kinds.Label, 0x11, codes "ML")
    ∷ []
