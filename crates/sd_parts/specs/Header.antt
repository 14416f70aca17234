-- The header of a descriptor (MS-DTYP 2.4.6).
use Rattle.std.specs.Prelude.{ℕ, List, ◌∷◌, ◌++◌}
use Rattle.byteorder.specs.Endian.{little_bytes}
use Rattle.sd_parts.specs.declared.part.Parts.{Parts}

-- revision, resource manager byte, control word, and the offsets of owner, group, SACL and DACL
unfoldable pub header_bytes : ℕ → ℕ → Parts ℕ → List ℕ
header_bytes rm control offsets =
    1 ∷ rm ∷ little_bytes 2 control ++ little_bytes 4 offsets.owner ++ little_bytes 4 offsets.group
    ++ little_bytes 4 offsets.sacl ++ little_bytes 4 offsets.dacl
