-- What the generic rights stand for (MS-DTYP 2.4.3), written out.
use Rattle.std.specs.Prelude.{◌≡◌}
use Rattle.sd_rights.specs.Mapping.{directory_mapping, file_mapping, key_mapping}

-- of files and folders, of registry keys, and of objects of a directory service
unfoldable pub MappingValues : Type 0
MappingValues =
    (file_mapping ≡ record { read = 0x120089; write = 0x120116; execute = 0x1200A0; all = 0x1F01FF })
    × (key_mapping ≡ record { read = 0x20019; write = 0x20006; execute = 0x20019; all = 0xF003F })
    × (directory_mapping ≡ record { read = 0x20094; write = 0x20028; execute = 0x20004; all = 0xF01FF })
