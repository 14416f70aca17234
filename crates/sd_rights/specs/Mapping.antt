-- Access masks (MS-DTYP 2.4.3), right by right, and what their generic rights mean.
use Rattle.std.specs.Prelude.{◌<◌, ℕ, ◌/◌, ◌%◌, ◌^◌, ◌==◌, Bool, if◌then◌else◌, bit_or}
use Rattle.sd_rights.specs.declared.mapping.TheConstants.{DS_GENERIC_ALL, DS_GENERIC_EXECUTE, DS_GENERIC_READ}
use Rattle.sd_rights.specs.declared.mapping.TheConstants.{DS_GENERIC_WRITE, FILE_ALL_ACCESS, FILE_GENERIC_EXECUTE}
use Rattle.sd_rights.specs.declared.mapping.TheConstants.{FILE_GENERIC_READ, FILE_GENERIC_WRITE, KEY_ALL_ACCESS}
use Rattle.sd_rights.specs.declared.mapping.TheConstants.{KEY_EXECUTE, KEY_READ, KEY_WRITE}
use Rattle.sd_rights.specs.AccessRights.{generic_all, generic_execute, generic_read, generic_write}

-- the mask has the right, given by its place
abbrev pub carries : ℕ → ℕ → Bool
carries mask right = mask / 2 ^ right % 2 == 1

-- the four masks that stand for the generic rights of one kind of object
pub record GenericMapping : Type 0 where
  pub read : ℕ
  pub write : ℕ
  pub execute : ℕ
  pub all : ℕ

-- they have the rights 0 to 24 alone
pub record IsMapping (m : GenericMapping) : Type 0 where
  pub read : m.read < 2 ^ 25
  pub write : m.write < 2 ^ 25
  pub execute : m.execute < 2 ^ 25
  pub all : m.all < 2 ^ 25

-- files and folders
abbrev pub file_mapping : GenericMapping
file_mapping = record {
  read = FILE_GENERIC_READ;
  write = FILE_GENERIC_WRITE;
  execute = FILE_GENERIC_EXECUTE;
  all = FILE_ALL_ACCESS;
}

-- registry keys
abbrev pub key_mapping : GenericMapping
key_mapping = record {
  read = KEY_READ;
  write = KEY_WRITE;
  execute = KEY_EXECUTE;
  all = KEY_ALL_ACCESS;
}

-- objects of a directory service
abbrev pub directory_mapping : GenericMapping
directory_mapping = record {
  read = DS_GENERIC_READ;
  write = DS_GENERIC_WRITE;
  execute = DS_GENERIC_EXECUTE;
  all = DS_GENERIC_ALL;
}

abbrev pub mask_if : Bool → ℕ → ℕ
mask_if carried mask = if carried then mask else 0

-- the mask without the generic rights, which are its last bits, and for each of them that it had the mapping's mask
unfoldable pub mapped : GenericMapping → ℕ → ℕ
mapped m mask =
    bit_or (bit_or (bit_or (bit_or (mask % 2 ^ generic_all)
    (mask_if (carries mask generic_all) m.all))
    (mask_if (carries mask generic_execute) m.execute))
    (mask_if (carries mask generic_write) m.write))
    (mask_if (carries mask generic_read) m.read)
