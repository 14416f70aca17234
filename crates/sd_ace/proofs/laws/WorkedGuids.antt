-- Two GUIDs and their bytes (MS-DTYP 2.3.4.2), for the worked rows of this crate and those above.
use Rattle.std.proofs.Common.{◌≡◌, ℕ, List, [], ◌∷◌, refl}
use Rattle.uuid.specs.Parts.{swap_fields}

-- bf967aba-0de6-11d0-a285-00aa003049e2
unfoldable pub user_class : List ℕ
user_class =
    0xbf ∷ 0x96 ∷ 0x7a ∷ 0xba ∷ 0x0d ∷ 0xe6 ∷ 0x11 ∷ 0xd0 ∷ 0xa2 ∷ 0x85 ∷ 0x00 ∷ 0xaa ∷ 0x00 ∷ 0x30 ∷ 0x49 ∷ 0xe2 ∷ []

unfoldable pub user_class_bytes : List ℕ
user_class_bytes =
    0xba ∷ 0x7a ∷ 0x96 ∷ 0xbf ∷ 0xe6 ∷ 0x0d ∷ 0xd0 ∷ 0x11 ∷ 0xa2 ∷ 0x85 ∷ 0x00 ∷ 0xaa ∷ 0x00 ∷ 0x30 ∷ 0x49 ∷ 0xe2 ∷ []

-- 10111213-2021-3031-0102-030405060708
unfoldable pub other_class : List ℕ
other_class = 0x10 ∷ 0x11 ∷ 0x12 ∷ 0x13 ∷ 0x20 ∷ 0x21 ∷ 0x30 ∷ 0x31 ∷ 1 ∷ 2 ∷ 3 ∷ 4 ∷ 5 ∷ 6 ∷ 7 ∷ 8 ∷ []

unfoldable pub other_class_bytes : List ℕ
other_class_bytes = 0x13 ∷ 0x12 ∷ 0x11 ∷ 0x10 ∷ 0x21 ∷ 0x20 ∷ 0x31 ∷ 0x30 ∷ 1 ∷ 2 ∷ 3 ∷ 4 ∷ 5 ∷ 6 ∷ 7 ∷ 8 ∷ []

-- their first three fields stand with the low byte first
pub low_bytes_first : (swap_fields user_class ≡ user_class_bytes) × (swap_fields other_class ≡ other_class_bytes)
unfolding user_class user_class_bytes other_class other_class_bytes
low_bytes_first = (refl, refl)
