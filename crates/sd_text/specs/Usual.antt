-- Usual texts in a table: keys, which are words of their bytes, and sizes.
use Rattle.std.specs.Prelude.{◌≡◌, ◌<◌, ◌≤◌, ℕ, ◌*◌, ◌-◌, ◌%◌, ◌^◌, Bool, true, false, ◌&&◌, ◌==◌, List, [], ◌∷◌, take}
use Rattle.std.specs.Prelude.{drop, length, get_or, Option, Some, None, suc, nat_le}
use Rattle.std.specs.Int.{to_le_bytes, w64}
use Rattle.std.specs.Str.{bytes_eq}

-- the text of a key: the bytes at the high end of the word
abbrev pub usual_text : ℕ → ℕ → List ℕ
usual_text key size = drop (8 - size) (to_le_bytes w64 key)

-- a row of a table has the text at the front
abbrev pub IsRowOf : List ℕ → List ℕ → List ℕ → ℕ → Type 0
IsRowOf keys sizes text row =
    (row < 64) × (get_or sizes row 0 ≤ length text)
    × (take (get_or sizes row 0) text ≡ usual_text (get_or keys row 0) (get_or sizes row 0))

-- what shifts so many bytes to the high end of a word
abbrev pub shift_of : ℕ → ℕ
shift_of size = 2 ^ (8 * (8 - size)) % 2 ^ 64

abbrev pub shifts_from : ℕ → List ℕ → Bool
shifts_from size [] = true
shifts_from size (shift ∷ more) = shift == shift_of size && shifts_from (suc size) more

abbrev pub are_shifts : List ℕ → Bool
are_shifts shifts = shifts_from 0 shifts

abbrev pub gives : Option ℕ → ℕ → Bool
gives None value = false
gives (Some number) value = number == value

-- each text of a table reads as its value
abbrev pub have_values : (List ℕ → Option ℕ) → List ℕ → List ℕ → List ℕ → Bool
have_values reads [] sizes values = true
have_values reads (key ∷ keys) [] values = false
have_values reads (key ∷ keys) (size ∷ sizes) [] = false
have_values reads (key ∷ keys) (size ∷ sizes) (value ∷ values) =
    gives (reads (usual_text key size)) value && have_values reads keys sizes values

-- Texts as they are printed, in cells that may have more bytes.

-- the cells from a row on begin with the texts of the rows, of at most 16 bytes
abbrev pub texts_from : (ℕ → List ℕ) → ℕ → List (List ℕ) → List ℕ → Bool
texts_from text row [] sizes = true
texts_from text row (cells ∷ more) [] = false
texts_from text row (cells ∷ more) (size ∷ sizes) =
    (nat_le size 16 && bytes_eq (take size cells) (text row)) && texts_from text (suc row) more sizes

abbrev pub have_texts : (ℕ → List ℕ) → List (List ℕ) → List ℕ → Bool
have_texts text cells sizes = texts_from text 0 cells sizes
