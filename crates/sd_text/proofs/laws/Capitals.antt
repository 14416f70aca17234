-- Letters in either case, compared by what `capital` makes of them.
use Rattle.std.proofs.Common.{◌≡◌, ℕ, ◌-◌, ◌*◌, ◌/◌, ◌%◌, ◌<◌, true, ◌&&◌, List, [], ◌∷◌, refl, arith}
use Rattle.std.specs.Prelude.{◌==◌}
use Rattle.std.specs.Char.{is_ascii_uppercase, to_ascii_uppercase}
use Rattle.std.specs.List.{find, list_all}
use Rattle.std.proofs.lemmas.Bool.{and_parts}
use Rattle.std.proofs.lemmas.Bool.Decides.{nat_tests}
use Rattle.std.proofs.lemmas.Str.Ascii.{uppercase_is}
use Rattle.sd_text.specs.Names.{IsSameCapital}

-- without the bit of small letters a letter is its capital, and any other byte is no capital
pub without-small : (byte : ℕ) → byte < 256 → IsSameCapital (byte - byte / 32 % 2 * 32) (to_ascii_uppercase byte)
without-small byte small c capital = grind (arith, nat_tests, uppercase_is byte)

-- an entry with capitals has the same letters
pub find-same : {X : Type 0} (first second : X → ℕ) (a b x y : ℕ) (xs : List X) → IsSameCapital a x → IsSameCapital b y
    → list_all (λ e. is_ascii_uppercase (first e) && is_ascii_uppercase (second e)) xs ≡ true
    → find (λ e. first e == a && second e == b) xs ≡ find (λ e. first e == x && second e == y) xs
find-same first second a b x y [] one two all = refl
find-same first second a b x y (e ∷ es) one two all =
    let parts = and_parts (is_ascii_uppercase (first e) && is_ascii_uppercase (second e)) _ all in
    let letters = and_parts (is_ascii_uppercase (first e)) _ parts.0 in
    rw (one (first e) letters.0, two (second e) letters.1, find-same first second a b x y es one two parts.1) refl
