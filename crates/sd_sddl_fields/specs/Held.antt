-- What a reader keeps of the text of one field.
use Rattle.std.specs.Prelude.{◌≡◌, ℕ, ◌≤◌, Bool, true, false, ◌||◌, ◌&&◌, not, ◌==◌, if◌then◌else◌, List, [], ◌∷◌, ◌++◌}
use Rattle.std.specs.Prelude.{codes, length}
use Rattle.std.specs.List.{list_any}
use Rattle.std.specs.Str.{byte as char}
use Rattle.sd_text.specs.Limits.{most_field}
use Rattle.sd_sddl_fields.specs.FieldTexts.{is_blank}

-- the bytes so far, whether blanks stood after them, and whether the text can no longer read
pub record Held : Type 0 where
  pub text : List ℕ
  pub gap : Bool
  pub broken : Bool

abbrev pub no_text : Held
no_text = record { text = []; gap = false; broken = false }

-- a text that does not read: the bytes are not kept
abbrev pub broken_text : Held
broken_text = record { text = []; gap = false; broken = true }

-- one byte more that is no blank
abbrev pub held_with : Held → ℕ → Held
held_with h b =
    if h.broken || (h.gap || length h.text == most_field) then broken_text
    else record { text = h.text ++ b ∷ []; gap = false; broken = false }

-- a blank where blanks at the ends do not count
abbrev pub held_blank : Held → Held
held_blank h = if h.broken || length h.text == 0 then h else record { text = h.text; gap = true; broken = false }

-- what is kept has no blank, and fits
pub record IsHeld (h : Held) : Type 0 where
  pub clean : list_any is_blank h.text ≡ false
  pub fits : length h.text ≤ most_field

-- one byte more of a text whose blanks at the ends do not count
abbrev pub outer_with : Held → ℕ → Held
outer_with h b = if is_blank b then held_blank h else held_with h b

-- one byte more of a text inside parentheses
abbrev pub within_with : Held → ℕ → Held
within_with h b = if is_blank b then broken_text else held_with h b

-- bytes more, none of them a blank
abbrev pub held_run : Held → List ℕ → Held
held_run h [] = h
held_run h (b ∷ bs) = held_run (held_with h b) bs

-- a byte that only goes onto the text of a field inside parentheses
abbrev pub is_plain_inside : ℕ → Bool
is_plain_inside b = not (b == char "(" || (b == char ")" || (b == char ";" || is_blank b)))

-- a byte that goes onto the text of a field outside parentheses, unless it is a letter that begins a head
abbrev pub is_plain_text : ℕ → Bool
is_plain_text b = is_plain_inside b && not (b == char ":")

-- the text of a field that ends here: one that is not kept has a blank, and does not read
abbrev pub held_text : Held → List ℕ
held_text h = if h.broken then codes " " else h.text
