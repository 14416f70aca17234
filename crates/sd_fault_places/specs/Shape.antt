-- How far a text goes as a line of SDDL may go (MS-DTYP 2.5.1), and what stands open there.
use Rattle.std.specs.Prelude.{◌≡◌, ◌<◌, ℕ, suc, ◌+◌, ◌&&◌, ◌||◌, not, ◌==◌, Bool, true, false, if◌then◌else◌, List, []}
use Rattle.std.specs.Prelude.{◌∷◌, ◌++◌, length, take, Option, Some, None, is_some}
use Rattle.std.specs.Option.{option_and_then, option_map}
use Rattle.std.specs.Str.{byte as char}
use Rattle.sd_sddl_fields.specs.FieldTexts.{is_blank}
use Rattle.sd_sddl_builder.specs.FoldedReading.{next_field}
use Rattle.sd_sddl_builder.specs.Line.{head_of, is_shaped}
use Rattle.sd_sddl_builder.specs.declared.slot.AceField.{AceField}
use Rattle.sd_sddl_builder.specs.declared.slot.AceField.TheVariants as field
use Rattle.sd_sddl_builder.specs.declared.slot.Head.{Head}
use Rattle.sd_sddl_builder.specs.declared.slot.Head.TheVariants as head
use Rattle.sd_fault_places.specs.declared.shape.Front.{Front}
use Rattle.sd_fault_places.specs.declared.shape.Stand.{Stand}
use Rattle.sd_fault_places.specs.declared.shape.Stand.TheVariants as stand

-- 1. Where the next byte is.

abbrev pub is_inside : Stand → Bool
is_inside stand.Before = false
is_inside (stand.Sid p) = false
is_inside (stand.Flags w) = false
is_inside (stand.Behind w n) = false
is_inside (stand.Ace w n f) = true

-- where no text is but blanks: before the first head, and behind an ACE
abbrev pub is_between : Stand → Bool
is_between stand.Before = true
is_between (stand.Sid p) = false
is_between (stand.Flags w) = false
is_between (stand.Behind w n) = true
is_between (stand.Ace w n f) = false

-- where a part begins
abbrev pub stand_of : Head → Stand
stand_of (head.Sid p) = stand.Sid p
stand_of (head.Acl w) = stand.Flags w

abbrev pub is_last : AceField → Bool
is_last field.Kind = false
is_last field.Flags = false
is_last field.Rights = false
is_last field.Object = false
is_last field.Inherited = false
is_last field.Sid = true

-- behind a byte that belongs to no head, if a line may go on so: an ACE has six fields, and the number of the ACEs
-- before it in its part
abbrev pub next_stand : Stand → ℕ → Option Stand
next_stand stand.Before b = if is_blank b then Some stand.Before else None
next_stand (stand.Sid p) b = if b == char "(" || b == char ")" then None else Some (stand.Sid p)
next_stand (stand.Flags w) b =
    if b == char "(" then Some (stand.Ace w 0 field.Kind)
    else (if b == char ")" then None else Some (stand.Flags w))
next_stand (stand.Behind w n) b =
    if b == char "(" then Some (stand.Ace w n field.Kind)
    else (if is_blank b then Some (stand.Behind w n) else None)
next_stand (stand.Ace w n f) b =
    if b == char "(" then None
    else (if b == char ")" then (if is_last f then Some (stand.Behind w (n + 1)) else None)
    else (if b == char ";" then (if is_last f then None else Some (stand.Ace w n (next_field f)))
    else Some (stand.Ace w n f)))

-- 2. A front of a text.

abbrev pub at_stand : Stand → Front
at_stand s = record { stand = s; letter = None }

abbrev pub start : Front
start = at_stand stand.Before

-- The front with a byte more, if a line may begin so. Outside parentheses a colon makes a head of the letter before it;
-- where no text is, a letter is nothing else.
abbrev pub step : Front → ℕ → Option Front
step m b =
    if is_inside m.stand then option_map at_stand (next_stand m.stand b)
    else (if b == char ":" then option_map (λ h. at_stand (stand_of h)) (option_and_then head_of m.letter)
    else (if is_between m.stand && is_some m.letter then None
    else (if is_some (head_of b) then Some (record { stand = m.stand; letter = Some b })
    else option_map at_stand (next_stand m.stand b))))

abbrev pub reach_behind : (Front → ℕ) → Option Front → ℕ
reach_behind more None = 0
reach_behind more (Some m) = suc (more m)

-- how many bytes a line may begin with
abbrev pub reach : Front → List ℕ → ℕ
reach m [] = 0
reach m (b ∷ bs) = reach_behind (λ n. reach n bs) (step m b)

abbrev pub stop_behind : Front → (Front → Front) → Option Front → Front
stop_behind m more None = m
stop_behind m more (Some n) = more n

-- and what stands open behind them
abbrev pub stop : Front → List ℕ → Front
stop m [] = m
stop m (b ∷ bs) = stop_behind m (λ n. stop n bs) (step m b)

-- no parenthesis is open, and no letter lacks its colon
abbrev pub is_ended : Front → Bool
is_ended m = not (is_inside m.stand || (is_between m.stand && is_some m.letter))

-- 3. Laws.

-- the first n bytes begin some shaped text, and no more of them do
pub record IsReach (n : ℕ) (text : List ℕ) : Type 0 where
  pub rest : List ℕ
  pub begins : is_shaped (take n text ++ rest) ≡ true
  pub ends : n < length text → (after : List ℕ) → is_shaped (take (n + 1) text ++ after) ≡ false
