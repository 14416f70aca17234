-- The reader of a line: what it has read, and what its buffer holds.
use Rattle.std.specs.Prelude.{◌≡◌, ◌≤◌, ℕ, Bool, true, false, ◌||◌, not, ◌==◌, List, ◌∷◌, ◌++◌, Option, Some, None}
use Rattle.std.specs.Prelude.{if◌then◌else◌, length, Result}
use Rattle.std.specs.Option.{option_to_list}
use Rattle.std.specs.Str.{byte as char}
use Rattle.sd_sid.specs.Sid.{SecurityId}
use Rattle.sd_builder.specs.Draft.{IsOpen}
use Rattle.sd_sddl_fields.specs.Held.{IsHeld, no_text}
use Rattle.sd_sddl_builder.specs.Line.{byte, head_at, pieces_from, same_head}
use Rattle.sd_sddl_builder.specs.FieldReading.{HasReadFields, Lacks}
use Rattle.sd_sddl_builder.specs.FoldedReading.{FieldsRead, reads_as, take_field}
use Rattle.sd_text.specs.Chains.{unless}
use Rattle.sd_sddl_reader.specs.Inner.Progress.{Seen, ended_with, is_inside, is_seen, rest_answer, state_of, with_head}
use Rattle.sd_sddl_builder.specs.declared.fault.SddlFault.{SddlFault}
use Rattle.sd_sddl_builder.specs.declared.fault.SddlFault.TheVariants as fault
use Rattle.sd_sddl_builder.specs.declared.slot.Head.{Head}
use Rattle.sd_sddl_builder.specs.declared.slot.Head.TheVariants as head
use Rattle.sd_sddl_builder.specs.declared.slot.Slot.{Slot}
use Rattle.sd_sddl_reader.specs.declared.line.State.{State}
use Rattle.sd_sddl_reader.specs.declared.line.State.TheVariants as state
use Rattle.sd_sddl_reader.specs.declared.reader.SddlReader.{SddlReader}

-- the answer if a text follows, whatever byte waits, where the fields so far say this
abbrev pub answer_at : SddlReader → FieldsRead → List ℕ → Result FieldsRead SddlFault
answer_at s t text = rest_answer s.fields.domain s.sound s.twice s.seen (unless s.fault t) s.state s.field text

-- the part at hand, of which no field was read
abbrev pub is_at_front : State → Head → Bool
is_at_front state.Before h = false
is_at_front (state.Sid p) h = same_head (head.Sid p) h
is_at_front (state.AclFlags w) h = same_head (head.Acl w) h
is_at_front state.AfterAce h = false
is_at_front (state.Ace f) h = false

abbrev pub is_in_acl : State → Bool
is_in_acl state.Before = false
is_in_acl (state.Sid p) = false
is_in_acl (state.AclFlags w) = false
is_in_acl state.AfterAce = true
is_in_acl (state.Ace f) = true

-- the part at hand was seen, the parts that did not stand in the line so far are not given, and an ACL with ACEs is
-- open
pub record Fits (p : State) (seen : Seen) (t : FieldsRead) : Type 0 where
  pub here : (h : Head) → is_at_front p h ≡ true → is_seen seen h ≡ true
  pub lacks : (h : Head) → (not (is_seen seen h) || is_at_front p h) ≡ true → Lacks h t
  pub opened : is_in_acl p ≡ true → IsOpen t.parts

-- as long as there is no fault, what was read is held
pub record LineHasRead (s : SddlReader) (buf : List ℕ) (t : FieldsRead) : Type 0 where
  pub fields : s.fault ≡ None → HasReadFields s.fields buf t
  pub fits : s.fault ≡ None → Fits s.state s.seen t

-- a step over some bytes: whatever was read before it, something is read after it that gives the same answers
abbrev pub Steps : SddlReader → List ℕ → List ℕ → SddlReader → List ℕ → Type 0
Steps old before bytes new after =
    (t : FieldsRead) → LineHasRead old before t → (u : FieldsRead) × LineHasRead new after u
    × ((rest : List ℕ) → answer_at new u rest ≡ answer_at old t (bytes ++ rest))

-- the same for a byte outside parentheses that begins no head
abbrev pub StepsText : SddlReader → List ℕ → ℕ → SddlReader → List ℕ → Type 0
StepsText old before b new after =
    (t : FieldsRead) → LineHasRead old before t → (u : FieldsRead) × LineHasRead new after u
    × ((rest : List ℕ) → head_at (byte b) (pieces_from false rest).after ≡ None
    → answer_at new u rest ≡ answer_at old t (b ∷ rest))

-- the same where a byte may wait for the next one after it
abbrev pub StepsOn : SddlReader → List ℕ → List ℕ → SddlReader → List ℕ → Type 0
StepsOn old before bytes new after =
    (t : FieldsRead) → LineHasRead old before t → (u : FieldsRead) × LineHasRead new after u
    × ((rest : List ℕ) → answer_at new u (option_to_list new.pending ++ rest) ≡ answer_at old t (bytes ++ rest))

-- what is held of a field is clean, and inside parentheses no blank counts as an end
pub record IsCalm (s : SddlReader) : Type 0 where
  pub held : IsHeld s.field
  pub gap : is_inside s.state ≡ true → s.field.gap ≡ false

-- what a step needs
pub record CanStep (s : SddlReader) (buf : List ℕ) : Type 0 where
  pub calm : IsCalm s
  -- something was read
  pub held : (t : FieldsRead) × LineHasRead s buf t

-- a step over some bytes that leaves what waits, and what is held of a field clean
pub record StepsOver (old : SddlReader) (before bytes : List ℕ) (new : SddlReader) (after : List ℕ) : Type 0 where
  pub answers : Steps old before bytes new after
  pub calm : IsCalm new
  pub pending : new.pending ≡ old.pending

-- a byte that waits is no parenthesis and no colon
pub record IsText (b : ℕ) : Type 0 where
  pub opens : (b == char "(") ≡ false
  pub closes : (b == char ")") ≡ false
  pub colon : (b == char ":") ≡ false

-- no byte of the field at hand came yet, none waits, and there is no fault
pub record IsFresh (s : SddlReader) : Type 0 where
  pub none : s.pending ≡ None
  pub clear : s.fault ≡ None
  pub begins : s.field ≡ no_text

-- what holds between two bytes
pub record IsReader (s : SddlReader) (buf : List ℕ) : Type 0 where
  pub calm : IsCalm s
  pub still : is_inside s.state ≡ true → s.pending ≡ None
  pub letter : (b : ℕ) → s.pending ≡ Some b → IsText b
  -- something was read
  pub read : FieldsRead
  pub held : LineHasRead s buf read

-- The reader and the buffer beside it have read this text under this domain: whatever follows, the answer is that to
-- the whole line.
abbrev pub Reads : SddlReader → List ℕ → Option SecurityId → List ℕ → Type 0
Reads s buf domain text =
    (t : FieldsRead) × LineHasRead s buf t
    × ((rest : List ℕ) → answer_at s t (option_to_list s.pending ++ rest) ≡ reads_as domain (text ++ rest))

-- they have read the line but for this rest of it
abbrev pub FedTo : SddlReader → List ℕ → Option SecurityId → List ℕ → List ℕ → Type 0
FedTo s buf domain rest line = (fed : List ℕ) × Reads s buf domain fed × (fed ++ rest ≡ line)

-- a call that takes bytes at the front of a text, if any, and leaves the rest
pub record Feeds (old : SddlReader) (before text : List ℕ) (new : SddlReader) (after rest : List ℕ) : Type 0 where
  pub shorter : length rest ≤ length text
  pub reader : IsReader new after
  pub read : (domain : Option SecurityId) (fed : List ℕ) → Reads old before domain fed
      → FedTo new after domain rest (fed ++ text)

-- the part at hand was read, and nothing is held of it
pub record EndsPart (s : SddlReader) (before : List ℕ) (e : SddlReader) (after : List ℕ) : Type 0 where
  pub read : (t : FieldsRead) → LineHasRead s before t → (u : FieldsRead)
      × (e.fault ≡ None → HasReadFields e.fields after u)
      × (unless e.fault u ≡ ended_with s.fields.domain s.state s.field (unless s.fault t))
  pub cleared : e.field ≡ no_text
  pub domain : e.fields.domain ≡ s.fields.domain
  pub same : e ≡ record s { field = e.field; fault = e.fault; fields = e.fields }

-- a head was noted
pub record NotesHead (e : SddlReader) (head : Head) (n : SddlReader) : Type 0 where
  pub state : n.state ≡ state_of head
  pub twice : n.twice ≡ (e.twice || is_seen e.seen head)
  pub seen : n.seen ≡ with_head e.seen head
  pub fault : n.fault ≡ (if is_seen e.seen head then Some fault.PartTwice else e.fault)
  pub same : n ≡ record e { state = n.state; twice = n.twice; seen = n.seen; fault = n.fault }

-- a field was read
pub record TakesWhole (s : SddlReader) (before : List ℕ) (sl : Slot) (text : List ℕ) (e : SddlReader) (after : List ℕ)
    : Type 0 where
  pub read : (t : FieldsRead) → HasReadFields s.fields before t → (u : FieldsRead)
      × (e.fault ≡ None → HasReadFields e.fields after u)
      × (unless e.fault u ≡ take_field s.fields.domain t sl text)
  pub domain : e.fields.domain ≡ s.fields.domain
  pub same : e ≡ record s { fault = e.fault; fields = e.fields }
