-- Steps of a reader: what the answer to one byte more is.
use Rattle.std.proofs.Common.{◌≡◌, ℕ, suc, Bool, true, false, ◌&&◌, ◌||◌, List, [], ◌∷◌, ◌++◌, length, refl, ap, sym}
use Rattle.std.proofs.Common.{◌∙◌, arith, ◌⊎◌, inl, inr}
use Rattle.std.specs.Prelude.{◌==◌, if◌then◌else◌, Result, Ok, Err, Option, Some, None}
use Rattle.std.specs.List.{flat_map}
use Rattle.std.proofs.Math.Dec.{eqb-suc-zero}
use Rattle.std.proofs.lemmas.Bool.Decides.{nat_tests}
use Rattle.std.proofs.lemmas.Bool.{and_right}
use Rattle.std.proofs.Math.Bool.{or-true, or-false}
use Rattle.sd_sid.specs.Sid.{SecurityId}
use Rattle.sd_parts.specs.declared.part.Which.{Which}
use Rattle.sd_sddl_builder.specs.declared.fault.SddlFault.{SddlFault}
use Rattle.sd_sddl_builder.specs.declared.fault.SddlFault.TheVariants as fault
use Rattle.sd_sddl_builder.specs.declared.slot.AceField.{AceField}
use Rattle.sd_sddl_builder.specs.declared.slot.AceField.TheVariants as field
use Rattle.sd_sddl_builder.specs.declared.slot.Head.{Head}
use Rattle.sd_sddl_builder.specs.declared.slot.Head.TheVariants as head
use Rattle.sd_sddl_reader.specs.declared.line.State.{State}
use Rattle.sd_sddl_reader.specs.declared.line.State.TheVariants as state
use Rattle.sd_parts.specs.Parts.{each_part}
use Rattle.sd_parts.specs.declared.part.SidPart.{SidPart}
use Rattle.sd_sddl_builder.specs.declared.slot.Slot.{Slot}
use Rattle.sd_sddl_builder.specs.declared.slot.Slot.TheVariants as slot
use Rattle.sd_sddl_fields.specs.Held.{Held, IsHeld, no_text, held_text}
use Rattle.sd_sddl_builder.specs.Line.{is_paired, Piece, byte, ace, pieces_from, sections, Sections}
use Rattle.sd_sddl_builder.specs.Line.{is_sid_body, are_aces, is_acl_body, are_shaped, cut_at_semicolons, front, aces}
use Rattle.sd_sddl_builder.specs.Line.{has_aces, has_twice, has_head, head_at, head_of, sections_of, begins_with_colon}
use Rattle.sd_sddl_builder.specs.Line.{has_seen, is_body, part_of_head, same_head}
use Rattle.sd_sddl_fields.specs.FieldTexts.{is_blank}
use Rattle.sd_sddl_builder.specs.FoldedReading.{Field, FieldsRead, ace_fields, ace_fields_from, fields_in, fields_of}
use Rattle.sd_sddl_builder.specs.FoldedReading.{next_field, nothing_read, read_fields, reads_as, take_field, if_shaped}
use Rattle.sd_text.specs.Chains.{and_then, unless}
use Rattle.sd_sddl_reader.specs.Inner.Progress.{Seen, is_inside, fields_left, is_shaped_here, text_with, inner_with}
use Rattle.sd_sddl_reader.specs.Inner.Progress.{fields_here, is_seen, with_head, judged, rest_answer}
use Rattle.sd_sddl_reader.specs.Inner.Progress.{state_of, ended_with}
use Rattle.sd_sddl_builder.proofs.laws.Heads.{head-paired, headed, no_head, not_letter}
use Rattle.sd_sddl_builder.proofs.laws.SeenLaws.{has-seen-with, none-seen, set-seen}
use Rattle.sd_sddl_reader.proofs.FieldTexts.{Same, same_reads, text_ended, inner_ended}

-- 1. Small facts.

no_both : (x y z : Bool) → z ≡ false → (x && (y && z)) ≡ false
no_both true true z e = e
no_both true false z e = refl
no_both false y z e = refl

-- a shape that fails
unshaped : (x t : Bool) (r : Result FieldsRead SddlFault) → x ≡ false → if_shaped x t r ≡ Err fault.Shape
unfolding if_shaped
unshaped x t r e = rw e refl

-- the texts of the field at hand may be changed for others that read as the same
swap : (dm : Option SecurityId) (r : Result FieldsRead SddlFault) (s : Slot) (t u : List ℕ) (fs : List Field) → Same t u
    → and_then r (read_fields dm (record { slot = s; text = t } ∷ fs)) ≡ and_then r
    (read_fields dm (record { slot = s; text = u } ∷ fs))
swap dm (Ok b) s t u fs h = ap (λ x. and_then x (read_fields dm fs)) (same_reads t u h dm b s)
swap dm (Err e) s t u fs h = refl

-- the field at hand is read, and then the others
ended : (dm : Option SecurityId) (r : Result FieldsRead SddlFault) (s : Slot) (t : List ℕ) (fs : List Field)
    → and_then r (read_fields dm (record { slot = s; text = t } ∷ fs)) ≡ and_then
    (and_then r (λ b. take_field dm b s t)) (read_fields dm fs)
ended dm (Ok b) s t fs = refl
ended dm (Err e) s t fs = refl

-- 2. A byte outside parentheses that begins no head goes onto the part at hand.

pub plain : (dm : Option SecurityId) (so tw : Bool) (se : Seen) (r : Result FieldsRead SddlFault) (pl : State)
    (h : Held) (b : ℕ) (bs : List ℕ) → is_inside pl ≡ false
    → (b == 40) ≡ false → (b == 41) ≡ false → head_at (byte b) (pieces_from false bs).after ≡ None
    → rest_answer dm so tw se r pl h (b ∷ bs)
    ≡ judged dm so tw se r pl h (is_paired false bs) []
    (record { before = byte b ∷ (sections_of bs).before; parts = (sections_of bs).parts })
unfolding rest_answer
plain dm so tw se r pl h b bs out e40 e41 none = rw (out, e40, e41, none) refl

-- 3. In an owner or a group, and in a list before its first entry.

module _ (dm : Option SecurityId) (so tw : Bool) (se : Seen) (r : Result FieldsRead SddlFault) (b : ℕ) (bs : List ℕ)
    (e40 : (b == 40) ≡ false) (e41 : (b == 41) ≡ false)
    (none : head_at (byte b) (pieces_from false bs).after ≡ None) where
  shaped : Bool → Bool
  shaped here = so && (is_paired false bs && (here && are_shaped (sections_of bs).parts))

  twice : Bool
  twice = tw || (has_seen se (sections_of bs).parts || has_twice (sections_of bs).parts)

  pub sid_text : (p : SidPart) (h h' : Held) → (b == 58) ≡ false
      → ((t : List ℕ) → Same (text_with h (b ∷ t)) (text_with h' t))
      → rest_answer dm so tw se r (state.Sid p) h' bs ≡ rest_answer dm so tw se r (state.Sid p) h (b ∷ bs)
  unfolding rest_answer judged shaped twice
  sid_text p h h' e58 same =
      sym (rw (plain dm so tw se r (state.Sid p) h b bs refl e40 e41 none, e58)
      (ap (λ x. if_shaped (shaped (is_sid_body (sections_of bs).before)) twice x)
      (swap dm r (slot.Sid p) _ _ (fields_of (sections_of bs).parts) (same (front (sections_of bs).before)))))

  pub control_text : (w : Which) (h h' : Held) → (b == 58) ≡ false
      → ((t : List ℕ) → Same (text_with h (b ∷ t)) (text_with h' t))
      → rest_answer dm so tw se r (state.AclFlags w) h' bs ≡ rest_answer dm so tw se r (state.AclFlags w) h (b ∷ bs)
  unfolding rest_answer judged shaped twice
  control_text w h h' e58 same =
      sym (rw (plain dm so tw se r (state.AclFlags w) h b bs refl e40 e41 none, e58)
      (ap (λ x. if_shaped (shaped (is_acl_body (sections_of bs).before)) twice x)
      (swap dm r (slot.AclFlags w (has_aces (sections_of bs).before)) _ _
      (flat_map ace_fields (aces (sections_of bs).before) ++ fields_of (sections_of bs).parts)
      (same (front (sections_of bs).before)))))

  -- blanks before the first head and between aces
  pub before_blank : (h : Held) → is_blank b ≡ true
      → rest_answer dm so tw se r state.Before h bs ≡ rest_answer dm so tw se r state.Before h (b ∷ bs)
  unfolding rest_answer judged
  before_blank h e = sym (rw (plain dm so tw se r state.Before h b bs refl e40 e41 none, e) refl)

  pub between_blank : (h : Held) → is_blank b ≡ true
      → rest_answer dm so tw se r state.AfterAce h bs ≡ rest_answer dm so tw se r state.AfterAce h (b ∷ bs)
  unfolding rest_answer judged
  between_blank h e = sym (rw (plain dm so tw se r state.AfterAce h b bs refl e40 e41 none, e) refl)

  -- nothing else stands there
  pub before_other : (h : Held) → is_blank b ≡ false
      → rest_answer dm so tw se r state.Before h (b ∷ bs) ≡ Err fault.Shape
  unfolding rest_answer judged
  before_other h e = rw (plain dm so tw se r state.Before h b bs refl e40 e41 none, e)
      (unshaped _ _ _ (no_both so _ _ refl))

  pub between_other : (h : Held) → is_blank b ≡ false
      → rest_answer dm so tw se r state.AfterAce h (b ∷ bs) ≡ Err fault.Shape
  unfolding rest_answer judged
  between_other h e = rw (plain dm so tw se r state.AfterAce h b bs refl e40 e41 none, e)
      (unshaped _ _ _ (no_both so _ _ refl))

-- 4. Bytes that break the shape.

module _ (dm : Option SecurityId) (so tw : Bool) (se : Seen) (r : Result FieldsRead SddlFault) (h : Held)
    (bs : List ℕ) where
  -- a parenthesis that closes where none is open
  pub close_outside : (pl : State) → is_inside pl ≡ false → rest_answer dm so tw se r pl h (41 ∷ bs) ≡ Err fault.Shape
  unfolding rest_answer judged
  close_outside pl out = rw out (unshaped _ _ _ (and_right so _ refl))

  -- a parenthesis in a parenthesis
  pub open_inside : (c : AceField) → rest_answer dm so tw se r (state.Ace c) h (40 ∷ bs) ≡ Err fault.Shape
  unfolding rest_answer judged
  open_inside c = unshaped _ _ _ (and_right so _ refl)

  -- a colon with no letter before it
  pub colon : (pl : State) → is_inside pl ≡ false → rest_answer dm so tw se r pl h (58 ∷ bs) ≡ Err fault.Shape
  unfolding judged
  colon pl out = rw (plain dm so tw se r pl h 58 bs out refl refl
      (no_head (begins_with_colon (pieces_from false bs).after) (head_of 58) refl))
      (unshaped _ _ _ (no_both so _ _ (here pl out)))
    where
      here : (pl : State) → is_inside pl ≡ false
          → (is_shaped_here pl [] (byte 58 ∷ (sections_of bs).before) && are_shaped (sections_of bs).parts) ≡ false
      here state.Before out = refl
      here (state.Sid p) out = refl
      here (state.AclFlags w) out = refl
      here state.AfterAce out = refl
      here (state.Ace c) out = absurd cc

  -- a parenthesis where no list is
  pub open_before : rest_answer dm so tw se r state.Before h (40 ∷ bs) ≡ Err fault.Shape
  unfolding rest_answer judged
  open_before = unshaped _ _ _ (no_both so _ _ refl)

  pub open_sid : (p : SidPart) → rest_answer dm so tw se r (state.Sid p) h (40 ∷ bs) ≡ Err fault.Shape
  unfolding rest_answer judged
  open_sid p = unshaped _ _ _ (no_both so _ _ refl)

  pub unsound : (pl : State) → rest_answer dm false tw se r pl h bs ≡ Err fault.Shape
  unfolding rest_answer judged if_shaped
  unsound pl = refl

-- 5. An entry.

module _ (dm : Option SecurityId) (so tw : Bool) (se : Seen) (r : Result FieldsRead SddlFault) (h : Held)
    (bs : List ℕ) where
  -- it begins, and ends what stood before it
  pub open_first : (w : Which) → IsHeld h
      → rest_answer dm so tw se (and_then r (λ b. take_field dm b (slot.AclFlags w true) (held_text h)))
      (state.Ace field.Kind) no_text bs ≡ rest_answer dm so tw se r (state.AclFlags w) h (40 ∷ bs)
  unfolding rest_answer judged
  open_first w k = sym
      (ap (λ x. if_shaped (so && (is_paired true
      bs && (are_aces (ace
      (pieces_from true bs).held ∷ (sections (pieces_from true bs).after).before) && are_shaped
      (sections (pieces_from true bs).after).parts)))
      (tw || (has_seen se (sections (pieces_from true bs).after).parts || has_twice
      (sections (pieces_from true bs).after).parts)) x)
      (ended dm r (slot.AclFlags w true) (text_with h []) _
      ∙ ap (λ t. and_then (and_then r (λ b. take_field dm b (slot.AclFlags w true) t))
      (read_fields dm (flat_map ace_fields
      ((pieces_from true bs).held ∷ aces (sections (pieces_from true bs).after).before)
      ++ fields_of (sections (pieces_from true bs).after).parts))) (text_ended h k)))

  pub open_next : rest_answer dm so tw se r (state.Ace field.Kind) no_text bs ≡ rest_answer dm so tw se r
      state.AfterAce h (40 ∷ bs)
  unfolding rest_answer judged
  open_next = refl

  -- a byte of a field
  pub entry_text : (c : AceField) (h' : Held) (b : ℕ) → (b == 40) ≡ false → (b == 41) ≡ false → (b == 59) ≡ false
      → ((t : List ℕ) → Same (inner_with h (b ∷ t)) (inner_with h' t))
      → rest_answer dm so tw se r (state.Ace c) h' bs ≡ rest_answer dm so tw se r (state.Ace c) h (b ∷ bs)
  unfolding rest_answer judged
  entry_text c h' b e40 e41 e59 same =
      sym (rw (e40, e41, e59)
      (ap (λ x. if_shaped (so && (is_paired true
      bs && (is_shaped_here (state.Ace c) (pieces_from true bs).held
      (sections (pieces_from true bs).after).before && are_shaped
      (sections (pieces_from true bs).after).parts)))
      (tw || (has_seen se (sections (pieces_from true bs).after).parts || has_twice
      (sections (pieces_from true bs).after).parts)) x)
      (swap_first (cut_at_semicolons (pieces_from true bs).held).others)))
    where
      swap_first : (o : List (List ℕ))
          → and_then r (read_fields dm
          ((ace_fields_from c (inner_with h (b ∷ (cut_at_semicolons (pieces_from true bs).held).first)) o
          ++ flat_map ace_fields (aces (sections (pieces_from true bs).after).before))
          ++ fields_of (sections (pieces_from true bs).after).parts))
          ≡ and_then r (read_fields dm
          ((ace_fields_from c (inner_with h' (cut_at_semicolons (pieces_from true bs).held).first) o
          ++ flat_map ace_fields (aces (sections (pieces_from true bs).after).before))
          ++ fields_of (sections (pieces_from true bs).after).parts))
      swap_first [] = swap dm r (slot.Ace c) _ _ _ (same (cut_at_semicolons (pieces_from true bs).held).first)
      swap_first (t ∷ ts) = swap dm r (slot.Ace c) _ _ _ (same (cut_at_semicolons (pieces_from true bs).held).first)

  rest : Sections
  rest = sections (pieces_from false bs).after

  inner : Sections
  inner = sections (pieces_from true bs).after

  -- the entry ends after its last field
  pub close_last : rest_answer dm so tw se (and_then r (λ b. take_field dm b (slot.Ace field.Sid) (held_text h)))
      state.AfterAce no_text bs ≡ rest_answer dm so tw se r (state.Ace field.Sid) h (41 ∷ bs)
  unfolding rest_answer judged rest
  close_last = sym (ap
      (λ x. if_shaped (so && (is_paired false bs && (are_aces rest.before && are_shaped rest.parts)))
      (tw || (has_seen se rest.parts || has_twice rest.parts)) x)
      (ended dm r (slot.Ace field.Sid) (inner_with h []) _
      ∙ ap (λ t. and_then (and_then r (λ b. take_field dm b (slot.Ace field.Sid) t))
      (read_fields dm (flat_map ace_fields (aces rest.before) ++ fields_of rest.parts))) (inner_ended h)))

  -- or too early
  pub close_early : (c : AceField) → (fields_left c == 0) ≡ false
      → rest_answer dm so tw se r (state.Ace c) h (41 ∷ bs) ≡ Err fault.Shape
  unfolding rest_answer judged
  close_early field.Kind e = unshaped _ _ _ (no_both so _ _ refl)
  close_early field.Flags e = unshaped _ _ _ (no_both so _ _ refl)
  close_early field.Rights e = unshaped _ _ _ (no_both so _ _ refl)
  close_early field.Object e = unshaped _ _ _ (no_both so _ _ refl)
  close_early field.Inherited e = unshaped _ _ _ (no_both so _ _ refl)
  close_early field.Sid e = absurd cc

  -- a semicolon too many
  pub cut_late : rest_answer dm so tw se r (state.Ace field.Sid) h (59 ∷ bs) ≡ Err fault.Shape
  unfolding rest_answer judged
  cut_late = rw (eqb-suc-zero (length (cut_at_semicolons (pieces_from true bs).held).others))
      (unshaped _ _ _ (no_both so _ _ refl))

  -- the next field
  pub cut : (c : AceField) → (fields_left c == 0) ≡ false
      → rest_answer dm so tw se (and_then r (λ b. take_field dm b (slot.Ace c) (held_text h)))
      (state.Ace (next_field c)) no_text bs ≡ rest_answer dm so tw se r (state.Ace c) h (59 ∷ bs)
  unfolding rest_answer judged inner
  cut c e = sym (rw (left c e (length (cut_at_semicolons (pieces_from true bs).held).others))
      (ap (λ x. if_shaped (so && (is_paired true
      bs && ((length (cut_at_semicolons (pieces_from true bs).held).others == fields_left (next_field c) && are_aces
      inner.before) && are_shaped inner.parts))) (tw || (has_seen se inner.parts || has_twice inner.parts)) x)
      (ended dm r (slot.Ace c) (inner_with h []) _
      ∙ ap (λ t. and_then (and_then r (λ b. take_field dm b (slot.Ace c) t))
      (read_fields dm ((ace_fields_from (next_field c) (cut_at_semicolons (pieces_from true bs).held).first
      (cut_at_semicolons (pieces_from true bs).held).others ++ flat_map ace_fields (aces inner.before))
      ++ fields_of inner.parts))) (inner_ended h))))
    where
      left : (c : AceField) → (fields_left c == 0) ≡ false → (n : ℕ)
          → (suc n == fields_left c) ≡ (n == fields_left (next_field c))
      left field.Kind e n = grind (arith, nat_tests)
      left field.Flags e n = grind (arith, nat_tests)
      left field.Rights e n = grind (arith, nat_tests)
      left field.Object e n = grind (arith, nat_tests)
      left field.Inherited e n = grind (arith, nat_tests)
      left field.Sid e n = absurd cc

-- 6. A head.

ends_here : (dm : Option SecurityId) (pl : State) (h : Held) (r : Result FieldsRead SddlFault) (fs : List Field)
    → IsHeld h → is_inside pl ≡ false
    → and_then r (read_fields dm (fields_here pl h [] [] ++ fs)) ≡ and_then (ended_with dm pl h r) (read_fields dm fs)
ends_here dm state.Before h r fs k out = refl
ends_here dm (state.Sid p) h r fs k out = ended dm r (slot.Sid p) (text_with h []) fs
    ∙ ap (λ t. and_then (and_then r (λ b. take_field dm b (slot.Sid p) t)) (read_fields dm fs)) (text_ended h k)
ends_here dm (state.AclFlags w) h r fs k out = ended dm r (slot.AclFlags w false) (text_with h []) fs
    ∙ ap (λ t. and_then (and_then r (λ b. take_field dm b (slot.AclFlags w false) t)) (read_fields dm fs))
    (text_ended h k)
ends_here dm state.AfterAce h r fs k out = refl
ends_here dm (state.Ace c) h r fs k out = absurd cc

shaped_end : (pl : State) → is_inside pl ≡ false → is_shaped_here pl [] [] ≡ true
shaped_end state.Before out = refl
shaped_end (state.Sid p) out = refl
shaped_end (state.AclFlags w) out = refl
shaped_end state.AfterAce out = refl
shaped_end (state.Ace c) out = absurd cc

mixed : (x u v y z : Bool) → (x || ((u || v) || (y || z))) ≡ ((x || u) || ((v || y) || z))
mixed true u v y z = refl
mixed false true v y z = refl
mixed false false true y z = refl
mixed false false false y z = refl

pub seen_with : (se : Seen) (p q : Head) → is_seen (with_head se p) q ≡ (is_seen se q || same_head p q)
seen_with se p q = set-seen se (part_of_head p) (part_of_head q)

same_body : (p : Head) (ps : List Piece) → is_body p ps ≡ is_shaped_here (state_of p) [] ps
same_body (head.Sid p) ps = refl
same_body (head.Acl w) ps = refl

same_fields : (p : Head) (ps : List Piece) → fields_in p ps ≡ fields_here (state_of p) no_text [] ps
same_fields (head.Sid p) ps = refl
same_fields (head.Acl w) ps = refl

outside : (p : Head) → is_inside (state_of p) ≡ false
outside (head.Sid p) = refl
outside (head.Acl w) = refl

-- what the parentheses at hand hold matters only inside them
from_outside : (dm : Option SecurityId) (so tw : Bool) (se : Seen) (r : Result FieldsRead SddlFault) (pl : State)
    (h : Held) (bs : List ℕ) → is_inside pl ≡ false
    → rest_answer dm so tw se r pl h bs ≡ judged dm so tw se r pl h (is_paired false bs) [] (sections_of bs)
unfolding rest_answer judged
from_outside dm so tw se r state.Before h bs out = refl
from_outside dm so tw se r (state.Sid p) h bs out = refl
from_outside dm so tw se r (state.AclFlags w) h bs out = refl
from_outside dm so tw se r state.AfterAce h bs out = refl
from_outside dm so tw se r (state.Ace c) h bs out = absurd cc

pub begin : (dm : Option SecurityId) (so tw : Bool) (se : Seen) (r : Result FieldsRead SddlFault) (pl : State)
    (h : Held) (b : ℕ) (p : Head) (bs : List ℕ) → is_inside pl ≡ false → IsHeld h → head_of b ≡ Some p
    → rest_answer dm so (tw || is_seen se p) (with_head se p) (ended_with dm pl h r) (state_of p) no_text
    bs ≡ rest_answer dm so tw se r pl h (b ∷ 58 ∷ bs)
unfolding judged
begin dm so tw se r pl h b p bs out k e =
    let e40 = not_letter b 40 p e refl in
    let e41 = not_letter b 41 p e refl in
    from_outside dm so (tw || is_seen se p) (with_head se p) (ended_with dm pl h r) (state_of p) no_text bs (outside p)
    ∙ sym (from_outside dm so tw se r pl h (b ∷ 58 ∷ bs) out
    ∙ rw (
      headed b p bs e e40,
      head-paired b bs e40 e41,
      shaped_end pl out,
      same_body p (sections_of bs).before,
      mixed tw (is_seen se p) (has_seen se (sections_of bs).parts) (has_head p (sections_of bs).parts)
          (has_twice (sections_of bs).parts),
      ← has-seen-with se p (sections_of bs).parts,
      ends_here dm pl h r (fields_in p (sections_of bs).before ++ fields_of (sections_of bs).parts) k out,
      same_fields p (sections_of bs).before,
    ) refl)

-- after a second head of one letter nothing that is read counts
twice-any : (dm : Option SecurityId) (so tw : Bool) (se : Seen) (r r' : Result FieldsRead SddlFault) (pl : State)
    (h : Held) (bs : List ℕ) → tw ≡ true → rest_answer dm so tw se r pl h bs ≡ rest_answer dm so tw se r' pl h bs
unfolding rest_answer judged if_shaped
twice-any dm so tw se r r' pl h bs e = rw e refl

pub begin-noted : (dm : Option SecurityId) (so tw : Bool) (se : Seen) (r : Result FieldsRead SddlFault) (pl : State)
    (h : Held) (b : ℕ) (p : Head) (bs : List ℕ) (u : FieldsRead) (fault' : Option SddlFault)
    → is_inside pl ≡ false → IsHeld h → head_of b ≡ Some p → unless fault' u ≡ ended_with dm pl h r
    → rest_answer dm so (tw || is_seen se p) (with_head se p)
    (unless (if is_seen se p then Some fault.PartTwice else fault') u) (state_of p) no_text bs ≡ rest_answer dm
    so tw se r pl h (b ∷ 58 ∷ bs)
begin-noted dm so tw se r pl h b p bs u fault' out k e read = by_seen (is_seen se p) refl
  where
    by_seen : (x : Bool) → is_seen se p ≡ x
        → rest_answer dm so (tw || is_seen se p) (with_head se p)
        (unless (if x then Some fault.PartTwice else fault') u) (state_of p) no_text bs ≡ rest_answer dm so tw
        se r pl h (b ∷ 58 ∷ bs)
    by_seen true f = twice-any dm so (tw || is_seen se p) (with_head se p) (Err fault.PartTwice) (ended_with dm pl h r)
        (state_of p) no_text bs (rw f (or-true tw))
        ∙ begin dm so tw se r pl h b p bs out k e
    by_seen false f = ap (λ (x : Result FieldsRead SddlFault). rest_answer dm so (tw || is_seen se p) (with_head se p)
        x (state_of p) no_text bs) read
        ∙ begin dm so tw se r pl h b p bs out k e

-- 7. The end of the line.

pub finished : (dm : Option SecurityId) (tw : Bool) (se : Seen) (r : Result FieldsRead SddlFault) (pl : State)
    (h : Held) → is_inside pl ≡ false → IsHeld h
    → rest_answer dm true tw se r pl h [] ≡ (if tw then Err fault.PartTwice else ended_with dm pl h r)
unfolding judged if_shaped
finished dm tw se r pl h out k = from_outside dm true tw se r pl h [] out
    ∙ rw (shaped_end pl out, ends_here dm pl h r [] k out, or-false tw) (by_result tw (ended_with dm pl h r))
  where
    by_result : (tw : Bool) (r : Result FieldsRead SddlFault)
        → (if tw then Err fault.PartTwice else and_then r (read_fields dm [])) ≡ (if tw then Err fault.PartTwice else r)
    by_result true r = refl
    by_result false (Ok b) = refl
    by_result false (Err e) = refl

pub unfinished : (dm : Option SecurityId) (so tw : Bool) (se : Seen) (r : Result FieldsRead SddlFault) (c : AceField)
    (h : Held) → rest_answer dm so tw se r (state.Ace c) h [] ≡ Err fault.Shape
unfolding rest_answer judged
unfinished dm so tw se r c h = unshaped _ _ _ (and_right so _ refl)

-- 8. The start.

pub started : (dm : Option SecurityId) (h : Held) (text : List ℕ)
    → rest_answer dm true false (each_part false) (Ok nothing_read)
    state.Before h text ≡ reads_as dm text
unfolding rest_answer judged reads_as
started dm h text = rw (none-seen (sections_of text).parts) refl

-- a column that is not the last has a semicolon after it
pub column_more : (c : AceField) → (c ≡ field.Sid → ⊥) → (fields_left c == 0) ≡ false
column_more field.Kind n = refl
column_more field.Flags n = refl
column_more field.Rights n = refl
column_more field.Object n = refl
column_more field.Inherited n = refl
column_more field.Sid n = absurd (n refl)

-- 9. By state.

module _ (dm : Option SecurityId) (so tw : Bool) (se : Seen) (r : Result FieldsRead SddlFault) (h : Held) (b : ℕ)
    (bs : List ℕ) (e40 : (b == 40) ≡ false) (e41 : (b == 41) ≡ false)
    (none : head_at (byte b) (pieces_from false bs).after ≡ None) where
  pub outside_text : (pl : State) (h' : Held) → (b == 58) ≡ false
      → ((t : List ℕ) → Same (text_with h (b ∷ t)) (text_with h' t))
      → ((p : SidPart) × (pl ≡ state.Sid p)) ⊎ ((w : Which) × (pl ≡ state.AclFlags w))
      → rest_answer dm so tw se r pl h' bs ≡ rest_answer dm so tw se r pl h (b ∷ bs)
  outside_text pl h' e58 same (inl w) = rw (w.1) (sid_text dm so tw se r b bs e40 e41 none w.0 h h' e58 same)
  outside_text pl h' e58 same (inr w) = rw (w.1) (control_text dm so tw se r b bs e40 e41 none w.0 h h' e58 same)

  pub outside_blank : (pl : State) → is_inside pl ≡ false → ((p : SidPart) → pl ≡ state.Sid p → ⊥)
      → ((w : Which) → pl ≡ state.AclFlags w → ⊥) → is_blank b ≡ true
      → rest_answer dm so tw se r pl h bs ≡ rest_answer dm so tw se r pl h (b ∷ bs)
  outside_blank state.Before out ns nc e = before_blank dm so tw se r b bs e40 e41 none h e
  outside_blank (state.Sid p) out ns nc e = absurd (ns p refl)
  outside_blank (state.AclFlags w) out ns nc e = absurd (nc w refl)
  outside_blank state.AfterAce out ns nc e = between_blank dm so tw se r b bs e40 e41 none h e
  outside_blank (state.Ace c) out ns nc e = absurd cc

  pub outside_other : (pl : State) → is_inside pl ≡ false → ((p : SidPart) → pl ≡ state.Sid p → ⊥)
      → ((w : Which) → pl ≡ state.AclFlags w → ⊥) → is_blank b ≡ false
      → rest_answer dm so tw se r pl h (b ∷ bs) ≡ Err fault.Shape
  outside_other state.Before out ns nc e = before_other dm so tw se r b bs e40 e41 none h e
  outside_other (state.Sid p) out ns nc e = absurd (ns p refl)
  outside_other (state.AclFlags w) out ns nc e = absurd (nc w refl)
  outside_other state.AfterAce out ns nc e = between_other dm so tw se r b bs e40 e41 none h e
  outside_other (state.Ace c) out ns nc e = absurd cc

pub open_nowhere : (dm : Option SecurityId) (so tw : Bool) (se : Seen) (r : Result FieldsRead SddlFault) (h : Held)
    (bs : List ℕ) (pl : State) → is_inside pl ≡ false → ((w : Which) → pl ≡ state.AclFlags w → ⊥)
    → (pl ≡ state.AfterAce → ⊥) → rest_answer dm so tw se r pl h (40 ∷ bs) ≡ Err fault.Shape
open_nowhere dm so tw se r h bs state.Before out nc nb = open_before dm so tw se r h bs
open_nowhere dm so tw se r h bs (state.Sid p) out nc nb = open_sid dm so tw se r h bs p
open_nowhere dm so tw se r h bs (state.AclFlags w) out nc nb = absurd (nc w refl)
open_nowhere dm so tw se r h bs state.AfterAce out nc nb = absurd (nb refl)
open_nowhere dm so tw se r h bs (state.Ace c) out nc nb = absurd cc

pub outside_of : (pl : State) → ((c : AceField) → pl ≡ state.Ace c → ⊥) → is_inside pl ≡ false
outside_of state.Before n = refl
outside_of (state.Sid p) n = refl
outside_of (state.AclFlags w) n = refl
outside_of state.AfterAce n = refl
outside_of (state.Ace c) n = absurd (n c refl)

pub finished_twice : (dm : Option SecurityId) (tw : Bool) (se : Seen) (r : Result FieldsRead SddlFault) (pl : State)
    (h : Held) → is_inside pl ≡ false → IsHeld h → tw ≡ true → rest_answer dm true tw se r pl h [] ≡ Err fault.PartTwice
finished_twice dm true se r pl h out k e = finished dm true se r pl h out k
finished_twice dm false se r pl h out k e = absurd cc

pub finished_once : (dm : Option SecurityId) (tw : Bool) (se : Seen) (r : Result FieldsRead SddlFault) (pl : State)
    (h : Held) → is_inside pl ≡ false → IsHeld h → tw ≡ false
    → rest_answer dm true tw se r pl h [] ≡ ended_with dm pl h r
finished_once dm true se r pl h out k e = absurd cc
finished_once dm false se r pl h out k e = finished dm false se r pl h out k
