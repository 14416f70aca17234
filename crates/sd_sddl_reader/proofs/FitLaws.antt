-- Which parts are given, and which ACL is open, in the middle of a line.
use Rattle.std.proofs.Common.{◌≡◌, ℕ, List, Option, Some, None, Bool, true, false, refl, sym, ap, ◌∙◌, subst}
use Rattle.std.proofs.Common.{arith, true≢false}
use Rattle.std.specs.Prelude.{if◌then◌else◌, ◌||◌, not, IfOk, Result, Ok, Err}
use Rattle.std.proofs.lemmas.Bool.{or_left, or_right, not_from_false}
use Rattle.sd_sid.specs.Sid.{SecurityId}
use Rattle.sd_parts.specs.Parts.{each_part, get_part}
use Rattle.sd_parts.proofs.laws.PartLaws.{same-is, same-self}
use Rattle.sd_sddl_builder.specs.Line.{part_of_head, same_head}
use Rattle.sd_sddl_builder.specs.FoldedReading.{FieldsRead, nothing_read, take_field}
use Rattle.sd_text.specs.Chains.{and_then, unless}
use Rattle.sd_sddl_fields.specs.Held.{Held, held_text, no_text}
use Rattle.sd_sddl_reader.specs.Inner.Progress.{Seen, ended_with, is_seen, state_of, with_head}
use Rattle.sd_sddl_reader.proofs.Steps.{seen_with}
use Rattle.sd_sddl_builder.proofs.laws.FieldParts.{if-ok, lacks-taken, open-front, open-taken}
use Rattle.sd_sddl_builder.specs.FieldReading.{CanTake, HasReadFields, Lacks}
use Rattle.sd_sddl_reader.specs.Inner.Reads.{Fits, IsCalm, LineHasRead, is_at_front, is_in_acl}
use Rattle.sd_sddl_builder.specs.declared.fault.SddlFault.{SddlFault}
use Rattle.sd_sddl_builder.specs.declared.slot.AceField.{AceField}
use Rattle.sd_sddl_builder.specs.declared.slot.AceField.TheVariants as field
use Rattle.sd_sddl_builder.specs.declared.slot.Head.{Head}
use Rattle.sd_sddl_builder.specs.declared.slot.Head.TheVariants as head
use Rattle.sd_sddl_reader.specs.declared.line.State.{State}
use Rattle.sd_sddl_reader.specs.declared.line.State.TheVariants as state
use Rattle.sd_parts.specs.declared.part.SidPart.TheVariants as sid_part
use Rattle.sd_sddl_builder.specs.declared.slot.Slot.TheVariants as slot
use Rattle.sd_sddl_reader.specs.declared.reader.SddlReader.{SddlReader}
use Rattle.sd_parts.specs.declared.part.Which.{Which}
use Rattle.sd_parts.specs.declared.part.Which.TheVariants as which

-- 1. Where no fault is found, none was there, and the field was read.
pub taken : (fault : Option SddlFault) (t u : FieldsRead) (next : FieldsRead → Result FieldsRead SddlFault)
    → Ok u ≡ and_then (unless fault t) next
    → (fault ≡ None) × (next t ≡ Ok u)
taken None t u next e = (refl, sym e)
taken (Some f) t u next e = absurd cc

pub calm-cleared : (s : SddlReader) → s.field ≡ no_text → IsCalm s
calm-cleared s e = record { held = rw e (record { clean = refl; fits = omega arith }); gap = λ _. rw e refl }

-- 2. Places.

-- a part that was not seen is not at hand
not-here : (p : State) (seen : Seen) (t : FieldsRead) → Fits p seen t → (h : Head) → is_seen seen h ≡ false
    → is_at_front p h ≡ false
not-here p seen t k h e = by_front (is_at_front p h) refl
  where
    by_front : (b : Bool) → is_at_front p h ≡ b → is_at_front p h ≡ false
    by_front true f = absurd (true≢false (sym (k.here h f) ∙ e))
    by_front false f = f

not_or_false : (x : Bool) → (not x || false) ≡ true → x ≡ false
not_or_false true e = absurd cc
not_or_false false e = refl

-- an ACL's first parenthesis
pub fits-first : (domain : Option SecurityId) (w : Which) (seen : Seen) (t u : FieldsRead) (text : List ℕ)
    → take_field domain t (slot.AclFlags w true) text ≡ Ok u
    → Fits (state.AclFlags w) seen t → Fits (state.Ace field.Kind) seen u
fits-first domain w seen t u text e k = record {
  here = λ h f. absurd cc;
  lacks = λ h f.
      let unseen = not_or_false (is_seen seen h) f in
      lacks-taken domain t u (slot.AclFlags w true) text h e (not-here (state.AclFlags w) seen t k h unseen)
      (k.lacks h (or_left (not (is_seen seen h)) _ (not_from_false (is_seen seen h) unseen)));
  opened = λ _. open-front domain t u w text e;
}

-- a further one
pub fits-next : (seen : Seen) (t : FieldsRead) → Fits state.AfterAce seen t → Fits (state.Ace field.Kind) seen t
fits-next seen t k = record { here = λ h f. absurd cc; lacks = k.lacks; opened = λ _. k.opened refl }

-- a field of an ACE
pub fits-field : (domain : Option SecurityId) (f : AceField) (p : State) (seen : Seen) (t u : FieldsRead)
    (text : List ℕ) → take_field domain t (slot.Ace f) text ≡ Ok u
    → ((h : Head) → is_at_front p h ≡ false) → Fits (state.Ace f) seen t → Fits p seen u
fits-field domain f p seen t u text e none k = record {
  here = λ h g. absurd (true≢false (sym g ∙ none h));
  lacks = λ h g.
      let unseen = not_or_false (is_seen seen h) (sym (ap (λ b. not (is_seen seen h) || b) (none h)) ∙ g) in
      lacks-taken domain t u (slot.Ace f) text h e refl
      (k.lacks h (or_left (not (is_seen seen h)) _ (not_from_false (is_seen seen h) unseen)));
  opened = λ _. open-taken domain t u f text e (k.opened refl);
}

-- 3. What a reader keeps.

module _ (fault fault' : Option SddlFault) (t u : FieldsRead) (next : FieldsRead → Result FieldsRead SddlFault)
    (e : unless fault' u ≡ and_then (unless fault t) next) where
  -- where no fault is found, none was there, and the field was read
  pub none-before : fault' ≡ None → fault ≡ None
  none-before none = (taken fault t u next (rw none at e)).0

  pub read-ok : fault' ≡ None → next t ≡ Ok u
  read-ok none = (taken fault t u next (rw none at e)).1

-- 4. A head.

pub itself-or : (x : Bool) (h : Head) → (x || same_head h h) ≡ true
itself-or x h = or_right x (same_head h h) (same-self (part_of_head h))

front-of : (h k : Head) → is_at_front (state_of h) k ≡ same_head h k
front-of (head.Sid p) k = refl
front-of (head.Acl w) k = refl

not-in-acl : (h : Head) → is_in_acl (state_of h) ≡ true → ⊥
not-in-acl (head.Sid p) e = absurd cc
not-in-acl (head.Acl w) e = absurd cc

not_or : (x y : Bool) → (not (x || y) || y) ≡ true → y ≡ false → x ≡ false
not_or true y e f = absurd (let g : (false || y) ≡ true = e in true≢false (sym g ∙ f))
not_or false y e f = refl

-- a head that was not seen begins a part that is not given
pub fits-head : (p : State) (seen : Seen) (t u : FieldsRead) (h : Head)
    → ((k : Head) → is_seen seen k ≡ false → Lacks k t → Lacks k u) → is_seen seen h ≡ false
    → Fits p seen t → Fits (state_of h) (with_head seen h) u
fits-head p seen t u h keeps unseen k = record {
  here = λ x f. seen_with seen h x ∙ or_right (is_seen seen x) _ (sym (front-of h x) ∙ f);
  lacks = λ x f. by_same x (same_head h x) refl (rw (seen_with seen h x, front-of h x) at f);
  opened = λ f. absurd (not-in-acl h f);
}
  where
    lacking : (x : Head) → is_seen seen x ≡ false → Lacks x u
    lacking x e = keeps x e (k.lacks x (or_left (not (is_seen seen x)) _ (not_from_false (is_seen seen x) e)))

    by_same : (x : Head) (b : Bool) → same_head h x ≡ b
        → (not (is_seen seen x || same_head h x) || same_head h x) ≡ true → Lacks x u
    by_same x true e f =
        lacking x (subst (λ p. get_part p seen ≡ false) (same-is (part_of_head h) (part_of_head x) e) unseen)
    by_same x false e f = lacking x (not_or (is_seen seen x) (same_head h x) f e)

-- an ACL at its front, whose flags may be taken
pub can-take-front : (s : SddlReader) (buf : List ℕ) (w : Which) (has_aces : Bool) → s.state ≡ state.AclFlags w
    → (t : FieldsRead) × LineHasRead s buf t
    → (t : FieldsRead) × (s.fault ≡ None → HasReadFields s.fields buf t × CanTake (slot.AclFlags w has_aces) t)
can-take-front s buf w has_aces here held =
    let k = held.1 in
    (held.0, λ none. (k.fields none, (rw here at (k.fits none)).lacks (head.Acl w) (itself-or _ (head.Acl w))))

lacks-same : (h : Head) (f : Option SddlFault) (t u : FieldsRead) → Ok u ≡ unless f t → Lacks h t → Lacks h u
lacks-same h f t u e l = if-ok (λ y. Lacks h y) u (unless f t) (by_fault f) (sym e)
  where
    by_fault : (f : Option SddlFault) → IfOk (unless f t) (λ y. Lacks h y)
    by_fault None = l
    by_fault (Some g) = tt

-- what a part gives that ends here
pub lacks-ended : (domain : Option SecurityId) (p : State) (seen : Seen) (x : Held) (fault fault' : Option SddlFault)
    (t u : FieldsRead)
    → unless fault' u ≡ ended_with domain p x (unless fault t) → fault' ≡ None → Fits p seen t → (k : Head)
    → is_seen seen k ≡ false → Lacks k t → Lacks k u
lacks-ended domain state.Before seen x fault fault' t u e none k h n l = lacks-same h fault t u (rw none at e) l
lacks-ended domain (state.Sid p) seen x fault fault' t u e none k h n l =
    lacks-taken domain t u (slot.Sid p) (held_text x) h (read-ok fault fault' t u _ e none)
    (not-here (state.Sid p) seen t k h n) l
lacks-ended domain (state.AclFlags w) seen x fault fault' t u e none k h n l =
    lacks-taken domain t u (slot.AclFlags w false) (held_text x) h (read-ok fault fault' t u _ e none)
    (not-here (state.AclFlags w) seen t k h n) l
lacks-ended domain state.AfterAce seen x fault fault' t u e none k h n l = lacks-same h fault t u (rw none at e) l
lacks-ended domain (state.Ace f) seen x fault fault' t u e none k h n l = lacks-same h fault t u (rw none at e) l

-- where no fault is found at the end of a part, none was there
pub none-ended : (domain : Option SecurityId) (p : State) (x : Held) (fault fault' : Option SddlFault)
    (t u : FieldsRead)
    → unless fault' u ≡ ended_with domain p x (unless fault t) → fault' ≡ None → fault ≡ None
none-ended domain p x None fault' t u e none = refl
none-ended domain state.Before x (Some f) fault' t u e none = absurd (let no : Ok u ≡ Err f = (rw none at e) in cc)
none-ended domain (state.Sid p) x (Some f) fault' t u e none = absurd (let no : Ok u ≡ Err f = (rw none at e) in cc)
none-ended domain (state.AclFlags w) x (Some f) fault' t u e none = absurd
    (let no : Ok u ≡ Err f = (rw none at e) in cc)
none-ended domain state.AfterAce x (Some f) fault' t u e none = absurd (let no : Ok u ≡ Err f = (rw none at e) in cc)
none-ended domain (state.Ace a) x (Some f) fault' t u e none = absurd (let no : Ok u ≡ Err f = (rw none at e) in cc)

-- the fault of a head: one where it was seen
pub unseen-head : (seen : Bool) (f : SddlFault) (fault : Option SddlFault) → (if seen then Some f else fault) ≡ None
    → (seen ≡ false) × (fault ≡ None)
unseen-head true f fault e = absurd cc
unseen-head false f fault e = (refl, e)

-- 5. The start.

pub fits-start : Fits state.Before (each_part false) nothing_read
fits-start = record { here = λ h e. absurd cc; lacks = λ h e. nothing h; opened = λ e. absurd cc }
  where
    nothing : (h : Head) → Lacks h nothing_read
    nothing (head.Sid sid_part.Owner) = refl
    nothing (head.Sid sid_part.Group) = refl
    nothing (head.Acl which.Sacl) = refl
    nothing (head.Acl which.Dacl) = refl

-- 6. A step that changes the text of the field at hand alone, or finds that the shape fails.

pub keeps-same : (s s' : SddlReader) (sound : Bool) (field' : Held) (buf : List ℕ) (t : FieldsRead)
    → s' ≡ record s { sound = sound; field = field' } → LineHasRead s buf t → LineHasRead s' buf t
keeps-same s s' sound field' buf t same k = rw same (record { fields = k.fields; fits = k.fits })
