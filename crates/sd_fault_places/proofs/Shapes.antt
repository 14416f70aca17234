-- A front of a line, and what it leaves to the rest of it.
use Rattle.std.proofs.Common.{◌≡◌, ◌<◌, ℕ, suc, ◌+◌, Bool, true, false, ◌&&◌, List, [], ◌∷◌, ◌++◌, length}
use Rattle.std.proofs.Common.{take, inl, inr, refl, ap, sym, ◌∙◌, arith}
use Rattle.std.specs.Prelude.{◌==◌, if◌then◌else◌, Option, Some, None, is_some}
use Rattle.std.specs.List.{list_all}
use Rattle.std.specs.Option.{option_and_then, option_map}
use Rattle.std.proofs.Math.Bool.{and-false}
use Rattle.std.proofs.Math.Numerals.{add-one}
use Rattle.std.proofs.Math.Dec.{eqb-suc-suc, eqb-suc-zero, eqb-zero-suc}
use Rattle.std.proofs.lemmas.Bool.{and_right}
use Rattle.std.proofs.lemmas.Bool.Decides.{eqb_tells, nat_tests}
use Rattle.sd_parts.specs.declared.part.Which.{Which}
use Rattle.sd_sddl_fields.specs.FieldTexts.{is_blank}
use Rattle.sd_sddl_builder.specs.FoldedReading.{next_field}
use Rattle.sd_sddl_builder.specs.Line.{Piece, are_aces, are_shaped, byte, cut_at_semicolons, head_at}
use Rattle.sd_sddl_builder.specs.Line.{head_of, is_acl_body, is_blank_piece, is_body, is_paired, is_shaped, is_sid_body}
use Rattle.sd_sddl_builder.specs.Line.{pieces_from, sections, sections_of, begins_with_colon}
use Rattle.sd_sddl_builder.specs.declared.slot.AceField.{AceField}
use Rattle.sd_sddl_builder.specs.declared.slot.AceField.TheVariants as field
use Rattle.sd_sddl_builder.specs.declared.slot.Head.{Head}
use Rattle.sd_sddl_builder.specs.declared.slot.Head.TheVariants as head
use Rattle.sd_sddl_builder.proofs.laws.Heads.{head-paired, headed, no-colon, no_head, not_letter}
use Rattle.sd_fault_places.specs.Shape.{IsReach, at_stand, is_between, is_ended, is_inside, is_last, next_stand, reach}
use Rattle.sd_fault_places.specs.Shape.{reach_behind, stand_of, start, step, stop, stop_behind}
use Rattle.sd_fault_places.specs.declared.shape.Front.{Front}
use Rattle.sd_fault_places.specs.declared.shape.Stand.{Stand}
use Rattle.sd_fault_places.specs.declared.shape.Stand.TheVariants as stand

-- 1. Whether the rest of a line has its shape.

-- how many semicolons an ACE still has at a field
abbrev fields_left : AceField → ℕ
fields_left field.Kind = 5
fields_left field.Flags = 4
fields_left field.Rights = 3
fields_left field.Object = 2
fields_left field.Inherited = 1
fields_left field.Sid = 0

-- the rest of the part at hand
abbrev here : Stand → List ℕ → List Piece → Bool
here stand.Before held ps = list_all is_blank_piece ps
here (stand.Sid p) held ps = is_sid_body ps
here (stand.Flags w) held ps = is_acl_body ps
here (stand.Behind w n) held ps = are_aces ps
here (stand.Ace w n f) held ps = (length (cut_at_semicolons held).others == fields_left f) && are_aces ps

goes_on : Stand → List ℕ → Bool
goes_on s t =
    is_paired (is_inside s) t
    && (here s (pieces_from (is_inside s) t).held (sections (pieces_from (is_inside s) t).after).before
    && are_shaped (sections (pieces_from (is_inside s) t).after).parts)

started : (text : List ℕ) → goes_on stand.Before text ≡ is_shaped text
unfolding goes_on
started text = refl

-- 2. A byte that belongs to no head.

abbrev goes_behind : Option Stand → List ℕ → Bool
goes_behind None t = false
goes_behind (Some s) t = goes_on s t

-- a parenthesis
opens : (s : Stand) → is_inside s ≡ false → (bs : List ℕ) → goes_on s (40 ∷ bs) ≡ goes_behind (next_stand s 40) bs
unfolding goes_on
opens stand.Before out bs = and_right (is_paired true bs) _ refl
opens (stand.Sid p) out bs = and_right (is_paired true bs) _ refl
opens (stand.Flags w) out bs = refl
opens (stand.Behind w n) out bs = refl
opens (stand.Ace w n f) out bs = absurd cc

closes : (s : Stand) → is_inside s ≡ false → (bs : List ℕ) → goes_on s (41 ∷ bs) ≡ goes_behind (next_stand s 41) bs
unfolding goes_on
closes stand.Before out bs = refl
closes (stand.Sid p) out bs = refl
closes (stand.Flags w) out bs = refl
closes (stand.Behind w n) out bs = refl
closes (stand.Ace w n f) out bs = absurd cc

colon : (s : Stand) → is_inside s ≡ false → (bs : List ℕ) → goes_on s (58 ∷ bs) ≡ false
unfolding goes_on
colon stand.Before out bs =
    rw (no_head (begins_with_colon (pieces_from false bs).after) (head_of 58) refl) (and_right
    (is_paired false bs) _ refl)
colon (stand.Sid p) out bs =
    rw (no_head (begins_with_colon (pieces_from false bs).after) (head_of 58) refl) (and_right
    (is_paired false bs) _ refl)
colon (stand.Flags w) out bs =
    rw (no_head (begins_with_colon (pieces_from false bs).after) (head_of 58) refl) (and_right
    (is_paired false bs) _ refl)
colon (stand.Behind w n) out bs =
    rw (no_head (begins_with_colon (pieces_from false bs).after) (head_of 58) refl) (and_right
    (is_paired false bs) _ refl)
colon (stand.Ace w n f) out bs = absurd cc

-- any other
module _ (b : ℕ) (bs : List ℕ) (e40 : (b == 40) ≡ false) (e41 : (b == 41) ≡ false) (e58 : (b == 58) ≡ false)
    (none : head_at (byte b) (pieces_from false bs).after ≡ None) where
  other : (s : Stand) → is_inside s ≡ false → goes_on s (b ∷ bs) ≡ goes_behind (next_stand s b) bs
  unfolding goes_on
  other stand.Before out = by_blank (is_blank b) refl
    where
      by_blank : (x : Bool) → is_blank b ≡ x
          → goes_on stand.Before (b ∷ bs) ≡ goes_behind (if x then Some stand.Before else None) bs
      by_blank true e = rw (e40, e41, none, e) refl
      by_blank false e = rw (e40, e41, none, e) (and_right (is_paired false bs) _ refl)
  other (stand.Sid p) out = rw (e40, e41, none, e58) refl
  other (stand.Flags w) out = rw (e40, e41, none, e58) refl
  other (stand.Behind w n) out = by_blank (is_blank b) refl
    where
      by_blank : (x : Bool) → is_blank b ≡ x
          → goes_on (stand.Behind w n) (b ∷ bs)
          ≡ goes_behind (if b == 40 then Some (stand.Ace w n field.Kind) else (if x then Some
          (stand.Behind w n) else None)) bs
      by_blank true e = rw (e40, e41, none, e) refl
      by_blank false e = rw (e40, e41, none, e) (and_right (is_paired false bs) _ refl)
  other (stand.Ace w n f) out = absurd cc

-- outside parentheses
outside : (s : Stand) → is_inside s ≡ false → (b : ℕ) (bs : List ℕ) → (b == 58) ≡ false
    → head_at (byte b) (pieces_from false bs).after ≡ None → goes_on s (b ∷ bs) ≡ goes_behind (next_stand s b) bs
outside s out b bs e58 none =
    elim (eqb_tells b 40) [
      | inl h ↦ rw (h.1) (opens s out bs)
      | inr h ↦ elim (eqb_tells b 41)
          [ inl k ↦ rw (k.1) (closes s out bs) | inr k ↦ other b bs (h.0) (k.0) e58 none s out ]
    ]

-- inside them
left : (f : AceField) → is_last f ≡ false → (n : ℕ) → (suc n == fields_left f) ≡ (n == fields_left (next_field f))
left field.Kind e n = grind (arith, nat_tests)
left field.Flags e n = grind (arith, nat_tests)
left field.Rights e n = grind (arith, nat_tests)
left field.Object e n = grind (arith, nat_tests)
left field.Inherited e n = grind (arith, nat_tests)
left field.Sid e n = absurd cc

module _ (w : Which) (n : ℕ) (bs : List ℕ) where
  inside-closes : (f : AceField) → goes_on (stand.Ace w n f) (41 ∷ bs)
      ≡ goes_behind (if is_last f then Some (stand.Behind w (n + 1)) else None) bs
  unfolding goes_on
  inside-closes field.Kind = and_right (is_paired false bs) _ refl
  inside-closes field.Flags = and_right (is_paired false bs) _ refl
  inside-closes field.Rights = and_right (is_paired false bs) _ refl
  inside-closes field.Object = and_right (is_paired false bs) _ refl
  inside-closes field.Inherited = and_right (is_paired false bs) _ refl
  inside-closes field.Sid = refl

  inside-cuts : (f : AceField) (last : Bool) → is_last f ≡ last → goes_on (stand.Ace w n f) (59 ∷ bs)
      ≡ goes_behind (if last then None else Some (stand.Ace w n (next_field f))) bs
  unfolding goes_on
  inside-cuts f false e = rw (left f e (length (cut_at_semicolons (pieces_from true bs).held).others)) refl
  inside-cuts field.Sid true e =
      rw (eqb-suc-zero (length (cut_at_semicolons (pieces_from true bs).held).others)) (and_right
      (is_paired true bs) _ refl)
  inside-cuts field.Kind true e = absurd cc
  inside-cuts field.Flags true e = absurd cc
  inside-cuts field.Rights true e = absurd cc
  inside-cuts field.Object true e = absurd cc
  inside-cuts field.Inherited true e = absurd cc

  inside-opens : (f : AceField) → goes_on (stand.Ace w n f) (40 ∷ bs) ≡ false
  unfolding goes_on
  inside-opens f = refl

  inside-other : (f : AceField) (b : ℕ) → (b == 40) ≡ false → (b == 41) ≡ false → (b == 59) ≡ false
      → goes_on (stand.Ace w n f) (b ∷ bs) ≡ goes_on (stand.Ace w n f) bs
  unfolding goes_on
  inside-other f b e40 e41 e59 = rw (e40, e41, e59) refl

  inside : (f : AceField) (b : ℕ)
      → goes_on (stand.Ace w n f) (b ∷ bs) ≡ goes_behind (next_stand (stand.Ace w n f) b) bs
  inside f b =
      elim (eqb_tells b 40) [
        | inl h ↦ rw (h.1) (inside-opens f)
        | inr h ↦ elim (eqb_tells b 41) [
          | inl k ↦ rw (k.1) (inside-closes f)
          | inr k ↦ elim (eqb_tells b 59) [
            | inl l ↦ rw (l.1) (inside-cuts f (is_last f) refl)
            | inr l ↦ rw (h.0, k.0, l.0) (inside-other f b (h.0) (k.0) (l.0))
          ]
        ]
      ]

-- 3. A head.

same_body : (p : Head) (ps : List Piece) → is_body p ps ≡ here (stand_of p) [] ps
same_body (head.Sid p) ps = refl
same_body (head.Acl w) ps = refl

-- what the parentheses at hand hold matters only inside them
abbrev from_outside : Stand → List ℕ → Bool
from_outside s t = is_paired false t && (here s [] (sections_of t).before && are_shaped (sections_of t).parts)

held-out : (s : Stand) → is_inside s ≡ false → (t : List ℕ) → goes_on s t ≡ from_outside s t
unfolding goes_on
held-out stand.Before out t = refl
held-out (stand.Sid p) out t = refl
held-out (stand.Flags w) out t = refl
held-out (stand.Behind w n) out t = refl
held-out (stand.Ace w n f) out t = absurd cc

outside-head : (p : Head) → is_inside (stand_of p) ≡ false
outside-head (head.Sid p) = refl
outside-head (head.Acl w) = refl

nothing-here : (s : Stand) → is_inside s ≡ false → here s [] [] ≡ true
nothing-here stand.Before out = refl
nothing-here (stand.Sid p) out = refl
nothing-here (stand.Flags w) out = refl
nothing-here (stand.Behind w n) out = refl
nothing-here (stand.Ace w n f) out = absurd cc

begins : (s : Stand) → is_inside s ≡ false → (b : ℕ) (p : Head) (bs : List ℕ) → head_of b ≡ Some p
    → goes_on s (b ∷ 58 ∷ bs) ≡ goes_on (stand_of p) bs
begins s out b p bs e =
    let e40 = not_letter b 40 p e refl in
    let e41 = not_letter b 41 p e refl in
    held-out s out (b ∷ 58 ∷ bs)
    ∙ rw (headed b p bs e e40, head-paired b bs e40 e41, nothing-here s out, same_body p (sections_of bs).before) refl
    ∙ sym (held-out (stand_of p) (outside-head p) bs)

-- 4. A byte onto a front.

-- a front whose letter is one is outside parentheses
record IsCalm (m : Front) : Type 0 where
  out : (l : ℕ) → m.letter ≡ Some l → is_inside m.stand ≡ false
  letter : (l : ℕ) → m.letter ≡ Some l → (p : Head) × (head_of l ≡ Some p)

-- the text from the letter on
abbrev from_letter : Option ℕ → List ℕ → List ℕ
from_letter None t = t
from_letter (Some l) t = l ∷ t

abbrev line : Front → List ℕ → Bool
line m t = goes_on m.stand (from_letter m.letter t)

abbrev line_behind : Option Front → List ℕ → Bool
line_behind None t = false
line_behind (Some m) t = line m t

mapped : (o : Option Stand) (t : List ℕ) → goes_behind o t ≡ line_behind (option_map at_stand o) t
mapped None t = refl
mapped (Some s) t = refl

-- where no letter waits
fresh : (s : Stand) → is_inside s ≡ false → (b : ℕ) (t : List ℕ)
    → goes_on s (b ∷ t) ≡ line_behind (step (at_stand s) b) t
fresh s out b t =
    elim (eqb_tells b 58) [
      | inl h ↦ rw (h.1, out) (colon s out t)
      | inr h ↦ rw (out, h.0, and-false) (by_head (h.0) (head_of b) refl)
    ]
  where
    by_head : (b == 58) ≡ false → (x : Option Head) → head_of b ≡ x → goes_on s (b ∷ t) ≡ line_behind
        (if is_some x then Some (record { stand = s; letter = Some b }) else option_map at_stand (next_stand s b)) t
    by_head n (Some p) e = refl
    by_head n None e =
        outside s out b t n (no_head (begins_with_colon (pieces_from false t).after) (head_of b) e)
        ∙ mapped (next_stand s b) t

-- where one does
waiting : (s : Stand) → is_inside s ≡ false → (l : ℕ) (p : Head) → head_of l ≡ Some p → (b : ℕ) (t : List ℕ)
    → goes_on s (l ∷ b ∷ t) ≡ line_behind (step (record { stand = s; letter = Some l }) b) t
waiting s out l p e b t =
    elim (eqb_tells b 58) [
      | inl h ↦ rw (h.1, out, e) (begins s out l p t e)
      | inr h ↦ outside s out l (b ∷ t) (not_letter l 58 p e refl) (no-colon b t (head_of l) (h.0)) ∙ text s out (h.0)
    ]
  where
    text : (s : Stand) → is_inside s ≡ false → (b == 58) ≡ false
        → goes_behind (next_stand s l) (b ∷ t) ≡ line_behind (step (record { stand = s; letter = Some l }) b) t
    text stand.Before out n = rw (n, not_letter l 32 p e refl, not_letter l 9 p e refl) refl
    text (stand.Sid q) out n =
        rw (n, not_letter l 40 p e refl, not_letter l 41 p e refl) (rw n at (fresh (stand.Sid q) refl b t))
    text (stand.Flags w) out n =
        rw (n, not_letter l 40 p e refl, not_letter l 41 p e refl) (rw n at (fresh (stand.Flags w) refl b t))
    text (stand.Behind w k) out n =
        rw (n, not_letter l 40 p e refl, not_letter l 32 p e refl, not_letter l 9 p e refl) refl
    text (stand.Ace w k f) out n = absurd cc

line-step : (s : Stand) (l : Option ℕ) → IsCalm (record { stand = s; letter = l }) → (b : ℕ) (t : List ℕ)
    → line (record { stand = s; letter = l }) (b ∷ t) ≡ line_behind (step (record { stand = s; letter = l }) b) t
line-step (stand.Ace w n f) None c b t = inside w n t f b ∙ mapped (next_stand (stand.Ace w n f) b) t
line-step (stand.Ace w n f) (Some l) c b t = absurd (let no : true ≡ false = c.out l refl in cc)
line-step stand.Before None c b t = fresh stand.Before refl b t
line-step (stand.Sid p) None c b t = fresh (stand.Sid p) refl b t
line-step (stand.Flags w) None c b t = fresh (stand.Flags w) refl b t
line-step (stand.Behind w n) None c b t = fresh (stand.Behind w n) refl b t
line-step stand.Before (Some l) c b t =
    let h : (p : Head) × (head_of l ≡ Some p) = c.letter l refl in waiting stand.Before refl l h.0 h.1 b t
line-step (stand.Sid p) (Some l) c b t =
    let h : (p : Head) × (head_of l ≡ Some p) = c.letter l refl in waiting (stand.Sid p) refl l h.0 h.1 b t
line-step (stand.Flags w) (Some l) c b t =
    let h : (p : Head) × (head_of l ≡ Some p) = c.letter l refl in waiting (stand.Flags w) refl l h.0 h.1 b t
line-step (stand.Behind w n) (Some l) c b t =
    let h : (p : Head) × (head_of l ≡ Some p) = c.letter l refl in waiting (stand.Behind w n) refl l h.0 h.1 b t

-- the front stays calm
abbrev AreCalm : Option Front → Type 0
AreCalm None = Unit {0}
AreCalm (Some m) = IsCalm m

calm-at : (s : Stand) → IsCalm (at_stand s)
calm-at s = record { out = λ l e. absurd cc; letter = λ l e. absurd cc }

calm-mapped : (o : Option Stand) → AreCalm (option_map at_stand o)
calm-mapped None = tt
calm-mapped (Some s) = calm-at s

calm-step : (s : Stand) (l : Option ℕ) (b : ℕ) → AreCalm (step (record { stand = s; letter = l }) b)
calm-step s l b = by_inside (is_inside s) refl
  where
    choice : is_inside s ≡ false → (col hang : Bool) (x : Option Head) → head_of b ≡ x → (o : Option Head)
        → AreCalm (if col then option_map (λ h. at_stand (stand_of h)) o else (if hang then None
        else (if is_some x then Some (record { stand = s; letter = Some b }) else option_map at_stand
        (next_stand s b))))
    choice out true hang x e None = tt
    choice out true hang x e (Some h) = calm-at (stand_of h)
    choice out false true x e o = tt
    choice out false false None e o = calm-mapped (next_stand s b)
    choice out false false (Some p) e o =
        record { out = λ l f. out; letter = λ l f. let same : b ≡ l = cc in (p, ap head_of (sym same) ∙ e) }

    by_inside : (x : Bool) → is_inside s ≡ x → AreCalm (step (record { stand = s; letter = l }) b)
    by_inside true e = rw e (calm-mapped (next_stand s b))
    by_inside false e =
        rw e (choice e (b == 58) (is_between s && is_some l) (head_of b) refl (option_and_then head_of l))

-- 5. A text onto a front.

head-ends : (p : Head) → goes_on (stand_of p) [] ≡ true
unfolding goes_on
head-ends (head.Sid p) = refl
head-ends (head.Acl w) = refl

end-of : (s : Stand) (l : Option ℕ) → IsCalm (record { stand = s; letter = l })
    → goes_on s (from_letter l []) ≡ is_ended (record { stand = s; letter = l })
unfolding goes_on
end-of stand.Before None c = refl
end-of (stand.Sid p) None c = refl
end-of (stand.Flags w) None c = refl
end-of (stand.Behind w n) None c = refl
end-of (stand.Ace w n f) None c = refl
end-of stand.Before (Some l) c =
    let h : (p : Head) × (head_of l ≡ Some p) = c.letter l refl in
    rw (
      not_letter l 40 h.0 h.1 refl,
      not_letter l 41 h.0 h.1 refl,
      not_letter l 32 h.0 h.1 refl,
      not_letter l 9 h.0 h.1 refl,
    ) refl
end-of (stand.Sid p) (Some l) c =
    let h : (p : Head) × (head_of l ≡ Some p) = c.letter l refl in
    rw (not_letter l 40 h.0 h.1 refl, not_letter l 41 h.0 h.1 refl, not_letter l 58 h.0 h.1 refl) refl
end-of (stand.Flags w) (Some l) c =
    let h : (p : Head) × (head_of l ≡ Some p) = c.letter l refl in
    rw (not_letter l 40 h.0 h.1 refl, not_letter l 41 h.0 h.1 refl, not_letter l 58 h.0 h.1 refl) refl
end-of (stand.Behind w n) (Some l) c =
    let h : (p : Head) × (head_of l ≡ Some p) = c.letter l refl in
    rw (
      not_letter l 40 h.0 h.1 refl,
      not_letter l 41 h.0 h.1 refl,
      not_letter l 32 h.0 h.1 refl,
      not_letter l 9 h.0 h.1 refl,
    ) refl
end-of (stand.Ace w n f) (Some l) c = absurd (let no : true ≡ false = c.out l refl in cc)

-- each front goes on to some end
ace-goes-on : (w : Which) (n : ℕ) (f : AceField) → (rest : List ℕ) × (goes_on (stand.Ace w n f) rest ≡ true)
unfolding goes_on
ace-goes-on w n field.Kind = (59 ∷ 59 ∷ 59 ∷ 59 ∷ 59 ∷ 41 ∷ [], refl)
ace-goes-on w n field.Flags = (59 ∷ 59 ∷ 59 ∷ 59 ∷ 41 ∷ [], refl)
ace-goes-on w n field.Rights = (59 ∷ 59 ∷ 59 ∷ 41 ∷ [], refl)
ace-goes-on w n field.Object = (59 ∷ 59 ∷ 41 ∷ [], refl)
ace-goes-on w n field.Inherited = (59 ∷ 41 ∷ [], refl)
ace-goes-on w n field.Sid = (41 ∷ [], refl)

abbrev GoesOn : Stand → Option ℕ → Type 0
GoesOn s l = (rest : List ℕ) × (goes_on s (from_letter l rest) ≡ true)

goes-on : (s : Stand) (l : Option ℕ) → IsCalm (record { stand = s; letter = l }) → GoesOn s l
goes-on stand.Before None c = ([], end-of stand.Before None c)
goes-on (stand.Sid p) l c = ([], end-of (stand.Sid p) l c)
goes-on (stand.Flags w) l c = ([], end-of (stand.Flags w) l c)
goes-on (stand.Behind w n) None c = ([], end-of (stand.Behind w n) None c)
goes-on (stand.Ace w n f) None c = ace-goes-on w n f
goes-on stand.Before (Some l) c =
    let h : (p : Head) × (head_of l ≡ Some p) = c.letter l refl in
    (58 ∷ [], begins stand.Before refl l h.0 [] h.1 ∙ head-ends h.0)
goes-on (stand.Behind w n) (Some l) c =
    let h : (p : Head) × (head_of l ≡ Some p) = c.letter l refl in
    (58 ∷ [], begins (stand.Behind w n) refl l h.0 [] h.1 ∙ head-ends h.0)
goes-on (stand.Ace w n f) (Some l) c = absurd (let no : true ≡ false = c.out l refl in cc)

abbrev Whole : List ℕ → Type 0
Whole t = (m : Front) → IsCalm m → line m t ≡ ((reach m t == length t) && is_ended (stop m t))

whole-step : (m : Front) (bs : List ℕ) → Whole bs → (o : Option Front) → AreCalm o → line_behind o bs
    ≡ ((reach_behind (λ n. reach n bs) o == suc (length bs)) && is_ended (stop_behind m (λ n. stop n bs) o))
whole-step m bs more None k = rw (eqb-zero-suc (length bs)) refl
whole-step m bs more (Some n) k = rw (eqb-suc-suc (reach n bs) (length bs)) (more n k)

whole : (t : List ℕ) → Whole t
whole [] m c = end-of m.stand m.letter c
whole (b ∷ bs) m c =
    line-step m.stand m.letter c b bs ∙ whole-step m bs (whole bs) (step m b) (calm-step m.stand m.letter b)

abbrev Stops : List ℕ → Type 0
Stops t = (m : Front) → IsCalm m → reach m t < length t → (after : List ℕ)
    → line m (take (suc (reach m t)) t ++ after) ≡ false

stops-step : (bs : List ℕ) → Stops bs → (o : Option Front) → AreCalm o
    → reach_behind (λ n. reach n bs) o < suc (length bs) → (after : List ℕ)
    → line_behind o (take (reach_behind (λ n. reach n bs) o) bs ++ after) ≡ false
stops-step bs more None k low after = refl
stops-step bs more (Some n) k low after = more n k (omega (arith, low)) after

stops : (t : List ℕ) → Stops t
stops [] m c low after = absurd (omega (arith, low))
stops (b ∷ bs) m c low after =
    line-step m.stand m.letter c b (take (reach_behind (λ n. reach n bs) (step m b)) bs ++ after)
    ∙ stops-step bs (stops bs) (step m b) (calm-step m.stand m.letter b) low after

abbrev Comes : List ℕ → Type 0
Comes t = (m : Front) → IsCalm m → (rest : List ℕ) × (line m (take (reach m t) t ++ rest) ≡ true)

comes-step : (m : Front) → IsCalm m → (b : ℕ) (bs : List ℕ) → Comes bs → (o : Option Front) → step m b ≡ o → AreCalm o
    → (rest : List ℕ) × (line m (take (reach_behind (λ n. reach n bs) o) (b ∷ bs) ++ rest) ≡ true)
comes-step m c b bs more None e k = goes-on m.stand m.letter c
comes-step m c b bs more (Some n) e k =
    let r : (rest : List ℕ) × (line n (take (reach n bs) bs ++ rest) ≡ true) = more n k in (
      r.0,
      line-step m.stand m.letter c b (take (reach n bs) bs ++ r.0)
          ∙ ap (λ (o : Option Front). line_behind o (take (reach n bs) bs ++ r.0)) e ∙ r.1,
    )

comes : (t : List ℕ) → Comes t
comes [] m c = goes-on m.stand m.letter c
comes (b ∷ bs) m c = comes-step m c b bs (comes bs) (step m b) refl (calm-step m.stand m.letter b)

-- 6. The laws.

pub shape-walked : (text : List ℕ) → is_shaped text ≡ ((reach start text == length text) && is_ended (stop start text))
shape-walked text = sym (started text) ∙ whole text start (calm-at stand.Before)

pub is-reach : (text : List ℕ) → IsReach (reach start text) text
is-reach text =
    let c = comes text start (calm-at stand.Before) in record {
      rest = c.0;
      begins = sym (started (take (reach start text) text ++ c.0)) ∙ c.1;
      ends = λ low after. rw add-one
          (sym (started (take (suc (reach start text)) text ++ after)) ∙ stops text start
          (calm-at stand.Before) low after);
    }
