-- Bytes that only go onto the text of the field at hand, taken all at once.
use Rattle.std.proofs.Common.{◌≡◌, ℕ, Bool, true, false, ◌||◌, List, [], ◌∷◌, ◌++◌, length, take, drop, refl, ap, sym}
use Rattle.std.proofs.Common.{◌∙◌, arith, append_assoc, eqb-true, true≢false, subst, ◌⊎◌, inl, inr}
use Rattle.std.proofs.Math.Dec.{eqb-suc-zero}
use Rattle.std.specs.Prelude.{◌==◌, not, if◌then◌else◌, Result, Ok, Err, Option, Some, None}
use Rattle.std.specs.List.{list_all}
use Rattle.std.specs.Option.{is_none, is_some, option_to_list}
use Rattle.std.proofs.lemmas.List.{take-append-drop}
use Rattle.std.proofs.lemmas.Bool.Decides.{nat_tests}
use Rattle.std.proofs.lemmas.Bool.{and_parts}
use Rattle.sd_sid.specs.Sid.{SecurityId}
use Rattle.sd_sddl_builder.specs.declared.fault.SddlFault.{SddlFault}
use Rattle.sd_sddl_builder.specs.declared.fault.SddlFault.TheVariants as fault
use Rattle.sd_sddl_builder.specs.declared.slot.AceField.{AceField}
use Rattle.sd_sddl_reader.specs.declared.line.State.{State}
use Rattle.sd_sddl_reader.specs.declared.line.State.TheVariants as state
use Rattle.sd_parts.specs.declared.part.SidPart.{SidPart}
use Rattle.sd_parts.specs.declared.part.Which.{Which}
use Rattle.sd_sddl_fields.specs.Held.{Held, IsHeld, broken_text, held_blank, held_run, held_with, is_plain_inside}
use Rattle.sd_sddl_fields.specs.Held.{is_plain_text, no_text}
use Rattle.sd_sddl_reader.specs.Inner.Progress.{is_plain_outside, Seen, inner_with, is_in_field, is_inside, judged}
use Rattle.sd_sddl_reader.specs.Inner.Progress.{rest_answer, text_with}
use Rattle.sd_sddl_builder.specs.Line.{begins_with_colon, byte, head_at, head_of, pieces_from}
use Rattle.sd_sddl_fields.specs.FieldTexts.{is_blank}
use Rattle.sd_sddl_builder.specs.FoldedReading.{FieldsRead}
use Rattle.sd_text.specs.Chains.{unless}
use Rattle.sd_sddl_reader.specs.Inner.Reads.{IsReader, Reads, answer_at}
use Rattle.sd_sddl_reader.specs.declared.reader.SddlReader.{SddlReader}
use Rattle.sd_sddl_reader.proofs.FieldTexts.{Same, append_nothing, same_blank, same_inner, same_refl, same_text}
use Rattle.sd_sddl_reader.proofs.FieldTexts.{with_held}
use Rattle.sd_sddl_builder.proofs.laws.Heads.{no_head}
use Rattle.sd_sddl_reader.proofs.Steps.{before_blank, between_blank, control_text, entry_text, outside_text, sid_text}
use Rattle.sd_sddl_reader.proofs.Steps.{unsound}

-- 1. What is held stays clean.

pub record IsPlain (b : ℕ) : Type 0 where
  pub opens : (b == 40) ≡ false
  pub closes : (b == 41) ≡ false
  pub cuts : (b == 59) ≡ false
  pub blank : is_blank b ≡ false

none_of : (w x y z : Bool) → not (w || (x || (y || z))) ≡ true → (w ≡ false) × (x ≡ false) × (y ≡ false) × (z ≡ false)
none_of true x y z e = absurd cc
none_of false true y z e = absurd cc
none_of false false true z e = absurd cc
none_of false false false true e = absurd cc
none_of false false false false e = (refl, refl, refl, refl)

pub plain-is : (b : ℕ) → is_plain_inside b ≡ true → IsPlain b
plain-is b e = let n =
    none_of (b == 40) (b == 41) (b == 59)
    (is_blank b) e in record { opens = n.0; closes = n.1; cuts = n.2; blank = n.3 }

with_no_gap : (h : Held) (b : ℕ) → (held_with h b).gap ≡ false
with_no_gap h b = by_test (h.broken || (h.gap || length h.text == 183))
  where
    by_test : (x : Bool)
        → (if x then broken_text else record { text = h.text ++ b ∷ []; gap = false; broken = false }).gap ≡ false
    by_test true = refl
    by_test false = refl

pub inside-held : (h : Held) (bs : List ℕ) → IsHeld h → list_all is_plain_inside bs ≡ true → IsHeld (held_run h bs)
inside-held h [] k e = k
inside-held h (b ∷ bs) k e =
    let p = and_parts (is_plain_inside b) _ e in
    inside-held (held_with h b) bs (with_held h b k (plain-is b p.0).blank) p.1

pub inside-gap : (h : Held) (bs : List ℕ) → h.gap ≡ false → (held_run h bs).gap ≡ false
inside-gap h [] e = e
inside-gap h (b ∷ bs) e = inside-gap (held_with h b) bs (with_no_gap h b)

pub none-of : {X : Type 0} → (x : Option X) → is_none x ≡ true → x ≡ None
none-of None f = refl
none-of (Some y) f = absurd cc

pub not_true : (x : Bool) → not x ≡ true → x ≡ false
not_true true f = absurd cc
not_true false f = refl

outside_parts : (b : ℕ) (bs : List ℕ) → list_all is_plain_outside (b ∷ bs) ≡ true
    → (is_plain_inside b ≡ true) × ((b == 58) ≡ false) × (head_of b ≡ None) × (list_all is_plain_outside bs ≡ true)
outside_parts b bs e =
    let p = and_parts (is_plain_outside b) _ e in
    let q = and_parts (is_plain_text b) _ p.0 in
    let r = and_parts (is_plain_inside b) _ q.0 in
    (r.0, not_true _ r.1, none-of (head_of b) q.1, p.1)

pub outside-held : (h : Held) (bs : List ℕ) → IsHeld h → list_all is_plain_outside bs ≡ true → IsHeld (held_run h bs)
outside-held h [] k e = k
outside-held h (b ∷ bs) k e =
    let p = outside_parts b bs e in
    outside-held (held_with h b) bs (with_held h b k (plain-is b p.0).blank) p.3

-- 2. The answer to a run.

-- in an owner or a group, or before the first ACE of an ACL
abbrev pub TakesText : State → Type 0
TakesText pl = ((p : SidPart) × (pl ≡ state.Sid p)) ⊎ ((w : Which) × (pl ≡ state.AclFlags w))

module _ (dm : Option SecurityId) (so tw : Bool) (se : Seen) (r : Result FieldsRead SddlFault) where
  pub inside-run : (c : AceField) (h : Held) (bs rest : List ℕ) → IsHeld h → h.gap ≡ false
      → list_all is_plain_inside bs ≡ true
      → rest_answer dm so tw se r (state.Ace c) (held_run h bs) rest ≡ rest_answer dm so tw se r (state.Ace c) h
      (bs ++ rest)
  inside-run c h [] rest k n e = refl
  inside-run c h (b ∷ bs) rest k n e =
      let p = and_parts (is_plain_inside b) _ e in
      let l = plain-is b p.0 in
      inside-run c (held_with h b) bs rest (with_held h b k l.blank) (with_no_gap h b) p.1
      ∙ entry_text dm so tw se r h (bs ++ rest) c (held_with h b) b l.opens l.closes l.cuts
      (λ u. same_inner h b u k n l.blank)

  pub outside-run : (pl : State) (h : Held) (bs rest : List ℕ) → TakesText pl → IsHeld h
      → list_all is_plain_outside bs ≡ true
      → rest_answer dm so tw se r pl (held_run h bs) rest ≡ rest_answer dm so tw se r pl h (bs ++ rest)
  outside-run pl h [] rest takes k e = refl
  outside-run pl h (b ∷ bs) rest takes k e =
      let o = outside_parts b bs e in
      let l = plain-is b o.0 in
      outside-run pl (held_with h b) bs rest takes (with_held h b k l.blank) o.3
      ∙ outside_text dm so tw se r h b (bs ++ rest) l.opens l.closes (no_head _ _ o.2) pl (held_with h b) o.1
      (λ u. same_text h b u k l.blank) takes

text_outside : (pl : State) → TakesText pl → is_inside pl ≡ false
text_outside pl (inl w) = rw (w.1) refl
text_outside pl (inr w) = rw (w.1) refl

-- 3. Blanks that change nothing.

pub nothing-held : IsHeld no_text
nothing-held = record { clean = refl; fits = omega arith }

-- a blank is no parenthesis, and no head
pub blank-is : (b : ℕ) → is_blank b ≡ true
    → ((b == 40) ≡ false) × ((b == 41) ≡ false) × ((b == 58) ≡ false) × (head_of b ≡ None)
blank-is b e = by_byte (b == 32) refl
  where
    by_byte : (x : Bool) → (b == 32) ≡ x
        → ((b == 40) ≡ false) × ((b == 41) ≡ false) × ((b == 58) ≡ false) × (head_of b ≡ None)
    by_byte true f = let is : b ≡ 32 = eqb-true b 32 f in rw is (refl, refl, refl, refl)
    by_byte false f = let is : b ≡ 9 = grind (arith, nat_tests) in rw is (refl, refl, refl, refl)

-- no byte of the field came, or a blank came last, or the field can no longer read
pub ignored : (h : Held) → (h.broken || (h.gap || length h.text == 0)) ≡ true → held_blank h ≡ h
ignored h e = by_held h.text h.gap h.broken e
  where
    by_held : (t : List ℕ) (g x : Bool) → (x || (g || length t == 0)) ≡ true
        → held_blank (record { text = t; gap = g; broken = x }) ≡ record { text = t; gap = g; broken = x }
    by_held t g true f = refl
    by_held [] g false f = refl
    by_held (c ∷ t) true false f = rw (eqb-suc-zero (length t)) refl
    by_held (c ∷ t) false false f = absurd (true≢false (sym f ∙ eqb-suc-zero (length t)))

in-field-is : (x y z : Bool) → not (x || (y || z)) ≡ true → (x ≡ false) × (y ≡ false) × (z ≡ false)
in-field-is true y z e = absurd cc
in-field-is false true z e = absurd cc
in-field-is false false true e = absurd cc
in-field-is false false false e = (refl, refl, refl)

still_broken : (h : Held) (b : ℕ) (bs : List ℕ) → h.broken ≡ true → Same (inner_with h (b ∷ bs)) (inner_with h bs)
still_broken h b bs broken = rw broken (same_refl _)

module _ (dm : Option SecurityId) (so tw : Bool) (se : Seen) (r : Result FieldsRead SddlFault) where
  blank-outside : (pl : State) (h : Held) (b : ℕ) (bs : List ℕ) → is_inside pl ≡ false → IsHeld h → held_blank h ≡ h
      → is_blank b ≡ true → rest_answer dm so tw se r pl h bs ≡ rest_answer dm so tw se r pl h (b ∷ bs)
  blank-outside pl h b bs out k same blank = by_state pl out
    where
      is : ((b == 40) ≡ false) × ((b == 41) ≡ false) × ((b == 58) ≡ false) × (head_of b ≡ None)
      is = blank-is b blank

      none : head_at (byte b) (pieces_from false bs).after ≡ None
      none = no_head (begins_with_colon (pieces_from false bs).after) (head_of b) is.3

      reads : (u : List ℕ) → Same (text_with h (b ∷ u)) (text_with h u)
      reads u = subst (λ (x : Held). Same (text_with h (b ∷ u)) (text_with x u)) same (same_blank h b u k blank)

      by_state : (pl : State) → is_inside pl ≡ false
          → rest_answer dm so tw se r pl h bs ≡ rest_answer dm so tw se r pl h (b ∷ bs)
      by_state state.Before out = before_blank dm so tw se r b bs is.0 is.1 none h blank
      by_state (state.Sid p) out = sid_text dm so tw se r b bs is.0 is.1 none p h h is.2 reads
      by_state (state.AclFlags w) out = control_text dm so tw se r b bs is.0 is.1 none w h h is.2 reads
      by_state state.AfterAce out = between_blank dm so tw se r b bs is.0 is.1 none h blank
      by_state (state.Ace c) out = absurd cc

  pub blanks-outside : (pl : State) (h : Held) (bs rest : List ℕ) → is_inside pl ≡ false → IsHeld h → held_blank h ≡ h
      → list_all is_blank bs ≡ true
      → rest_answer dm so tw se r pl h rest ≡ rest_answer dm so tw se r pl h (bs ++ rest)
  blanks-outside pl h [] rest out k same all = refl
  blanks-outside pl h (b ∷ bs) rest out k same all =
      let p = and_parts (is_blank b) (list_all is_blank bs) all in
      blanks-outside pl h bs rest out k same p.1 ∙ blank-outside pl h b (bs ++ rest) out k same p.0

  -- inside parentheses, in a field that can no longer read
  broken-idle : (c : AceField) (h : Held) (bs rest : List ℕ) → h.broken ≡ true → list_all is_in_field bs ≡ true
      → rest_answer dm so tw se r (state.Ace c) h rest ≡ rest_answer dm so tw se r (state.Ace c) h (bs ++ rest)
  broken-idle c h [] rest broken all = refl
  broken-idle c h (b ∷ bs) rest broken all =
      let p = and_parts (is_in_field b) (list_all is_in_field bs) all in
      let is = in-field-is (b == 40) (b == 41) (b == 59) p.0 in
      broken-idle c h bs rest broken p.1
      ∙ entry_text dm so tw se r h (bs ++ rest) c h b is.0 is.1 is.2 (λ u. still_broken h b u broken)

module _ (dm : Option SecurityId) (so tw : Bool) (se : Seen) where
  -- behind a fault the text of a field says nothing
  any-text : (e : SddlFault) (c : AceField) (h g : Held) (bs : List ℕ)
      → rest_answer dm so tw se (Err e) (state.Ace c) h bs ≡ rest_answer dm so tw se (Err e) (state.Ace c) g bs
  unfolding rest_answer judged
  any-text e c h g bs = refl

  pub lost-field : (f : Option SddlFault) (t : FieldsRead) (c : AceField) (h : Held) (bs rest : List ℕ)
      → (is_some f || h.broken) ≡ true → list_all is_in_field bs ≡ true
      → rest_answer dm so tw se (unless f t) (state.Ace c) h rest
      ≡ rest_answer dm so tw se (unless f t) (state.Ace c) h (bs ++ rest)
  lost-field None t c h bs rest lost all = broken-idle dm so tw se (Ok t) c h bs rest lost all
  lost-field (Some e) t c h bs rest lost all =
      any-text e c h broken_text rest
      ∙ (broken-idle dm so tw se (Err e) c broken_text bs rest refl all ∙ any-text e c broken_text h (bs ++ rest))

-- 4. The reader after a run.

-- with a run on the text of the field at hand, it has read the run
abbrev pub Goes : SddlReader → List ℕ → Type 0
Goes s bs = (buf : List ℕ) → IsReader s buf → IsReader (record s { field = held_run s.field bs }) buf
    × ((domain : Option SecurityId) (before : List ℕ) → Reads s buf domain before
    → Reads (record s { field = held_run s.field bs }) buf domain (before ++ bs))

-- bytes that change nothing, where no byte waits
pub idle-goes : (s : SddlReader) (bs buf : List ℕ) (domain : Option SecurityId) (before : List ℕ) → s.pending ≡ None
    → ((t : FieldsRead) (rest : List ℕ) → answer_at s t rest ≡ answer_at s t (bs ++ rest))
    → Reads s buf domain before → Reads s buf domain (before ++ bs)
idle-goes s bs buf domain before none step h = (
  h.0,
  h.1,
  λ rest. rw none (step h.0 rest ∙ (rw none at h.2 (bs ++ rest)) ∙ rw append_assoc refl),
)

-- where no byte waits, and the answer to the run is that to what follows it
goes-on : (s : SddlReader) (bs buf : List ℕ) (domain : Option SecurityId) (before : List ℕ) → s.pending ≡ None
    → ((t : FieldsRead) (rest : List ℕ)
    → answer_at (record s { field = held_run s.field bs }) t rest ≡ answer_at s t (bs ++ rest))
    → Reads s buf domain before → Reads (record s { field = held_run s.field bs }) buf domain (before ++ bs)
goes-on s bs buf domain before none step h = (
  h.0,
  record { fields = h.1.fields; fits = h.1.fits },
  λ rest. rw none (step h.0 rest ∙ (rw none at h.2 (bs ++ rest)) ∙ rw append_assoc refl),
)

pub inside-goes : (s : SddlReader) (c : AceField) (bs : List ℕ) → s.state ≡ state.Ace c
    → list_all is_plain_inside bs ≡ true → Goes s bs
inside-goes s c bs here plain buf r =
    let gap : s.field.gap ≡ false = r.calm.gap (rw here refl) in (
      record {
        calm = record { held = inside-held s.field bs r.calm.held plain; gap = λ _. inside-gap s.field bs gap };
        still = r.still;
        letter = r.letter;
        read = r.read;
        held = record { fields = r.held.fields; fits = r.held.fits };
      },
      λ domain before h. goes-on s bs buf domain before (r.still (rw here refl))
          (λ t rest. rw here (inside-run s.fields.domain s.sound s.twice s.seen
          (unless s.fault t) c s.field bs rest r.calm.held gap plain)) h,
    )

pub outside-goes : (s : SddlReader) (bs : List ℕ) → TakesText s.state → s.pending ≡ None
    → list_all is_plain_outside bs ≡ true → Goes s bs
outside-goes s bs takes none plain buf r = (
  record {
    calm = record {
      held = outside-held s.field bs r.calm.held plain;
      gap = λ is. absurd (true≢false (sym is ∙ text_outside s.state takes));
    };
    still = r.still;
    letter = r.letter;
    read = r.read;
    held = record { fields = r.held.fields; fits = r.held.fits };
  },
  λ domain before h. goes-on s bs buf domain before none
      (λ t rest. outside-run s.fields.domain s.sound s.twice s.seen (unless s.fault t) s.state s.field bs rest takes
      r.calm.held plain) h,
)

-- a line whose shape is broken has its answer, whatever comes
pub lost-goes : (s : SddlReader) (bs buf : List ℕ) (domain : Option SecurityId) (before : List ℕ) → s.sound ≡ false
    → Reads s buf domain before → Reads s buf domain (before ++ bs)
lost-goes s bs buf domain before lost h =
    let all : (u : List ℕ) → answer_at s h.0 u ≡ Err fault.Shape = λ u. rw lost
    (unsound s.fields.domain true s.twice s.seen (unless s.fault h.0) s.field u s.state) in (
      h.0,
      h.1,
      λ rest. all (option_to_list s.pending ++ rest)
          ∙ (sym (all (option_to_list s.pending ++ (bs ++ rest))) ∙ (h.2 (bs ++ rest) ∙ rw append_assoc refl)),
    )

-- 5. A text fed in runs.

pub none-if : {X : Type 0} → (x : Option X) (b : Bool) → b ≡ true → is_some x ≡ not b → x ≡ None
none-if None b e f = refl
none-if (Some y) true e f = absurd cc
none-if (Some y) false e f = absurd cc

-- a byte was taken from what is left, then what ends before a rest, and of that a run
pub fed-more : (fed next whole left after rest : List ℕ) (b n : ℕ) → left ≡ b ∷ after → fed ++ left ≡ whole
    → next ++ rest ≡ (fed ++ b ∷ []) ++ after → (next ++ take n rest) ++ drop n rest ≡ whole
fed-more fed next whole left after rest b n is e more =
    append_assoc next (take n rest) (drop n rest)
    ∙ (ap (λ (t : List ℕ). next ++ t) (take-append-drop n rest)
    ∙ (more ∙ (append_assoc fed (b ∷ []) after ∙ (ap (λ (t : List ℕ). fed ++ t) (sym is) ∙ e))))

pub fed-whole : (fed whole left : List ℕ) → length left ≡ 0 → fed ++ left ≡ whole → fed ≡ whole
fed-whole fed whole [] is e = sym (append_nothing fed) ∙ e
fed-whole fed whole (b ∷ left) is e = absurd (omega arith)
