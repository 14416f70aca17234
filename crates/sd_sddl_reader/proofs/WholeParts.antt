-- An owner, a group or the flags of an ACL that stand whole in what comes of a line, read where they stand.
use Rattle.std.proofs.Common.{◌≡◌, ℕ, ◌≤◌, ◌⊎◌, inl, inr, Bool, true, false, ◌&&◌, ◌||◌, List, [], ◌∷◌, ◌++◌, length}
use Rattle.std.proofs.Common.{Some, None, Ok, refl, ap, sym, ◌∙◌, arith, append_assoc, length-append}
use Rattle.std.specs.Prelude.{◌==◌, if◌then◌else◌, Option, Result}
use Rattle.std.specs.List.{list_all, list_any}
use Rattle.std.proofs.Math.Dec.{eqb-suc-zero}
use Rattle.std.proofs.lemmas.Bool.{and_parts}
use Rattle.std.proofs.lemmas.Bool.Decides.{nat_tests}
use Rattle.sd_sid.specs.Sid.{SecurityId}
use Rattle.sd_sid.specs.SidText.{is_sid_byte}
use Rattle.sd_sid.proofs.laws.TextLaws.{list_all-more}
use Rattle.sd_parts.specs.declared.part.SidPart.{SidPart}
use Rattle.sd_parts.specs.declared.part.Which.{Which}
use Rattle.sd_sddl_fields.specs.FieldTexts.{is_blank}
use Rattle.sd_sddl_fields.specs.Held.{IsHeld, Held, held_blank, held_run, held_text, held_with, is_plain_inside}
use Rattle.sd_sddl_fields.specs.Held.{is_plain_text, no_text}
use Rattle.sd_sddl_fields.proofs.laws.HeldRuns.{run-fits}
use Rattle.sd_text.specs.Chains.{unless}
use Rattle.sd_sddl_builder.specs.Line.{begins_with_colon, byte, head_at, head_of, pieces_from}
use Rattle.sd_sddl_builder.specs.FoldedReading.{FieldsRead, take_field, with_owner_or_group}
use Rattle.sd_sddl_reader.specs.Inner.Progress.{Seen, ended_with, is_inside, is_seen, rest_answer, state_of, with_head}
use Rattle.sd_sddl_builder.specs.FieldReading.{HasReadFields}
use Rattle.sd_sddl_reader.specs.Inner.Reads.{EndsPart, Feeds, IsFresh, IsReader, LineHasRead, NotesHead, Steps}
use Rattle.sd_sddl_reader.specs.Inner.Reads.{TakesWhole, answer_at}
use Rattle.sd_sddl_reader.specs.Inner.WholePart.{HeadAfter, HeadBehind, IsBehindBlanks, IsPlainText, SidBefore}
use Rattle.sd_sddl_builder.specs.declared.fault.SddlFault.{SddlFault}
use Rattle.sd_sddl_builder.specs.declared.fault.SddlFault.TheVariants as fault
use Rattle.sd_sddl_builder.specs.declared.reading.FieldReader.{FieldReader}
use Rattle.sd_sddl_builder.specs.declared.slot.AceField.TheVariants as field
use Rattle.sd_sddl_builder.specs.declared.slot.Head.{Head}
use Rattle.sd_sddl_builder.specs.declared.slot.Slot.{Slot}
use Rattle.sd_sddl_builder.specs.declared.slot.Slot.TheVariants as slot
use Rattle.sd_sddl_reader.specs.declared.line.State.{State}
use Rattle.sd_sddl_reader.specs.declared.line.State.TheVariants as state
use Rattle.sd_sddl_reader.specs.declared.reader.SddlReader.{SddlReader}
use Rattle.sd_sddl_reader.proofs.FieldTexts.{same_blank, same_text, with_held}
use Rattle.sd_sddl_reader.proofs.FitLaws.{fits-first, fits-head, lacks-ended, none-ended, unseen-head}
use Rattle.sd_sddl_reader.proofs.Runs.{blank-is, not_true, nothing-held, plain-is}
use Rattle.sd_sddl_builder.proofs.laws.WholeTexts.{whole-readable}
use Rattle.sd_sddl_builder.proofs.laws.Heads.{no-colon, not_letter, no_head as unheaded}
use Rattle.sd_sddl_reader.proofs.Steps.{begin-noted, open_first, outside_text}
use Rattle.sd_sddl_reader.proofs.WholeFields.{fed-on, reader-at, whole-held}

-- 1. The answer to a text outside parentheses.

text-parts : (b : ℕ) (bs : List ℕ) → list_all is_plain_text (b ∷ bs) ≡ true
    → (is_plain_inside b ≡ true) × ((b == 58) ≡ false) × (list_all is_plain_text bs ≡ true)
text-parts b bs e =
    let p = and_parts (is_plain_text b) _ e in
    let q = and_parts (is_plain_inside b) _ p.0 in
    (q.0, not_true _ q.1, p.1)

both : (x y : Bool) → x ≡ true → y ≡ true → (x && y) ≡ true
both true y e f = f
both false y e f = absurd cc

pub text-inside : (bs : List ℕ) → list_all is_plain_text bs ≡ true → list_all is_plain_inside bs ≡ true
text-inside [] e = refl
text-inside (b ∷ bs) e =
    let p = text-parts b bs e in
    both (is_plain_inside b) (list_all is_plain_inside bs) p.0 (text-inside bs p.2)

sid-byte-text : (b : ℕ) → is_sid_byte b ≡ true → is_plain_text b ≡ true
sid-byte-text b is = grind (arith, nat_tests)

-- the text of a SID
pub sid-bytes-text : (bs : List ℕ) → list_all is_sid_byte bs ≡ true → list_all is_plain_text bs ≡ true
sid-bytes-text bs all = list_all-more is_sid_byte is_plain_text sid-byte-text bs all

-- a letter before such a text begins no head, where no colon follows the text
no-head : (b c : ℕ) (bs rest : List ℕ) → list_all is_plain_text bs ≡ true → (c == 58) ≡ false
    → head_at (byte b) (pieces_from false (bs ++ c ∷ rest)).after ≡ None
no-head b c [] rest e n = no-colon c rest (head_of b) n
no-head b c (d ∷ bs) rest e n = no-colon d (bs ++ c ∷ rest) (head_of b) (text-parts d bs e).1

module _ (dm : Option SecurityId) (so tw : Bool) (se : Seen) (r : Result FieldsRead SddlFault) (pl : State)
    (in_text : ((p : SidPart) × (pl ≡ state.Sid p)) ⊎ ((w : Which) × (pl ≡ state.AclFlags w)))
    (c : ℕ) (rest : List ℕ) (n : (c == 58) ≡ false) where
  text-run : (h : Held) (bs : List ℕ) → IsHeld h → list_all is_plain_text bs ≡ true
      → rest_answer dm so tw se r pl (held_run h bs) (c ∷ rest) ≡ rest_answer dm so tw se r pl h (bs ++ c ∷ rest)
  text-run h [] k e = refl
  text-run h (b ∷ bs) k e =
      let p = text-parts b bs e in
      let l = plain-is b p.0 in
      text-run (held_with h b) bs (with_held h b k l.blank) p.2
      ∙ outside_text dm so tw se r h b (bs ++ c ∷ rest) l.opens l.closes (no-head b c bs rest p.2 n) pl (held_with h b)
      p.1 (λ u. same_text h b u k l.blank) in_text

  pub whole-text : (t : List ℕ) → list_all is_plain_text t ≡ true → length t ≤ 183
      → rest_answer dm so tw se r pl (record { text = t; gap = false; broken = false }) (c ∷ rest)
      ≡ rest_answer dm so tw se r pl no_text (t ++ c ∷ rest)
  whole-text t e fits =
      ap (λ h. rest_answer dm so tw se r pl h (c ∷ rest)) (sym (run-fits [] t (omega arith)))
      ∙ text-run no_text t nothing-held e

-- 2. Blanks behind a text outside parentheses.

-- what is held of a text that ended, and what follows it
pub record EndsHeld (dm : Option SecurityId) (so tw : Bool) (se : Seen) (r : Result FieldsRead SddlFault) (p : SidPart)
    (h : Held) (bs : List ℕ) : Type 0 where
  pub ended : Held
  pub held : IsHeld ended
  pub text : held_text ended ≡ held_text h
  pub answers : (rest : List ℕ) → rest_answer dm so tw se r (state.Sid p) ended rest
      ≡ rest_answer dm so tw se r (state.Sid p) h (bs ++ rest)

blank-held : (h : Held) → IsHeld h → IsHeld (held_blank h) × (held_text (held_blank h) ≡ held_text h)
blank-held h k = by_broken h.text h.gap h.broken k.clean k.fits
  where
    by_broken : (t : List ℕ) (g x : Bool) → list_any is_blank t ≡ false → length t ≤ 183
        → IsHeld (held_blank (record { text = t; gap = g; broken = x }))
        × (held_text (held_blank (record { text = t; gap = g; broken = x }))
        ≡ held_text (record { text = t; gap = g; broken = x }))
    by_broken t g true clean fits = (record { clean = clean; fits = fits }, refl)
    by_broken [] g false clean fits = (record { clean = clean; fits = fits }, refl)
    by_broken (c ∷ t) g false clean fits =
        rw (eqb-suc-zero (length t)) (record { clean = clean; fits = fits }, refl)

pub blanks-behind : (dm : Option SecurityId) (so tw : Bool) (se : Seen) (r : Result FieldsRead SddlFault) (p : SidPart)
    (h : Held) (bs : List ℕ) → IsHeld h → list_all is_blank bs ≡ true → EndsHeld dm so tw se r p h bs
blanks-behind dm so tw se r p h [] k all = record { ended = h; held = k; text = refl; answers = λ rest. refl }
blanks-behind dm so tw se r p h (b ∷ bs) k all =
    let q = and_parts (is_blank b) (list_all is_blank bs) all in
    let is = blank-is b q.0 in
    let next = blank-held h k in
    let more = blanks-behind dm so tw se r p (held_blank h) bs next.0 q.1 in
    record {
      ended = more.ended;
      held = more.held;
      text = more.text ∙ next.1;
      answers = λ rest.
          more.answers rest
          ∙ outside_text dm so tw se r h b (bs ++ rest) is.0 is.1
          (unheaded (begins_with_colon (pieces_from false (bs ++ rest)).after) (head_of b) is.3) (state.Sid p)
          (held_blank h) is.2 (λ u. same_blank h b u k q.0) (inl (p, refl));
    }

-- a text and blanks behind it, before a head
text-then : (dm : Option SecurityId) (so tw : Bool) (se : Seen) (r : Result FieldsRead SddlFault) (p : SidPart)
    (t bs : List ℕ) (letter : ℕ) (more : List ℕ) → list_all is_plain_text t ≡ true → length t ≤ 183
    → list_all is_blank bs ≡ true → (letter == 58) ≡ false
    → rest_answer dm so tw se r (state.Sid p) (record { text = t; gap = false; broken = false })
    (bs ++ letter ∷ 58 ∷ more)
    ≡ rest_answer dm so tw se r (state.Sid p) no_text (t ++ (bs ++ letter ∷ 58 ∷ more))
text-then dm so tw se r p t [] letter more plain fits all n =
    whole-text dm so tw se r (state.Sid p) (inl (p, refl)) letter (58 ∷ more) n t plain fits
text-then dm so tw se r p t (b ∷ bs) letter more plain fits all n =
    let is = blank-is b (and_parts (is_blank b) (list_all is_blank bs) all).0 in
    whole-text dm so tw se r (state.Sid p) (inl (p, refl)) b (bs ++ letter ∷ 58 ∷ more) is.2 t plain fits

-- 3. A head.

pub head-steps : (s e n : SddlReader) (before after : List ℕ) (letter : ℕ) (head : Head) → is_inside s.state ≡ false
    → IsHeld s.field → head_of letter ≡ Some head → EndsPart s before e after → NotesHead e head n
    → Steps s before (letter ∷ 58 ∷ []) n after
head-steps s e n before after letter head here held names ends notes = λ t k.
    let x = ends.read t k in
    let seen = ap (λ (x : SddlReader). x.seen) ends.same in
    let fields = ap (λ (x : SddlReader). x.fields) notes.same in
    let found : n.fault ≡ None → (is_seen e.seen head ≡ false) × (e.fault ≡ None) =
    λ none. unseen-head _ _ _ (sym notes.fault ∙ none) in (
      x.0,
      record {
        fields = λ none. rw (fields) (x.1 (found none).1);
        fits = λ none.
            let clear = none-ended s.fields.domain s.state s.field s.fault e.fault t x.0 x.2 (found none).1 in
            let unseen : is_seen s.seen head ≡ false = ap (λ (x : Seen). is_seen x head) (sym seen) ∙ (found none).0 in
            rw (notes.state, notes.seen, seen)
            (fits-head s.state s.seen t x.0 head
            (lacks-ended s.fields.domain s.state s.seen s.field s.fault e.fault t x.0 x.2 (found none).1
            (k.fits clear)) unseen (k.fits clear));
      },
      λ rest. rw (
        notes.state,
        notes.seen,
        notes.twice,
        notes.fault,
        fields,
        ends.domain,
        ap (λ (x : SddlReader). x.sound) notes.same,
        ap (λ (x : SddlReader). x.sound) ends.same,
        ap (λ (x : SddlReader). x.field) notes.same,
        ends.cleared,
        seen,
        ap (λ (x : SddlReader). x.twice) ends.same,
      )
          (begin-noted s.fields.domain s.sound s.twice s.seen (unless s.fault t) s.state s.field letter head rest x.0
          e.fault here held names x.2),
    )

-- 4. A part that is whole.

-- a step over what stands before a rest, after which nothing is held
pub record StepsTo (s : SddlReader) (before text : List ℕ) (n : SddlReader) (after rest : List ℕ) : Type 0 where
  pub bytes : List ℕ
  pub stands : text ≡ bytes ++ rest
  pub steps : Steps s before bytes n after
  pub field : n.field ≡ no_text
  pub pending : n.pending ≡ None

-- the reader with what is held of the field at hand
abbrev holding : SddlReader → Held → SddlReader
holding s h = record s { field = h }

ends-sid : (s e : SddlReader) (before after t : List ℕ) (h : Held) (p : SidPart) → s.state ≡ state.Sid p → IsFresh s
    → held_text h ≡ t → TakesWhole s before (slot.Sid p) t e after → EndsPart (holding s h) before e after
ends-sid s e before after t h p here f text w = record {
  read = λ r k.
      let x = w.read r (k.fields f.clear) in
      (x.0, x.1, rw (here, f.clear, text) x.2);
  cleared = ap (λ (x : SddlReader). x.field) w.same ∙ f.begins;
  domain = w.domain;
  same = w.same
      ∙ ap (λ (h : Held). record s { field = h; fault = e.fault; fields = e.fields })
      (sym (ap (λ (x : SddlReader). x.field) w.same));
}

-- a head that stands directly behind its text
pub behind-none : (t : List ℕ) (head : Head) (rest text : List ℕ) → HeadAfter t head rest text
    → HeadBehind t head rest text
behind-none t head rest text h = record {
  whole = h.whole;
  blanks = [];
  blank = refl;
  letter = h.letter;
  stands = h.stands;
  names = h.names;
}

pub steps-sid : (s e n : SddlReader) (before after t rest text : List ℕ) (p : SidPart) (head : Head)
    → s.state ≡ state.Sid p → IsFresh s → HeadBehind t head rest text → TakesWhole s before (slot.Sid p) t e after
    → NotesHead e head n → StepsTo s before text n after rest
steps-sid s e n before after t rest text p head here f h w notes =
    let whole : Held = record { text = t; gap = false; broken = false } in
    let held = whole-held t (text-inside t h.whole.plain) h.whole.fits in
    let spaced = λ (r : FieldsRead). blanks-behind s.fields.domain s.sound s.twice s.seen (unless s.fault r) p whole
    h.blanks held h.blank in
    record {
      bytes = t ++ (h.blanks ++ h.letter ∷ 58 ∷ []);
      stands =
          h.stands
          ∙ sym (append_assoc t (h.blanks ++ h.letter ∷ 58 ∷ []) rest
          ∙ ap (λ (u : List ℕ). t ++ u) (append_assoc h.blanks (h.letter ∷ 58 ∷ []) rest));
      steps = λ r k.
          let ended = spaced r in
          let over = head-steps (holding s ended.ended) e n before after h.letter head (rw here refl) ended.held h.names
          (ends-sid s e before after t ended.ended p here f ended.text w) notes in
          let x = over r (record { fields = k.fields; fits = k.fits }) in (
            x.0,
            x.1,
            λ more.
                let run : answer_at (holding s ended.ended) r (h.letter ∷ 58 ∷ more)
                ≡ answer_at s r ((t ++ (h.blanks ++ h.letter ∷ 58 ∷ [])) ++ more) =
                rw (here, f.begins, append_assoc, append_assoc)
                (ended.answers (h.letter ∷ 58 ∷ more)
                ∙ text-then s.fields.domain s.sound s.twice s.seen (unless s.fault r) p t h.blanks h.letter more
                h.whole.plain h.whole.fits h.blank (not_letter h.letter 58 head h.names refl)) in
                x.2 more ∙ run,
          );
      field = ap (λ (x : SddlReader). x.field) notes.same ∙ (ap (λ (x : SddlReader). x.field) w.same ∙ f.begins);
      pending = ap (λ (x : SddlReader). x.pending) notes.same ∙ (ap (λ (x : SddlReader). x.pending) w.same ∙ f.none);
    }

pub steps-flags : (s e : SddlReader) (before after t rest text : List ℕ) (which : Which)
    → s.state ≡ state.AclFlags which → IsFresh s → IsPlainText t → text ≡ t ++ 40 ∷ rest
    → TakesWhole s before (slot.AclFlags which true) t e after
    → StepsTo s before text (record e { state = state.Ace field.Kind }) after rest
steps-flags s e before after t rest text which here f plain stands w =
    let held = whole-held t (text-inside t plain.plain) plain.fits in
    let seen = ap (λ (x : SddlReader). x.seen) w.same in
    record {
      bytes = t ++ 40 ∷ [];
      stands = stands ∙ sym (append_assoc t (40 ∷ []) rest);
      steps = λ r k.
          let x = w.read r (k.fields f.clear) in (
            x.0,
            record {
              fields = x.1;
              fits = λ none. rw seen
                  (fits-first s.fields.domain which s.seen r x.0 t (sym (rw none at x.2))
                  (rw here at (k.fits f.clear)));
            },
            λ more. rw (
              w.domain,
              ap (λ (x : SddlReader). x.sound) w.same,
              ap (λ (x : SddlReader). x.twice) w.same,
              seen,
              x.2,
              ap (λ (x : SddlReader). x.field) w.same,
              f.begins,
              here,
              f.clear,
              append_assoc,
            )
                (open_first s.fields.domain s.sound s.twice s.seen (Ok r)
                (record { text = t; gap = false; broken = false }) more which held
                ∙ whole-text s.fields.domain s.sound s.twice s.seen (Ok r) (state.AclFlags which) (inr (which, refl)) 40
                more refl t plain.plain plain.fits),
          );
      field = ap (λ (x : SddlReader). x.field) w.same ∙ f.begins;
      pending = ap (λ (x : SddlReader). x.pending) w.same ∙ f.none;
    }

-- such a step is what a call does that takes bytes at the front
pub feeds-to : (s n : SddlReader) (before text after rest : List ℕ) → s.pending ≡ None → IsReader s before
    → StepsTo s before text n after rest → Feeds s before text n after rest
feeds-to s n before text after rest none reader over =
    let e = over.steps reader.read reader.held in
    record {
      shorter = omega (arith, ap length over.stands, length-append over.bytes rest);
      reader = reader-at n after over.field over.pending e.0 e.1;
      read = λ domain fed h.
          fed-on s n before after domain over.bytes rest text (fed ++ text) none over.pending over.steps over.stands
          (fed, h, refl);
    }

-- an owner or a group, and the head behind it
pub feeds-part : (s e n : SddlReader) (before after t rest text : List ℕ) (p : SidPart) (head : Head)
    → s.state ≡ state.Sid p → IsFresh s → IsReader s before → HeadBehind t head rest text
    → TakesWhole s before (slot.Sid p) t e after → NotesHead e head n → Feeds s before text n after rest
feeds-part s e n before after t rest text p head here f reader h w notes =
    feeds-to s n before text after rest f.none reader
    (steps-sid s e n before after t rest text p head here f h w notes)

-- the same where its SID is known
pub feeds-sid : (s : SddlReader) (fields : FieldReader) (n : SddlReader) (before after rest text : List ℕ)
    (p : SidPart) (head : Head) (sid : SecurityId)
    → s.state ≡ state.Sid p → IsFresh s → IsReader s before → SidBefore sid head rest text
    → ((r : FieldsRead) → HasReadFields s.fields before r → HasReadFields fields after (with_owner_or_group p r sid))
    → fields.domain ≡ s.fields.domain → NotesHead (record s { fields = fields }) head n
    → Feeds s before text n after rest
unfolding take_field
feeds-sid s fields n before after rest text p head sid here f reader at held domain notes =
    let readable = whole-readable at.field (text-inside at.field at.before.whole.plain) at.before.whole.fits in
    feeds-part s (record s { fields = fields }) n before after at.field rest text p head here f reader at.before
    (record {
      read = λ r k. (
        with_owner_or_group p r sid,
        λ none. held r k,
        rw (f.clear, readable, at.reads s.fields.domain) refl,
      );
      domain = domain;
      same = refl;
    }) notes

-- a SID's text at the front of a text, and a head behind the blanks that follow it
pub head-behind : (t mid between text rest : List ℕ) (letter : ℕ) (head : Head) → list_all is_sid_byte t ≡ true
    → length t ≤ 183 → text ≡ t ++ mid → IsBehindBlanks between mid → between ≡ letter ∷ 58 ∷ rest
    → head_of letter ≡ Some head → HeadBehind t head rest text
head-behind t mid between text rest letter head plain fits stands b next names = record {
  whole = record { plain = sid-bytes-text t plain; fits = fits };
  blanks = b.blanks;
  blank = b.blank;
  letter = letter;
  stands = stands ∙ ap (λ (u : List ℕ). t ++ u) (b.stands ∙ ap (λ (u : List ℕ). b.blanks ++ u) next);
  names = names;
}
