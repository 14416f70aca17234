use Rattle.std.proofs.Common.{◌≡◌, ℕ, ap, length, [], ◌∷◌, None, refl, ◌∙◌, arith, length-append}
use Rattle.sd_sddl_reader.specs.declared.line.State.TheVariants as state
use Rattle.sd_sddl_reader.proofs.WholeFields.{fed-on, over-blanks, reader-at, steps-open, steps-over}
use Rattle.sd_sddl_reader.specs.Inner.Reads.{Feeds}
use Rattle.sd_sddl_reader.proofs.reader.SddlReader.feed_aces.Goals as goal
use Rattle.sd_sddl_reader.proofs.reader.SddlReader.feed_aces.Goals.{After-behind_blanks-behind}

-- behind an ACE that was read in place, and the blanks after it
ended : (c : After-behind_blanks-behind) → Feeds c.args.self.now c.args.buf.now c.args.text.now
    (record c.loop-after.self { state = state.AfterAce; fields = c.take_ace.new.self }) c.take_ace.new.buf
    c.behind_blanks-behind.result.now
ended c =
    let s = c.loop-after.self in
    let i = c.loop-after.invariant in
    let none : s.pending ≡ None = i.reader.still (rw (i.here) refl) in
    let t = record s { state = state.AfterAce; fields = c.take_ace.new.self } in
    let ace = steps-over s t c.loop-after.buf c.take_ace.new.buf c.loop-after.rest.now c.in-Some.after.now i.here
    i.begins i.clear c.take_ace.ensures.domain refl c.in-Some.ensures.read in
    let between = c.behind_blanks-behind.ensures in
    let over = over-blanks s t c.loop-after.buf c.take_ace.new.buf c.loop-after.rest.now c.in-Some.after.now
    between.blanks c.behind_blanks-behind.result.now ace between.blank between.stands in
    let e = over.steps i.reader.read i.reader.held in
    record {
      shorter =
          omega (arith, length-append over.bytes c.behind_blanks-behind.result.now, ap length over.stands, i.shorter);
      reader = reader-at _ _ over.field (over.pending ∙ none) e.0 e.1;
      read = λ domain before h.
          fed-on s t c.loop-after.buf c.take_ace.new.buf domain over.bytes _ _ _ none (over.pending ∙ none) over.steps
          over.stands (i.read domain before h);
    }

pub returns-in_default-split_first : goal.returns-in_default-split_first
returns-in_default-split_first c = ended (goal.at.returns-in_default-split_first c).After-behind_blanks-behind

pub returns-in_default-split_first-2 : goal.returns-in_default-split_first-2
returns-in_default-split_first-2 c = ended (goal.at.returns-in_default-split_first-2 c).After-behind_blanks-behind

pub returns : goal.returns
returns c =
    let i = c.loop-after.invariant in
    let same = c.in_default.ensures.read in
    record {
      shorter = i.shorter;
      reader = rw (same.0, same.1) (i.reader);
      read = λ domain before h. rw (same.0, same.1) (i.read domain before h);
    }

pub loop-after-preserved : goal.loop-after-preserved
loop-after-preserved c =
    let s = c.loop-after.self in
    let t = record s { state = state.AfterAce; fields = c.take_ace.new.self } in
    let none : s.pending ≡ None = c.loop-after.invariant.reader.still (rw (c.loop-after.invariant.here) refl) in
    let i = c.loop-after.invariant in
    let ace = steps-over s t c.loop-after.buf c.take_ace.new.buf c.loop-after.rest.now c.in-Some.after.now i.here
    i.begins i.clear c.take_ace.ensures.domain refl c.in-Some.ensures.read in
    let between = c.behind_blanks-behind.ensures in
    let over = over-blanks s t c.loop-after.buf c.take_ace.new.buf c.loop-after.rest.now c.in-Some.after.now
    between.blanks c.behind_blanks-behind.result.now ace between.blank between.stands in
    let still : t.pending ≡ None = over.pending ∙ none in
    let opens = steps-open t c.take_ace.new.buf over.state over.field in
    let e = over.steps c.loop-after.invariant.reader.read c.loop-after.invariant.reader.held in
    let o = opens e.0 e.1 in
    let rest = c.behind_blanks-behind.result.now in
    let next = c.in-Some-eq40-default.next.now in
    let is : rest ≡ 40 ∷ next =
    c.in-Some-eq40-default.ensures.cases.0 ∙ ap (λ (b : ℕ). b ∷ next) c.in-Some-eq40-default.field-0-0-test in
    record {
      shorter = omega (arith, length-append over.bytes rest, ap length over.stands, ap length is);
      here = refl;
      begins = over.field;
      clear = over.fault;
      reader = reader-at _ _ over.field still o.0 o.1;
      read = λ domain before h.
          fed-on t _ c.take_ace.new.buf _ domain (40 ∷ []) _ _ _ still still opens is
          (fed-on s t c.loop-after.buf c.take_ace.new.buf domain over.bytes _ _ _
          none still over.steps over.stands
          (c.loop-after.invariant.read domain before h));
    }

pub take_ace-requires : goal.take_ace-requires
take_ace-requires c =
    let i = c.loop-after.invariant in
    record {
      held = (i.reader.read, i.reader.held.fields i.clear, (i.reader.held.fits i.clear).opened (rw (i.here) refl));
    }
