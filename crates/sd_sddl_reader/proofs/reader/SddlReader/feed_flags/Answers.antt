use Rattle.std.proofs.Common.{refl, true}
use Rattle.sd_sddl_builder.specs.declared.slot.AceField.TheVariants as field
use Rattle.sd_sddl_reader.specs.declared.line.State.TheVariants as state
use Rattle.sd_sddl_reader.proofs.FitLaws.{can-take-front}
use Rattle.sd_sddl_reader.proofs.WholeParts.{feeds-to, steps-flags, text-inside}
use Rattle.sd_sddl_reader.specs.declared.reader.SddlReader.{SddlReader}
use Rattle.sd_builder.specs.Draft.{closed}
use Rattle.sd_sddl_builder.specs.FoldedReading.{begun_or_null, take_field, take_front, with_flags}
use Rattle.sd_sddl_builder.proofs.laws.WholeTexts.{whole-readable}
use Rattle.sd_sddl_reader.proofs.reader.SddlReader.feed_flags.Goals as goal

pub take_whole-requires-clause-held : goal.take_whole-requires-clause-held
take_whole-requires-clause-held c =
    let reader = c.requires.reader in
    let may =
    can-take-front c.args.self.now c.args.buf.now c.args.which true c.requires.here (reader.read, reader.held) in
    let front = may.1 c.requires.fresh.clear in
    (may.0, front.0, front.1)

pub put_front-requires : goal.put_front-requires
put_front-requires c =
    let reader = c.requires.reader in
    let may =
    can-take-front c.args.self.now c.args.buf.now c.args.which true c.requires.here (reader.read, reader.held) in
    let front = may.1 c.requires.fresh.clear in
    (may.0, front.0, front.1)

pub returns-in-Some : goal.returns-in-Some
unfolding take_field take_front
returns-in-Some c =
    let s = c.args.self.now in
    let at = c.in-Some.ensures in
    let front = c.in-Some.front in
    let taken : SddlReader = record s { fields = c.put_front.new.self } in
    let readable = whole-readable at.field (text-inside at.field at.whole.plain) at.whole.fits in
    let over = steps-flags s taken c.args.buf.now c.put_front.new.buf at.field c.in-Some.rest.now c.args.text.now
    c.args.which c.requires.here c.requires.fresh at.whole at.stands
    (record {
      read = λ t k. (
        with_flags c.args.which front.flags
            (record t { parts = begun_or_null c.args.which front.null (closed t.parts) }),
        λ none. c.put_front.ensures.held t k,
        rw (c.requires.fresh.clear, readable, at.reads, at.list) refl,
      );
      domain = c.put_front.ensures.domain;
      same = refl;
    }) in
    feeds-to s (record taken { state = state.Ace field.Kind }) c.args.buf.now c.args.text.now
    c.put_front.new.buf c.in-Some.rest.now c.requires.fresh.none c.requires.reader over

pub returns-in-Some-first_parenthesis : goal.returns-in-Some-first_parenthesis
returns-in-Some-first_parenthesis c =
    let over = steps-flags c.args.self.now c.take_whole.new.self c.args.buf.now c.take_whole.new.buf
    c.in-Some-first_parenthesis.field.now c.in-Some-first_parenthesis.rest.now c.args.text.now c.args.which
    c.requires.here c.requires.fresh
    c.in-Some-first_parenthesis.ensures.found.0 c.in-Some-first_parenthesis.ensures.found.1
    c.take_whole.ensures in
    feeds-to c.args.self.now (record c.take_whole.new.self { state = state.Ace field.Kind })
    c.args.buf.now c.args.text.now
    c.take_whole.new.buf c.in-Some-first_parenthesis.rest.now c.requires.fresh.none c.requires.reader over
