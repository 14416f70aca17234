use Rattle.std.proofs.Common.{◌≡◌, true, false, refl, sym, ◌∙◌, arith}
use Rattle.std.specs.Prelude.{◌==◌}
use Rattle.std.proofs.lemmas.Bool.Decides.{nat_tests}
use Rattle.sd_sddl_reader.specs.declared.line.State.TheVariants as state
use Rattle.sd_text.specs.Chains.{unless}
use Rattle.sd_sddl_reader.proofs.FieldTexts.{same_within, within_gap, within_held}
use Rattle.sd_sddl_reader.proofs.Steps.{entry_text, open_inside, unsound}
use Rattle.sd_sddl_reader.proofs.reader.SddlReader.put_inside.Goals as goal

pub returns-in-40 : goal.returns-in-40
returns-in-40 c =
    let s = c.args.self.now in
    record {
      answers = λ t k. (
        t,
        record { fields = k.fields; fits = k.fits },
        λ rest. rw (c.requires.here, c.in-40.is)
            (unsound s.fields.domain true s.twice s.seen (unless s.fault t) s.field rest (state.Ace c.args.field)
            ∙ sym (open_inside s.fields.domain s.sound s.twice s.seen (unless s.fault t) s.field rest c.args.field)),
      );
      calm = record { held = c.requires.ready.calm.held; gap = c.requires.ready.calm.gap };
      pending = refl;
    }

pub returns-in-41 : goal.returns-in-41
returns-in-41 c = rw (c.in-41.is) c.end_ace.ensures

pub returns-in-59 : goal.returns-in-59
returns-in-59 c = rw (c.in-59.is) c.end_ace_field.ensures

pub returns-in_default : goal.returns-in_default
returns-in_default c =
    let s = c.args.self.now in
    let other = c.in_default in
    let e40 : (c.args.byte == 40) ≡ false = grind (arith, nat_tests) in
    let e41 : (c.args.byte == 41) ≡ false = grind (arith, nat_tests) in
    let e59 : (c.args.byte == 59) ≡ false = grind (arith, nat_tests) in
    let calm : s.field.gap ≡ false = c.requires.ready.calm.gap (rw (c.requires.here) refl) in
    record {
      answers = λ t k. (
        t,
        record { fields = k.fields; fits = k.fits },
        λ rest. rw (c.requires.here, c.push_within.ensures)
            (entry_text s.fields.domain s.sound s.twice s.seen (unless s.fault t) s.field rest c.args.field _
            c.args.byte e40 e41 e59 (λ u. same_within s.field c.args.byte u c.requires.ready.calm.held calm)),
      );
      calm = record {
        held = rw (c.push_within.ensures) (within_held s.field c.args.byte c.requires.ready.calm.held);
        gap = λ _. rw (c.push_within.ensures) (within_gap s.field c.args.byte);
      };
      pending = refl;
    }
