use Rattle.std.proofs.Common.{true, refl, sym, ap, ◌∙◌, arith}
use Rattle.sd_sddl_builder.specs.declared.slot.AceField.TheVariants as field
use Rattle.sd_sddl_reader.specs.declared.line.State.TheVariants as state
use Rattle.sd_text.specs.Chains.{unless}
use Rattle.sd_sddl_reader.specs.declared.reader.SddlReader.{SddlReader}
use Rattle.sd_sddl_reader.proofs.Steps.{column_more, cut, cut_late, unsound}
use Rattle.sd_sddl_reader.proofs.FitLaws.{calm-cleared, fits-field, none-before, read-ok}
use Rattle.sd_sddl_reader.proofs.reader.SddlReader.end_ace_field.Goals as goal

pub returns-in-Sid : goal.returns-in-Sid
returns-in-Sid c =
    let s = c.args.self.now in
    record {
      answers = λ t k. (
        t,
        record { fields = k.fields; fits = k.fits },
        λ rest. rw (c.requires.here, c.in-Sid.is)
            (unsound s.fields.domain true s.twice s.seen (unless s.fault t) s.field rest (state.Ace field.Sid)
            ∙ sym (cut_late s.fields.domain s.sound s.twice s.seen (unless s.fault t) s.field rest)),
      );
      calm = record { held = c.requires.ready.calm.held; gap = c.requires.ready.calm.gap };
      pending = refl;
    }

pub returns-in_default : goal.returns-in_default
returns-in_default c =
    let s = c.args.self.now in
    let same = c.end_field.ensures.same in
    let sound = ap (λ (r : SddlReader). r.sound) same in
    let twice = ap (λ (r : SddlReader). r.twice) same in
    let seen = ap (λ (r : SddlReader). r.seen) same in
    record {
      answers = λ t k. (let e = c.end_field.ensures.read t k.fields in (
        e.0,
        record {
          fields = e.1;
          fits = λ none. rw seen
              (fits-field s.fields.domain c.args.field (state.Ace c.next_field.result)
              s.seen t e.0 _ (read-ok s.fault _ t e.0 _ e.2 none) (λ h. refl)
              (rw (c.requires.here) at (k.fits (none-before s.fault _ t e.0 _ e.2 none))));
        },
        λ rest. rw (
          sound,
          twice,
          seen,
          c.requires.here,
          c.next_field.ensures,
          e.2,
          c.end_field.ensures.cleared,
          c.end_field.ensures.domain,
        )
            (cut s.fields.domain s.sound s.twice s.seen (unless s.fault t) s.field rest c.args.field
            (column_more c.args.field c.in_default.not-Sid)),
      ));
      calm = calm-cleared _ c.end_field.ensures.cleared;
      pending = ap (λ (r : SddlReader). r.pending) same;
    }
