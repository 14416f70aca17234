use Rattle.std.proofs.Common.{true, refl, sym, ap, ◌∙◌, arith}
use Rattle.sd_text.specs.Chains.{unless}
use Rattle.sd_sddl_reader.specs.declared.reader.SddlReader.{SddlReader}
use Rattle.sd_sddl_reader.proofs.Steps.{open_first, open_next, open_nowhere, unsound}
use Rattle.sd_sddl_reader.proofs.FitLaws.{calm-cleared, can-take-front, fits-first, fits-next, none-before, read-ok}
use Rattle.sd_sddl_reader.proofs.reader.SddlReader.begin_ace.Goals as goal

pub end_field-requires : goal.end_field-requires
end_field-requires c =
    record {
      clean = c.requires.ready.calm.held;
      held = can-take-front c.args.self.now _ c.in-AclFlags.which true c.in-AclFlags.is c.requires.ready.held;
    }

pub returns-in-AclFlags : goal.returns-in-AclFlags
returns-in-AclFlags c =
    let s = c.args.self.now in
    let same = c.end_field.ensures.same in
    let sound = ap (λ (r : SddlReader). r.sound) same in
    let twice = ap (λ (r : SddlReader). r.twice) same in
    let seen = ap (λ (r : SddlReader). r.seen) same in
    record {
      answers = λ t k. (let e = c.end_field.ensures.read t k.fields in (
        e.0,
        record {
          fields = e.1;
          fits = λ none. rw seen
              (fits-first s.fields.domain c.in-AclFlags.which s.seen t e.0 _
              (read-ok s.fault _ t e.0 _ e.2 none)
              (rw (c.in-AclFlags.is) at (k.fits (none-before s.fault _ t e.0 _ e.2 none))));
        },
        λ rest. rw (
          sound,
          twice,
          seen,
          c.in-AclFlags.is,
          e.2,
          c.end_field.ensures.cleared,
          c.end_field.ensures.domain,
        )
            (open_first s.fields.domain s.sound s.twice s.seen (unless s.fault t) s.field rest c.in-AclFlags.which
            c.requires.ready.calm.held),
      ));
      calm = calm-cleared _ c.end_field.ensures.cleared;
      pending = ap (λ (r : SddlReader). r.pending) same;
    }

pub returns-in-AfterAce : goal.returns-in-AfterAce
returns-in-AfterAce c =
    let s = c.args.self.now in
    record {
      answers = λ t k. (
        t,
        record { fields = k.fields; fits = λ none. fits-next s.seen t (rw (c.in-AfterAce.is) at (k.fits none)) },
        λ rest. rw (c.in-AfterAce.is, c.clear.ensures)
            (open_next s.fields.domain s.sound s.twice s.seen (unless s.fault t) s.field rest),
      );
      calm = calm-cleared _ c.clear.ensures;
      pending = refl;
    }

pub returns-in_default : goal.returns-in_default
returns-in_default c =
    let s = c.args.self.now in
    record {
      answers = λ t k. (
        t,
        record { fields = k.fields; fits = k.fits },
        λ rest. unsound s.fields.domain true s.twice s.seen (unless s.fault t) s.field rest s.state
            ∙ sym (open_nowhere s.fields.domain s.sound s.twice s.seen (unless s.fault t) s.field rest s.state
            c.requires.here c.in_default.not-AclFlags c.in_default.not-AfterAce),
      );
      calm = record { held = c.requires.ready.calm.held; gap = c.requires.ready.calm.gap };
      pending = refl;
    }
