use Rattle.std.proofs.Common.{true, refl, sym, ◌∙◌}
use Rattle.sd_text.specs.Chains.{unless}
use Rattle.sd_sddl_reader.proofs.FieldTexts.{same_outer}
use Rattle.sd_sddl_reader.proofs.Steps.{outside_blank, outside_other, outside_text, unsound}
use Rattle.sd_sddl_reader.proofs.reader.SddlReader.put_text.Goals as goal

pub returns-in-Sid-clause-answers : goal.returns-in-Sid-clause-answers
returns-in-Sid-clause-answers c = λ t rest none.
    let s = c.args.self.now in
    rw (c.push_outer.ensures)
    (outside_text s.fields.domain s.sound s.twice s.seen (unless s.fault t) s.field c.args.b rest
    c.requires.text.opens c.requires.text.closes none s.state _ c.requires.text.colon
    (λ u. same_outer s.field c.args.b u c.requires.calm.held) c.in-Sid.is)

pub returns-then-not-is_blank : goal.returns-then-not-is_blank
returns-then-not-is_blank c =
    let s = c.args.self.now in
    record {
      answers = λ t rest none. unsound s.fields.domain true s.twice s.seen (unless s.fault t) s.field rest s.state
          ∙ sym (outside_other s.fields.domain s.sound s.twice s.seen (unless s.fault t) s.field c.args.b rest
          c.requires.text.opens c.requires.text.closes none s.state c.requires.here c.in_default.not-Sid
          c.in_default.not-AclFlags (sym c.if-not-is_blank.ensures));
      calm = record { held = c.requires.calm.held; gap = c.requires.calm.gap };
      same = refl;
    }

pub returns-else-not-is_blank : goal.returns-else-not-is_blank
returns-else-not-is_blank c =
    let s = c.args.self.now in
    record {
      answers = λ t rest none. outside_blank s.fields.domain s.sound s.twice s.seen (unless s.fault t) s.field
          c.args.b rest c.requires.text.opens c.requires.text.closes none s.state c.requires.here c.in_default.not-Sid
          c.in_default.not-AclFlags (sym c.if-not-is_blank.ensures);
      calm = c.requires.calm;
      same = refl;
    }
