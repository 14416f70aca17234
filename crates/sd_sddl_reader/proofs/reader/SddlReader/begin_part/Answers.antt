use Rattle.std.proofs.Common.{ap, ◌∙◌}
use Rattle.sd_sddl_reader.specs.declared.reader.SddlReader.{SddlReader}
use Rattle.sd_sddl_reader.proofs.FitLaws.{calm-cleared}
use Rattle.sd_sddl_reader.proofs.WholeParts.{head-steps}
use Rattle.sd_sddl_reader.proofs.reader.SddlReader.begin_part.Goals as goal

pub returns : goal.returns
returns c =
    let ended = c.end_part.ensures in
    let noted = c.note_head.ensures in
    record {
      answers = head-steps c.args.self.now c.end_part.new.self c.note_head.new.self _ _ c.args.letter c.args.head
          c.requires.here c.requires.ready.calm.held c.requires.letter ended noted;
      calm = calm-cleared _ (ap (λ (r : SddlReader). r.field) noted.same ∙ ended.cleared);
      pending = ap (λ (r : SddlReader). r.pending) noted.same ∙ ap (λ (r : SddlReader). r.pending) ended.same;
    }
