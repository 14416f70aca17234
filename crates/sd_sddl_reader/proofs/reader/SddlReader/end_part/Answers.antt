use Rattle.std.proofs.Common.{false}
use Rattle.sd_sddl_reader.proofs.FitLaws.{can-take-front}
use Rattle.sd_sddl_reader.proofs.reader.SddlReader.end_part.Goals as goal

pub end_field-requires-in-AclFlags : goal.end_field-requires-in-AclFlags
end_field-requires-in-AclFlags c =
    record {
      clean = c.requires.ready.calm.held;
      held = can-take-front c.args.self.now _ c.in-AclFlags.which false c.in-AclFlags.is c.requires.ready.held;
    }

pub returns-in-Sid : goal.returns-in-Sid
returns-in-Sid c =
    let ended = c.end_field.ensures in
    record {
      read = λ t k. (let e = ended.read t k.fields in (e.0, e.1, rw (c.in-Sid.is) e.2));
      cleared = ended.cleared;
      domain = ended.domain;
      same = ended.same;
    }

pub returns-in-AclFlags : goal.returns-in-AclFlags
returns-in-AclFlags c =
    let ended = c.end_field-in-AclFlags.ensures in
    record {
      read = λ t k. (let e = ended.read t k.fields in (e.0, e.1, rw (c.in-AclFlags.is) e.2));
      cleared = ended.cleared;
      domain = ended.domain;
      same = ended.same;
    }
