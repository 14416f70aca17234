use Rattle.std.proofs.Common.{arith, ap, ◌∙◌, ◌++◌}
use Rattle.sd_sddl_fields.proofs.laws.PlainFields.{sid-bytes-plain}
use Rattle.sd_sid.specs.SidText.{known_sid}
use Rattle.sd_sddl_builder.proofs.reading.FieldReader.append_named.Goals as goal

pub returns-clause-read : goal.returns-clause-read
returns-clause-read c =
    let at = c.in_ok-name.ensures.found in
    record {
      trustee = known_sid c.in_ok-name.name.now;
      sid = record {
        field = at.field;
        whole = record { plain = sid-bytes-plain at.field at.plain; fits = omega (arith, at.short) };
        stands = at.stands ∙ ap (λ t. at.field ++ t) c.in_ok-rest.ensures;
        reads = at.reads c.args.self.now.domain;
      };
      held = λ t h. c.put_plain.ensures.held t h;
    }
