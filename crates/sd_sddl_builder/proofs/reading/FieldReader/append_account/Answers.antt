use Rattle.std.proofs.Common.{arith, ap, ◌∙◌, ◌++◌}
use Rattle.sd_sddl_builder.proofs.FieldLaws.{holds-kept}
use Rattle.sd_sddl_fields.proofs.laws.PlainFields.{sid-bytes-plain}
use Rattle.sd_sid.specs.Account.{account_sid}
use Rattle.sd_sddl_builder.proofs.reading.FieldReader.append_account.Goals as goal

pub put_plain-requires-clause-held : goal.put_plain-requires-clause-held
put_plain-requires-clause-held c =
    let h = c.requires in (h.0, holds-kept _ _ _ h.1 c.note.new.self, h.2)

pub returns-clause-read : goal.returns-clause-read
returns-clause-read c =
    let at = c.in_ok-account.ensures.found in
    record {
      trustee = account_sid c.in_ok-account.account;
      sid = record {
        field = at.field;
        whole = record { plain = sid-bytes-plain at.field at.plain; fits = omega (arith, at.short) };
        stands = at.stands ∙ ap (λ t. at.field ++ t) c.in_ok-rest.ensures;
        reads = at.reads c.args.self.now.domain;
      };
      held = λ t h. c.put_plain.ensures.held t (holds-kept _ _ _ h c.note.new.self);
    }
