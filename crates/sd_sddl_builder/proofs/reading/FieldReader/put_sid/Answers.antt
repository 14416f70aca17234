use Rattle.std.proofs.Common.{◌≡◌, [], ◌∷◌, ◌++◌, refl}
use Rattle.sd_builder.specs.Draft.{DraftParts, closed, with_sid}
use Rattle.sd_builder.specs.Trustee.{trustee_sid}
use Rattle.sd_parts.specs.Parts.{sid_part_of}
use Rattle.sd_parts.specs.declared.part.SidPart.{SidPart}
use Rattle.sd_parts.specs.declared.part.SidPart.TheVariants.{Group, Owner}
use Rattle.sd_sddl_builder.proofs.FieldLaws.{holds-parts}
use Rattle.sd_sid.specs.Sid.{SecurityId}
use Rattle.sd_sddl_builder.proofs.reading.FieldReader.put_sid.Goals as goal

same-open : (p : SidPart) (s : SecurityId) (t : DraftParts) → (with_sid p s t).«open» ≡ t.«open»
same-open Owner s t = refl
same-open Group s t = refl

pub returns-then-is_none-clause-held : goal.returns-then-is_none-clause-held
returns-then-is_none-clause-held c = λ t h.
    let p = c.args.part in
    let s = trustee_sid c.args.trustee in
    holds-parts c.close_acl.new.self c.close_acl.new.buf c.sid.new.buf c.sid.new.self
    (record t { parts = closed t.parts }) (with_sid p s (closed t.parts)) (c.close_acl.ensures.held t h)
    (same-open p s (closed t.parts))
    (λ b. (
      b.0 ++ sid_part_of p ∷ [],
      c.sid.ensures.value (record { parts = closed t.parts; order = b.0 }) b.1,
    ))
