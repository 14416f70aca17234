use Rattle.std.proofs.Common.{◌≡◌, Result, Ok, Err, MatchResult, subst}
use Rattle.sd_sid.specs.Sid.{SecurityId}
use Rattle.sd_sid.specs.SidText.{sid_front}
use Rattle.sd_sid.specs.declared.sid_text.SidFault.{SidFault}
use Rattle.sd_sddl_builder.proofs.FieldLaws.{holds-ace}
use Rattle.sd_sddl_fields.proofs.laws.PlainFields.{sid-front-whole}
use Rattle.sd_sddl_builder.proofs.reading.FieldReader.end_ace.Goals as goal

-- what was read where a reading succeeded
read-ok : (read : Result SecurityId SidFault) (result : Result (Unit {0}) SidFault) (unit : Unit {0}) (sid : SecurityId)
    → result ≡ Ok unit → MatchResult result (λ _. read ≡ Ok sid) (λ fault. read ≡ Err fault) → read ≡ Ok sid
read-ok read result unit sid ok h = subst (λ r. MatchResult r (λ _. read ≡ Ok sid) (λ fault. read ≡ Err fault)) ok h

pub put_ace-requires : goal.put_ace-requires
put_ace-requires c =
    let h = c.requires.held in
    (_, holds-ace _ _ _ h.1 c.args.ace c.requires.sound, h.2)

pub returns-in_ok-after-in-Ok-default-clause-read : goal.returns-in_ok-after-in-Ok-default-clause-read
returns-in_ok-after-in-Ok-default-clause-read c = record {
  trustee = c.read_front.new.sid;
  sid = record {
    field = sid_front c.args.text.now;
    whole = sid-front-whole c.args.text.now _ c.read_front.ensures.size c.in_ok-after-in-Ok-default.ensures.0;
    stands = rw (← c.read_front.ensures.front) c.in_ok-after-in-Ok-default.ensures.1;
    reads = rw (← c.as_ref.ensures.value) (read-ok _ _ _ _ c.in-Ok-default.is-0 c.read_front.ensures.exact);
  };
  held = λ t h. c.put_ace.ensures.held _ (holds-ace _ _ _ h c.args.ace c.requires.sound);
}
