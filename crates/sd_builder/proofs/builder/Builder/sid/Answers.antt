use Rattle.sd_builder.proofs.Building.{free-sid, sid-builds, sid-room}
use Rattle.sd_builder.proofs.builder.Builder.sid.Goals as goal

pub append_sid_at-offset-requires-clause-room : goal.append_sid_at-offset-requires-clause-room
append_sid_at-offset-requires-clause-room c =
    let h = c.requires.held in
    sid-room _ _ h.0 c.args.part h.1 (free-sid h.0.parts c.args.part h.2) h.3

pub returns : goal.returns
returns c = record {
  value =
      λ t h.
      let held = c.requires.held in
      rw (
        c.keep.ensures,
        c.into.ensures,
        c.append_sid_at-offset.ensures.value,
        c.append_sid_at-offset.ensures.offset,
      )
      (sid-builds _ _ held.0 t c.args.part _ held.1 (free-sid held.0.parts c.args.part held.2) held.3
      c.append_sid_at-offset.ensures.limits h);
}
