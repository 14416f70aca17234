use Rattle.std.proofs.Common.{◌≡◌, sym, ◌∙◌, Option, List, ℕ, None, Some, Bool, true, false, IfSome}
use Rattle.sd_ace.specs.Ace.{GuidsFit, IsGuid}
use Rattle.sd_kinds.specs.Kinds.{is_object}
use Rattle.sd_ace.proofs.ace_parts.AceParts.size.Goals as goal

-- a kind that may have no GUID has none
no_guids : (b : Bool) (object inherited : Option (List ℕ)) → b ≡ false → GuidsFit b object inherited
    → IfSome object IsGuid × IfSome inherited IsGuid
no_guids true object inherited e h = absurd cc
no_guids false None None e h = (tt, tt)
no_guids false None (Some g) e h = absurd h
no_guids false (Some g) inherited e h = absurd h

pub returns-then-not-is_object-clause-limits : goal.returns-then-not-is_object-clause-limits
returns-then-not-is_object-clause-limits c =
    let h = c.self.invariant in
    let plain = sym c.is_object.ensures ∙ c.if-not-is_object.true in
    let guids =
    no_guids (is_object c.self.inside.kind) c.self.inside.object.now c.self.inside.inherited.now plain h.3 in
    rw (← c.self.view_is) (record {
      flags = h.0;
      clear = h.1;
      mask = h.2;
      fit = h.3;
      object = guids.0;
      inherited = guids.1;
      sid = c.size-sid_size.ensures.limits;
    })

pub returns-clause-limits : goal.returns-clause-limits
returns-clause-limits c =
    let h = c.self.invariant in
    rw (← c.self.view_is) (record {
      flags = h.0;
      clear = h.1;
      mask = h.2;
      fit = h.3;
      object = c.guid_size.ensures.limits;
      inherited = c.guid_size-2.ensures.limits;
      sid = c.size-sid_size.ensures.limits;
    })
