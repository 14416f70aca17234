use Rattle.std.proofs.Common.{arith, sym, ◌∙◌}
use Rattle.sd_acl_view.proofs.laws.AclLaws.{object-room}
use Rattle.sd_acl_view.proofs.ace.AceView.object.Goals as goal

pub guid_at-requires : goal.guid_at-requires
guid_at-requires c =
    let room = object-room c.self.inside.extent.now (sym c.has_object.ensures ∙ c.if-not-has_object.false) in
    omega (arith, room, c.self.invariant.front)
