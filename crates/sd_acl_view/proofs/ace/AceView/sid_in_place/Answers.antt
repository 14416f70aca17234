use Rattle.std.proofs.Common.{◌∙◌}
use Rattle.std.proofs.lemmas.List.{take_rest}
use Rattle.sd_acl_view.proofs.SidPlace.{sid-read, sid-stands}
use Rattle.sd_acl_view.proofs.ace.AceView.sid_in_place.Goals as goal

pub at_front-requires : goal.at_front-requires
at_front-requires c =
    let extent = c.self.inside.extent.now in
    let stands = sid-stands extent _ c.sid_offset.result c.self.invariant c.sid_offset.ensures.value
    (take_rest extent c.sid_offset.result) in
    record { count = stands.count; whole = stands.whole }

pub returns : goal.returns
returns c =
    let extent = c.self.inside.extent.now in
    c.at_front.ensures.exact
    ∙ sid-read extent _ c.sid_offset.result c.args.self.now c.sid_offset.ensures.value
    (take_rest extent c.sid_offset.result) c.self.view_is
