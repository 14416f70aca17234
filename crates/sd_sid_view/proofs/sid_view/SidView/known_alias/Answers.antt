use Rattle.std.proofs.Common.{◌∷◌, [], ap, sym, ◌∙◌}
use Rattle.std.specs.Option.{option_map}
use Rattle.sd_sid_view.proofs.KnownCounts.{unknown}
use Rattle.sd_sid_view.proofs.sid_view.SidView.known_alias.Goals as goal

pub returns-then-not-may_be_known : goal.returns-then-not-may_be_known
returns-then-not-may_be_known c =
    sym (ap (option_map (λ e. e.first ∷ e.second ∷ []))
    (unknown c.args.self.now (sym c.may_be_known.ensures ∙ c.if-not-may_be_known.true)))
