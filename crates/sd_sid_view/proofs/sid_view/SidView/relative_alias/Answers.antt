use Rattle.std.proofs.Common.{◌∷◌, [], ap, sym, ◌∙◌}
use Rattle.std.specs.Option.{option_map}
use Rattle.sd_sid_view.proofs.RelativeNumbers.{unnamed}
use Rattle.sd_sid_view.proofs.sid_view.SidView.relative_alias.Goals as goal

pub returns-then-not-may_be_relative : goal.returns-then-not-may_be_relative
returns-then-not-may_be_relative c =
    sym (ap (option_map (λ e. e.first ∷ e.second ∷ []))
    (unnamed c.args.self.now c.args.domain.now (sym c.may_be_relative.ensures ∙ c.if-not-may_be_relative.true)))
