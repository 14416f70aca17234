use Rattle.std.proofs.Common.{◌≡◌, sym, ◌∙◌, rules}
use Rattle.sd_rights.specs.Mapping.{mapped}
use Rattle.sd_check.proofs.ScanLaws.{decided-applies, decided-nothing}
use Rattle.sd_check.proofs.scan.decided.Goals as goal
use Rattle.sd_check.proofs.scan.decided.Given.{Over}
use Rattle.sd_check.proofs.scan.decided.Goals.{After-map}

mask : (g : Over) (c : After-map g) → c.map.result ≡ mapped c.args.ask.now.mapping c.args.ace.now.mask
mask g c = search (rules, c.map.ensures.value, c.mask.ensures, c.mapping.ensures)

pub returns-then-rights-eq0-clause-rights : goal.returns-then-rights-eq0-clause-rights
returns-then-rights-eq0-clause-rights g c =
    decided-nothing _ _ _ _ _ _ (mask g (goal.at.returns-then-rights-eq0-clause-rights g c).After-map)
    c.if-rights-eq0.true

pub returns-then-applies-clause-rights : goal.returns-then-applies-clause-rights
returns-then-applies-clause-rights g c =
    decided-applies _ _ _ _ _ _ (sym c.applies.ensures.value ∙ c.if-applies.true)
    (mask g (goal.at.returns-then-applies-clause-rights g c).After-map)
