use Rattle.std.proofs.Common.{ap, refl, drop, [], ◌∷◌, ◌≡◌, ◌∙◌}
use Rattle.std.proofs.lemmas.List.{take_rest}
use Rattle.sd_sid.proofs.SidFronts.{domain-begun}
use Rattle.sd_sid.proofs.usual_sid.first_numbers.Goals as goal

pub returns-then-begins_with_domain : goal.returns-then-begins_with_domain
returns-then-begins_with_domain c =
    let text = c.args.text.now in
    let front = c.begins_with_domain.ensures c.if-begins_with_domain.true in
    let sid : c.push.new.self ≡ record { authority = 5; subs = 21 ∷ [] } =
    c.push.ensures ∙ rw (c.set_authority.ensures, c.requires.none) refl in
    domain-begun text _ (drop 5 text) c.push.new.self front (take_rest text 4 ∙ ap (drop 4) front) sid
