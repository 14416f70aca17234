use Rattle.std.proofs.Common.{◌≡◌, ◌∙◌, sym, ap, subst}
use Rattle.std.specs.Option.{option_copied}
use Rattle.std.specs.Prelude.{IfSome, drop}
use Rattle.sd_sddl_builder.specs.Line.{is_shaped}
use Rattle.sd_fault_places.specs.Fields.{parts_in}
use Rattle.sd_fault_places.specs.SddlPlaces.{IsAtFirst, character_size, place_of_shape}
use Rattle.sd_fault_places.specs.Shape.{IsReach, reach, start, stop}
use Rattle.sd_fault_places.proofs.Faults.{fault_at, same-fault}
use Rattle.sd_fault_places.proofs.Shapes.{is-reach}
use Rattle.sd_fault_places.proofs.Steps.{at-reach, told-first, told-shaped, told-unshaped, unshaped, well-shaped}
use Rattle.sd_fault_places.proofs.sddl.place_of_sddl_fault.Goals as goal

pub returns-in-Some-clause-fault : goal.returns-in-Some-clause-fault
returns-in-Some-clause-fault c =
    let u = unshaped (is_shaped c.args.text.now) (place_of_shape c.args.text.now) c.in-Some.place
    (sym c.in-Some.is ∙ c.shape_fault.ensures) in
    ap fault_at (sym (told-unshaped c.args.text.now (option_copied c.args.domain) u.0))
    ∙ same-fault c.args.text.now (option_copied c.args.domain)

pub returns-in-Some-clause-shape : goal.returns-in-Some-clause-shape
returns-in-Some-clause-shape c = λ e.
    let u = unshaped (is_shaped c.args.text.now) (place_of_shape c.args.text.now) c.in-Some.place
    (sym c.in-Some.is ∙ c.shape_fault.ensures) in
    let at : c.in-Some.place.range.offset ≡ reach start c.args.text.now = ap (λ p. p.range.offset) u.1
    ∙ at-reach (stop start c.args.text.now).stand (reach start c.args.text.now)
    (character_size (drop (reach start c.args.text.now) c.args.text.now)) in
    subst (λ n. IsReach n c.args.text.now) (sym at) (is-reach c.args.text.now)

pub returns-in-None-clause-fault : goal.returns-in-None-clause-fault
returns-in-None-clause-fault c =
    let shaped = well-shaped (is_shaped c.args.text.now) (place_of_shape c.args.text.now)
    (sym c.in-None.is ∙ c.shape_fault.ensures) in
    ap fault_at (c.place_in_parts.ensures ∙ sym (told-shaped c.args.text.now (option_copied c.args.domain) shaped))
    ∙ same-fault c.args.text.now (option_copied c.args.domain)

pub returns-in-None-clause-first : goal.returns-in-None-clause-first
returns-in-None-clause-first c =
    subst (λ o. IfSome o (IsAtFirst c.args.text.now (option_copied c.args.domain))) (sym c.place_in_parts.ensures)
    (told-first (option_copied c.args.domain) (parts_in c.args.text.now))
