use Rattle.std.proofs.Common.{◌≡◌, Some, ◌∙◌, sym, ap}
use Rattle.sd_sddl_builder.specs.Line.{is_shaped}
use Rattle.sd_fault_places.specs.SddlPlaces.{place_of_shape}
use Rattle.sd_fault_places.proofs.Shapes.{shape-walked}
use Rattle.sd_fault_places.proofs.Steps.{shape-none, shape-some}
use Rattle.sd_fault_places.proofs.sddl.shape_fault.Goals as goal

pub returns-then-is_whole : goal.returns-then-is_whole
returns-then-is_whole c =
    let same : is_shaped c.args.text.now ≡ c.is_whole.result =
    cc (shape-walked c.args.text.now, c.is_whole.ensures, c.walk-reach.ensures.reach, c.walk-reach.ensures.stop) in
    sym (shape-none (is_shaped c.args.text.now) (place_of_shape c.args.text.now) (same ∙ c.if-is_whole.true))

pub returns : goal.returns
returns c =
    let same : is_shaped c.args.text.now ≡ c.is_whole.result =
    cc (shape-walked c.args.text.now, c.is_whole.ensures, c.walk-reach.ensures.reach, c.walk-reach.ensures.stop) in
    let here : c.place_at.result ≡ place_of_shape c.args.text.now =
    cc (
      c.place_at.ensures,
      c.character_size.ensures,
      c.behind.ensures,
      c.walk-reach.ensures.reach,
      c.walk-reach.ensures.stop,
    ) in
    ap (λ p. Some p) here
    ∙ sym (shape-some (is_shaped c.args.text.now) (place_of_shape c.args.text.now) (same ∙ c.if-is_whole.false))
