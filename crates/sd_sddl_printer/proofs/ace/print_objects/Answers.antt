use Rattle.std.proofs.Common.{◌≡◌, Bool, true, false, List, ℕ, Option, Some, None, refl, sym, ap, ◌∙◌, append_assoc}
use Rattle.sd_kinds.specs.Kinds.{is_object}
use Rattle.sd_ace.specs.Ace.{GuidsFit}
use Rattle.sd_sink.proofs.laws.PrintLemmas.{prints_then}
use Rattle.sd_sddl_printer.specs.Printed.{object_field}
use Rattle.sd_sddl_printer.proofs.ace.print_objects.Goals as goal

-- an ACE of another kind has no GUIDs
none-fit : (objects : Bool) (object inherited : Option (List ℕ)) → objects ≡ false → GuidsFit objects object inherited
    → (object ≡ None) × (inherited ≡ None)
none-fit true object inherited e fit = absurd cc
none-fit false None None e fit = (refl, refl)
none-fit false None (Some g) e fit = absurd fit
none-fit false (Some g) inherited e fit = absurd fit

pub returns-then-not-is_object : goal.returns-then-not-is_object
unfolding object_field
returns-then-not-is_object g c =
    let objects = c.is_object.ensures ∙ ap is_object c.kind.ensures.value in
    let none = none-fit _ _ _ (sym objects ∙ c.if-not-is_object.true) c.kind.ensures.limits.fit in
    rw (none.0, none.1) c.put.ensures

pub returns : goal.returns
unfolding object_field
returns g c =
    rw (← c.object-object.ensures, ← c.inherited-inherited.ensures)
    (simp append_assoc
    (prints_then c.put-2.ensures (prints_then c.print_object.ensures (prints_then c.put-3.ensures
    (prints_then c.print_object-2.ensures c.put-4.ensures)))))
