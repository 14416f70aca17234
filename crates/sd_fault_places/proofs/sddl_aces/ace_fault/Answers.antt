use Rattle.std.proofs.Common.{◌≡◌, ◌+◌, length, ◌∙◌, sym, ap, arith}
use Rattle.std.specs.Option.{option_copied}
use Rattle.std.proofs.lemmas.List.{length-drop, length-take-le}
use Rattle.sd_sddl_builder.specs.Line.{cut_at_semicolons}
use Rattle.sd_fault_places.specs.Fields.{cuts_from, kind_in}
use Rattle.sd_fault_places.specs.SddlPlaces.{first_faulty}
use Rattle.sd_fault_places.proofs.Cuttings.{first-cut}
use Rattle.sd_fault_places.proofs.Steps.{cuts-shape, length-zero}
use Rattle.sd_fault_places.proofs.sddl_aces.ace_fault.Goals as goal

pub fields-init : goal.fields-init
fields-init c =
    let kind : c.kind_in-kind.result ≡ kind_in (cut_at_semicolons c.args.ace.text.now).first =
    cc (c.kind_in-kind.ensures, c.until.ensures.value, c.before_byte.ensures.value, first-cut c.args.ace.text.now) in
    record {
      same = ap (λ k. first_faulty (option_copied c.args.domain) (cuts_from c.args.part c.args.ace.number k
          (c.args.ace.at + 1) _
          (cut_at_semicolons c.args.ace.text.now).first (cut_at_semicolons c.args.ace.text.now).others)) kind;
      at = omega arith;
    }

pub returns-in-Some : goal.returns-in-Some
returns-in-Some c =
    let shape = cuts-shape c.args.part c.args.ace.number c.kind_in-kind.result c.fields.at c.fields.field
    c.fields.rest.now c.before_byte-size.result c.before_byte-size.ensures.value in
    rw (c.place.ensures, c.name_of.ensures)
    (rw (shape, ← c.until-cut.ensures.value, ← c.slot_fault.ensures, c.in-Some.is) at c.fields.invariant.same)

pub fields-preserved : goal.fields-preserved
fields-preserved c =
    let shape = cuts-shape c.args.part c.args.ace.number c.kind_in-kind.result c.fields.at c.fields.field
    c.fields.rest.now c.before_byte-size.result c.before_byte-size.ensures.value in
    let tail = sym c.behind.ensures ∙ c.in_ok-tail.ensures.cases.0 in
    record {
      same = rw (c.next_field-field.ensures, c.until-cut.ensures.value)
          (rw (shape, rw c.until-cut.ensures.value at (sym c.slot_fault.ensures), c.in_default.is, tail)
          at c.fields.invariant.same);
      at = omega (
        arith,
        c.fields.invariant.at,
        ap length tail,
        ap length c.until-cut.ensures.value,
        length-drop c.before_byte-size.result c.fields.rest.now,
        length-take-le c.before_byte-size.result c.fields.rest.now c.before_byte-size.ensures.within,
      );
    }

pub returns-in_err-tail : goal.returns-in_err-tail
returns-in_err-tail c =
    let shape = cuts-shape c.args.part c.args.ace.number c.kind_in-kind.result c.fields.at c.fields.field
    c.fields.rest.now c.before_byte-size.result c.before_byte-size.ensures.value in
    let none = sym c.behind.ensures ∙ length-zero c.behind.result.now c.in_err-tail.ensures.cases in
    rw c.from_residual.ensures
    (rw (shape, ← c.until-cut.ensures.value, ← c.slot_fault.ensures, c.in_default.is, none) at c.fields.invariant.same)
