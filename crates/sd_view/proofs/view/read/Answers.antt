use Rattle.std.proofs.Common.{arith, ap, Ok, sym}
use Rattle.std.proofs.lemmas.Result.{err_from_is_err_and}
use Rattle.sd_view.specs.Descriptor.{Descriptor}
use Rattle.sd_view.proofs.laws.SizeLaws.{size-least}
use Rattle.sd_view.proofs.laws.LayoutSizes.{size-most}
use Rattle.sd_view.proofs.ReadLaws.{fault-shows, reading-err, reading-ok, shows-fault}
use Rattle.sd_view.proofs.view.read.Goals as goal

pub returns-in_err-acls-clause-only : goal.returns-in_err-acls-clause-only
returns-in_err-acls-clause-only c = λ d h.
    let none = (shows-fault c.args.bytes.now d h).0 in
    let some = c.in_err-acls.ensures.fault in
    absurd (cc)

pub returns-in_err-acls-clause-exact : goal.returns-in_err-acls-clause-exact
returns-in_err-acls-clause-exact c =
    let p = err_from_is_err_and c.from_residual.result c.from_residual.ensures.1 in
    let e = reading-err c.args.bytes.now c.in_err-acls.field-0.0 c.in_err-acls.ensures.fault in
    cc

pub invariant_of-result : goal.invariant_of-result
invariant_of-result c = (
  (fault-shows c.args.bytes.now (λ i. omega (arith, c.type_inv.bytes i))
      c.in_ok-acls.ensures.fault).1,
  c.in_ok-acls.ensures.acls,
)

pub returns-clause-found : goal.returns-clause-found
returns-clause-found c =
    (fault-shows c.args.bytes.now (λ i. omega (arith, c.type_inv.bytes i)) c.in_ok-acls.ensures.fault).0

pub returns-clause-only : goal.returns-clause-only
returns-clause-only c = λ d h. ap (λ (t : Descriptor). Ok t) (shows-fault c.args.bytes.now d h).1

pub returns-clause-exact : goal.returns-clause-exact
returns-clause-exact c = sym (reading-ok c.args.bytes.now c.in_ok-acls.ensures.fault)

pub returns-clause-limits : goal.returns-clause-limits
returns-clause-limits c =
    (fault-shows c.args.bytes.now (λ i. omega (arith, c.type_inv.bytes i)) c.in_ok-acls.ensures.fault).1.limits

pub returns-clause-no_longer : goal.returns-clause-no_longer
returns-clause-no_longer c =
    size-least c.args.bytes.now _
    (fault-shows c.args.bytes.now (λ i. omega (arith, c.type_inv.bytes i)) c.in_ok-acls.ensures.fault).0

pub returns-clause-most : goal.returns-clause-most
returns-clause-most c =
    size-most _
    (fault-shows c.args.bytes.now (λ i. omega (arith, c.type_inv.bytes i)) c.in_ok-acls.ensures.fault).1.limits
