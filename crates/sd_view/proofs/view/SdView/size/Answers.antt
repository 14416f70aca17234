use Rattle.std.proofs.Common.{arith, ap, length, subst, ◌∙◌}
use Rattle.sd_view.specs.Descriptor.{Descriptor, IsDescriptor}
use Rattle.sd_view.specs.Inner.Found.{shown_written}
use Rattle.sd_view.specs.declared.view.Acls.{Acls}
use Rattle.sd_view.proofs.laws.LayoutSizes.{length-layout, length-sid_part, size-most}
use Rattle.sd_view.proofs.Parts.{written-size}
use Rattle.sd_view.proofs.laws.SizeLaws.{size-least}
use Rattle.sd_view.proofs.view.SdView.size.Goals as goal

pub returns-clause-value : goal.returns-clause-value
returns-clause-value c =
    let d = c.args.self.now in
    let owner = ap length c.owner_bytes.ensures.value ∙ length-sid_part d.owner in
    let group = ap length c.group_bytes.ensures.value ∙ length-sid_part d.group in
    let kept = c.self.invariant.1 ∙ ap (λ (t : Descriptor). shown_written t) c.self.view_is in
    let sacl = ap (λ (a : Acls). a.sacl.size) kept ∙ written-size d.sacl in
    let dacl = ap (λ (a : Acls). a.dacl.size) kept ∙ written-size d.dacl in
    let most = size-most d (subst IsDescriptor c.self.view_is c.self.invariant.0.limits) in
    omega (arith, owner, group, sacl, dacl, most)

pub returns-clause-most : goal.returns-clause-most
returns-clause-most c = size-most c.args.self.now (subst IsDescriptor c.self.view_is c.self.invariant.0.limits)

pub returns-clause-least : goal.returns-clause-least
returns-clause-least c = λ bytes h. size-least bytes c.args.self.now h

pub returns-clause-written : goal.returns-clause-written
returns-clause-written c = length-layout c.args.self.now
