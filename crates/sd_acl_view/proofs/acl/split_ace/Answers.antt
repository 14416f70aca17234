use Rattle.std.proofs.Common.{◌≡◌, ℕ, take, sym, ap, ◌∙◌, subst, arith}
use Rattle.sd_acl_view.specs.Bytes.{u16_at}
use Rattle.sd_acl_view.specs.Inner.ReadableAce.{IsReadableAce}
use Rattle.sd_acl_view.proofs.ReadableAces.{ace-readable}
use Rattle.sd_acl_view.proofs.laws.AclLaws.{ace-bounds}
use Rattle.sd_acl_view.proofs.acl.split_ace.Goals as goal

pub u16_at-requires : goal.u16_at-requires
u16_at-requires c = let bounds = ace-bounds c.args.left.now c.requires in omega (arith, bounds.0, bounds.1)

pub split_at-requires : goal.split_at-requires
split_at-requires c = let bounds = ace-bounds c.args.left.now
    c.requires in omega (arith, bounds.1, c.from.ensures, c.u16_at.ensures)

pub ace_view-requires : goal.ace_view-requires
ace_view-requires c =
    let left = c.args.left.now in
    let size = c.from.ensures ∙ c.u16_at.ensures in
    let extent : c.split_at.result.0.now ≡ take (u16_at 2 left) left = c.split_at.ensures.front
    ∙ ap (λ (k : ℕ). take k left) size in
    subst IsReadableAce (sym extent) (ace-readable left (λ i. omega (arith, c.type_inv.left i)) c.requires)
