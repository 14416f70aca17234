use Rattle.std.proofs.Common.{arith}
use Rattle.sd_acl_view.proofs.laws.AclLayoutSizes.{aces-many}
use Rattle.sd_edit.proofs.edited.change_sized.Goals as goal

pub change_list-requires : goal.change_list-requires
change_list-requires c = omega (arith, (aces-many c.args.aces.now.items).1, c.requires)
