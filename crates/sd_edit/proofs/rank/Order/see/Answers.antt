use Rattle.std.proofs.Common.{refl}
use Rattle.sd_edit.proofs.OrderLemmas.{seen_more}
use Rattle.sd_edit.proofs.rank.Order.see.Goals as goal

pub returns : goal.returns
returns c = λ ranks s. seen_more ranks c.args.rank c.args.self.now _ s c.fall_with.ensures refl refl
