use Rattle.std.proofs.Common.{◌≡◌, arith, rules, sym}
use Rattle.std.proofs.lemmas.Iterator.Adapters.{position_from-zero}
use Rattle.sd_check.specs.Label.{is_mandatory_label}
use Rattle.sd_check.proofs.reason.first_label_place.Goals as goal

pub loop-ace-init : goal.loop-ace-init
loop-ace-init c =
    let all : c.into_iter-ace-iterator.result ≡ c.args.acl.now = search rules in
    record {
      place = rw all (omega arith);
      rest = rw all (sym (position_from-zero is_mandatory_label c.args.acl.now));
    }
