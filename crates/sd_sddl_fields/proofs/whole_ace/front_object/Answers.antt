use Rattle.std.proofs.Common.{sym, ◌∙◌, take}
use Rattle.sd_sddl_fields.proofs.laws.PlainFields.{object-whole}
use Rattle.sd_sddl_fields.proofs.Cuts.{cut-at}
use Rattle.sd_sddl_fields.proofs.whole_ace.front_object.Goals as goal

pub returns : goal.returns
returns c =
    let read = sym c.object_from_text.ensures ∙ c.in-Some.is in
    record {
      field = take c.if-empty.size c.args.text.now;
      whole = object-whole _ _ _ read;
      stands = cut-at c.args.text.now c.if-empty.size 59 c.if-text-size.false c.if-text-size-ne59.false;
      reads = read;
    }
