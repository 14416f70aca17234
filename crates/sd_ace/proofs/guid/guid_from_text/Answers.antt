use Rattle.std.proofs.Common.{arith, sym, ◌∙◌}
use Rattle.uuid.specs.Text.{parsed}
use Rattle.sd_ace.proofs.laws.GuidTexts.{guid_reads_parsed, ok_is}
use Rattle.sd_ace.proofs.guid.guid_from_text.Goals as goal

pub returns : goal.returns
returns c =
    let t = c.args.text.now in
    c.ok.ensures.value ∙ (ok_is c.try_parse_ascii.result (parsed t) c.try_parse_ascii.ensures.ok
    c.try_parse_ascii.ensures.bytes ∙ sym (guid_reads_parsed t (omega arith)))
