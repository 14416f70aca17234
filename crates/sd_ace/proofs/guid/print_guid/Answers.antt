use Rattle.std.proofs.Common.{ℕ, List, Some, sym, ap, ◌∙◌, subst}
use Rattle.uuid.specs.Text.{parsed, hyphenated_text, lower}
use Rattle.sd_ace.specs.GuidText.{guid_text}
use Rattle.sd_sink.specs.Print.{Prints}
use Rattle.sd_ace.proofs.laws.GuidTexts.{guid_text-length, guid_reads_parsed}
use Rattle.sd_ace.proofs.guid.print_guid.Goals as goal

pub returns-clause-put : goal.returns-clause-put
unfolding guid_text
returns-clause-put g c =
    let same = c.as_bytes.ensures.value
    ∙ (c.encode_lower-text.ensures.text ∙ ap (hyphenated_text lower) c.hyphenated.ensures) in
    subst (λ (t : List ℕ). Prints (g.P.Print.told c.args.out.now) (g.P.Print.told c.put.new.self) t) same c.put.ensures

pub returns-clause-back : goal.returns-clause-back
unfolding guid_text
returns-clause-back g c =
    let same = c.encode_lower-text.ensures.text ∙ ap (hyphenated_text lower) c.hyphenated.ensures in
    guid_reads_parsed _ (guid_text-length c.args.guid.now)
    ∙ (ap parsed (sym same) ∙ (sym c.encode_lower-text.ensures.parsed ∙ ap Some c.hyphenated.ensures))

pub returns-clause-short : goal.returns-clause-short
returns-clause-short g c = guid_text-length c.args.guid.now
