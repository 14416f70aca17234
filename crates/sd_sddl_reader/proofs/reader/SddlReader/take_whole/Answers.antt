use Rattle.sd_sddl_builder.proofs.laws.WholeTexts.{whole-readable}
use Rattle.sd_sddl_reader.proofs.WholeParts.{text-inside}
use Rattle.sd_sddl_reader.proofs.reader.SddlReader.take_whole.Goals as goal

pub take_readable-requires-clause-clean : goal.take_readable-requires-clause-clean
take_readable-requires-clause-clean c =
    let whole = c.requires.whole in
    whole-readable c.args.text.now (text-inside c.args.text.now whole.plain) whole.fits
