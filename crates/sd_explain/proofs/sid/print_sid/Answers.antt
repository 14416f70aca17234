use Rattle.sd_sink.proofs.laws.PrintLemmas.{prints_then}
use Rattle.sd_explain.specs.Explain.{sid_words}
use Rattle.sd_explain.proofs.sid.print_sid.Goals as goal

pub returns : goal.returns
unfolding sid_words
returns g c =
    let alias = rw c.alias_by.ensures at c.print_alias.ensures in
    prints_then c.print_text.ensures.put alias
