use Rattle.sd_run.proofs.LineCutLemmas.{lines-are-cut}
use Rattle.sd_run.proofs.SplitsLemmas.{answers-split}
use Rattle.sd_run.proofs.running.run.Goals as goal

pub returns-clause-lines_are_cut : goal.returns-clause-lines_are_cut
returns-clause-lines_are_cut g c = lines-are-cut

pub returns-clause-answers_split : goal.returns-clause-answers_split
returns-clause-answers_split g c = answers-split _ _
