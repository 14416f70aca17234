use Rattle.std.proofs.Common.{rules, ◌<◌, length, arith}
use Rattle.std.proofs.lemmas.Result.{MatchResult-weaker}
use Rattle.sd_run.proofs.RunLemmas.{reads_piece}
use Rattle.sd_run.proofs.running.read_piece.Goals as goal

pub returns-clause-read : goal.returns-clause-read
returns-clause-read g c =
    let room : 0 < length c.read.new.buf = omega (arith, c.read.auto.buf) in
    let mapped = MatchResult-weaker c.read.result c.map_err.ensures.cases (λ n h. h) (λ e h. search rules) in
    reads_piece _ _ _ c.read.result _ mapped room c.read.ensures.bytes c.read.ensures.reads c.read.ensures.ends
    c.read.ensures.failures
