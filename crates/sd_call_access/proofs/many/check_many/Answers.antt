use Rattle.std.proofs.Common.{arith}
use Rattle.sd_call_access.specs.Checks.{asker_of}
use Rattle.sd_call_access.proofs.ManyLemmas.{either, listed}
use Rattle.sd_call_access.proofs.many.check_many.Goals as goal

pub returns : goal.returns
returns c =
    let a = c.args in
    let i = a.input.now in
    record {
      short = λ less. absurd (omega (arith, less, c.if-descriptors-verdicts.false));
      fits = λ _. listed a.descriptors.now i.sids.now i.kinds.now i.ask.object.now i.ask.principal_self.now
          i.ask.request.now (asker_of i) a.verdicts.now c.judge_with.new.verdicts c.judge_with.result
          (either c.new.result c.judge_with.ensures);
    }
