use Rattle.std.proofs.Common.{refl}
use Rattle.sd_command.proofs.program.answered.Goals as goal

pub returns-in-Err : goal.returns-in-Err
returns-in-Err g c = record {
  result = c.run.result;
  run = record {
    token = c.args.prepared.now.token;
    token' = c.run.new.token;
    holder = refl;
    none_compared = c.requires.none_compared;
    outcome = c.run.ensures.outcome;
  };
  says = rw c.in-Err.is (rw c.run_line.ensures at c.say.ensures);
  is = rw c.in-Err.is refl;
}
