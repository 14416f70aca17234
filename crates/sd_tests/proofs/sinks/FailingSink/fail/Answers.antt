-- What a failed call takes is a front of its bytes.
use Rattle.std.proofs.Common.{arith, refl, sym, take, drop}
use Rattle.std.proofs.lemmas.List.{take-append-drop}
use Rattle.sd_tests.proofs.sinks.FailingSink.fail.Goals as goal

pub returns-in-Ok : goal.returns-in-Ok
returns-in-Ok c =
    record {
      identity = refl;
      part = take c.min-n.result c.args.bytes.now;
      is_prefix = (drop c.min-n.result c.args.bytes.now, sym (take-append-drop c.min-n.result c.args.bytes.now));
      appended = c.in-Ok.ensures.ok;
      failed = omega (arith, c.saturating_add-self.ensures);
      beyond = c.requires;
    }
