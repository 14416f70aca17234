use Rattle.std.proofs.Common.{[], ◌∷◌, ◌++◌, refl, take, ap, length, length-drop, arith}
use Rattle.std.proofs.lemmas.List.{take_rest}
use Rattle.sd_sddl_reader.proofs.Runs.{fed-more}
use Rattle.sd_sddl_reader.proofs.reader.SddlReader.feed_front.Goals as goal

pub returns-clause-fed : goal.returns-clause-fed
returns-clause-fed c =
    let text = c.args.text.now in
    let byte = c.in-Some.byte.now in
    let after = c.in-Some.after.now in
    let run = c.feed_run-run.result in
    let shape = c.in-Some.ensures.cases.0 in
    record {
      shorter = rw (take_rest after run) (omega (arith, ap length shape, length-drop run after));
      reader = c.feed_run-run.ensures.reader _ c.feed.ensures.reader;
      read = λ domain before h.
          let fed = before ++ byte ∷ [] in (
            fed ++ take run after,
            c.feed_run-run.ensures.read _ domain fed c.feed.ensures.reader (c.feed.ensures.read domain before h),
            rw (take_rest after run) (fed-more before fed (before ++ text) text after after byte run shape refl refl),
          );
    }
