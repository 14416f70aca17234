use Rattle.std.proofs.Common.{◌≡◌, ◌∙◌, arith, length}
use Rattle.std.proofs.lemmas.Bool.Decides.{nat_tests}
use Rattle.sd_sddl_reader.proofs.Runs.{fed-whole}
use Rattle.sd_sddl_reader.proofs.reader.SddlReader.feed_all.Goals as goal

pub loop-rest-preserved : goal.loop-rest-preserved
loop-rest-preserved c = record {
  reader = c.feed_next-rest.ensures.fed.reader;
  read = λ domain text h.
      let e = c.loop-rest.invariant.read domain text h in
      let f = c.feed_next-rest.ensures.fed.read domain e.0 e.1 in
      (f.0, f.1, f.2 ∙ e.2);
}

pub returns-clause-read : goal.returns-clause-read
returns-clause-read c = λ domain text h.
    let e = c.loop-rest.invariant.read domain text h in
    let none : length c.loop-rest.rest.now ≡ 0 = let n = c.loop-rest-test.ensures in grind (arith, nat_tests) in
    (rw (fed-whole e.0 _ c.loop-rest.rest.now none e.2) at e.1)
