use Rattle.std.proofs.Common.{◌∙◌, arith}
use Rattle.sd_sddl_reader.proofs.reader.SddlReader.feed_next.Goals as goal

pub returns-clause-fed : goal.returns-clause-fed
returns-clause-fed c = record {
  shorter = omega (arith, c.feed_whole-left.ensures.shorter, c.feed_front.ensures.fed.shorter);
  reader = c.feed_front.ensures.fed.reader;
  read = λ domain before h.
      let f = c.feed_whole-left.ensures.read domain before h in
      let g = c.feed_front.ensures.fed.read domain f.0 f.1 in
      (g.0, g.1, g.2 ∙ f.2);
}
