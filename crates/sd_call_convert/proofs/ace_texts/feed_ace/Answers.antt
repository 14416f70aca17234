use Rattle.std.proofs.Common.{[], ◌∷◌}
use Rattle.sd_call_convert.proofs.ace_texts.feed_ace.Goals as goal

pub returns-clause-exact : goal.returns-clause-exact
returns-clause-exact c = c.end.ensures.exact _ (68 ∷ 58 ∷ c.args.text.now)
    (c.feed_all-2.ensures.read _ (68 ∷ 58 ∷ []) (c.feed_all.ensures.read _ [] c.new-reader.ensures.read))
