use Rattle.std.proofs.Common.{sym, ◌∙◌, true, refl}
use Rattle.sd_sddl_builder.proofs.laws.Heads.{no_head}
use Rattle.sd_sddl_reader.proofs.Runs.{none-if}
use Rattle.sd_sddl_reader.proofs.reader.SddlReader.feed_alone.Goals as goal

pub returns-else-is_some-clause-answers : goal.returns-else-is_some-clause-answers
returns-else-is_some-clause-answers c = λ t k.
    let e = c.put_outside.ensures.answers t k in
    let none = sym c.head_of.ensures
    ∙ none-if c.head_of.result true refl (sym c.is_some.ensures ∙ c.if-is_some.false) in
    (e.0, e.1, λ rest. rw (c.put_outside.ensures.pending, c.requires.pending) (e.2 rest (no_head _ _ none)))
