use Rattle.std.proofs.Common.{◌∙◌, arith}
use Rattle.std.proofs.lemmas.Slice.{drop-put_mid}
use Rattle.sd_call_access.proofs.token_memory.fill.Goals as goal

pub returns-in-Ok-clause-kept : goal.returns-in-Ok-clause-kept
returns-in-Ok-clause-kept c =
    c.mark.ensures.kept
    ∙ drop-put_mid 2 _ c.args.memory.now c.write_token.new.numbers _ (omega arith) (omega (arith, c.requires.room))
    (omega arith)
