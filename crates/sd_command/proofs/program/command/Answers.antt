use Rattle.std.proofs.Common.{map}
use Rattle.std.specs.String.{string_bytes}
use Rattle.sd_command.proofs.EndsLemmas.{by-prepared, taken-prepared}
use Rattle.sd_command.proofs.program.command.Goals as goal

pub returns-clause-taken : goal.returns-clause-taken
returns-clause-taken g c = λ takes.
    taken-prepared (map string_bytes c.args.words.items) c.prepare.result _ _ _
    (rw (← c.as_slice.ensures.value) c.prepare.ensures.kinds) (rw (← c.as_slice.ensures.value) c.prepare.ensures.taken)
    c.end.ensures.ends takes

pub returns-clause-kinds : goal.returns-clause-kinds
returns-clause-kinds g c =
    by-prepared (map string_bytes c.args.words.items) c.prepare.result _ _ _
    (rw (← c.as_slice.ensures.value) c.prepare.ensures.kinds) c.end.ensures.ends
