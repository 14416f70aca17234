use Rattle.std.proofs.Common.{◌∙◌, ℕ, ap, take}
use Rattle.std.proofs.lemmas.List.{take_min}
use Rattle.sd_call_columns.specs.Answered.{most_small}
use Rattle.sd_call_columns.proofs.column.front_of.Goals as goal

pub returns : goal.returns
returns c = ap (λ (n : ℕ). take n c.args.bytes.now) c.min.ensures ∙ take_min most_small c.args.bytes.now
