use Rattle.std.proofs.Common.{ap₂, sym, ◌∙◌, ◌||◌, arith}
use Rattle.clap.specs.Words.{with_rule}
use Rattle.sd_command.proofs.LineLemmas.{all-there, none-more, one-more}
use Rattle.sd_command.proofs.command_line.with_each.Goals as goal

pub loop-option-init : goal.loop-option-init
loop-option-init c = (sym (none-more _), c.requires.local)

pub loop-option-preserved : goal.loop-option-preserved
loop-option-preserved c =
    let adds = c.in_ok-command.ensures in (
      adds.shape c.argument.ensures.local
          ∙ ap₂ with_rule c.loop-option.invariant.0 (c.argument.ensures.rule ∙ c.row.ensures.rule)
          ∙ one-more _ c.args.options.now c.loop-option.option-index _ (omega arith),
      adds.globals ∙ ap₂ (λ a b. a || b) c.loop-option.invariant.1 c.argument.ensures.local,
    )

pub returns : goal.returns
returns c = (
  c.loop-option.invariant.0 ∙ all-there _ c.args.options.now c.loop-option.option-index (omega arith),
  c.loop-option.invariant.1,
)
