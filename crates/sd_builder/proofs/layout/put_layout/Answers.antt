use Rattle.std.proofs.Common.{rules}
use Rattle.sd_sink.proofs.laws.PrintLemmas.{printed}
use Rattle.sd_view.proofs.laws.LayoutSizes.{length-layout, size-most}
use Rattle.sd_view.proofs.laws.SizeLaws.{size-least}
use Rattle.sd_builder.proofs.laws.LayoutLaws.{layout-shows}
use Rattle.sd_builder.proofs.layout.put_layout.Goals as goal

pub returns-clause-put : goal.returns-clause-put
returns-clause-put g c = printed c.new-out.ensures.begins (search rules) c.finish.ensures c.print_layout.ensures.printed

pub returns-clause-shows : goal.returns-clause-shows
returns-clause-shows g c = layout-shows c.args.view.now c.print_layout.ensures.limits

pub returns-clause-size : goal.returns-clause-size
returns-clause-size g c = length-layout c.args.view.now

pub returns-clause-most : goal.returns-clause-most
returns-clause-most g c = size-most c.args.view.now c.print_layout.ensures.limits

pub returns-clause-least : goal.returns-clause-least
returns-clause-least g c = λ bytes h. size-least bytes c.args.view.now h
