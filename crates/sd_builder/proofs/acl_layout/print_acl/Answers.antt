use Rattle.std.proofs.Common.{ℕ, List, ◌++◌, ap}
use Rattle.std.specs.List.{flat_map}
use Rattle.sd_sink.proofs.laws.PrintLemmas.{prints_as, prints_then}
use Rattle.sd_ace.specs.AceLayout.{ace_bytes}
use Rattle.sd_builder.proofs.acl_layout.print_acl.Goals as goal

pub returns-in-None : goal.returns-in-None
returns-in-None g c =
    prints_as (ap (λ (t : List ℕ). t ++ flat_map ace_bytes c.args.acl.now) c.header_of.ensures)
    (prints_then c.put-in-None.ensures c.print_aces.ensures)
