use Rattle.sd_sink.proofs.laws.PrintLemmas.{prints_then}
use Rattle.sd_builder.proofs.layout.print_parts.Goals as goal

pub returns : goal.returns
returns g c =
    rw (
      ← c.header_of.ensures.value,
      ← c.owner_bytes.ensures.value,
      ← c.group_bytes.ensures.value,
      ← c.sacl-sacl.ensures,
      ← c.dacl-dacl.ensures,
    ) (search prints_then depth 10)
