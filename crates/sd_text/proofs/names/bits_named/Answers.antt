use Rattle.std.proofs.Common.{◌∙◌, sym, arith}
use Rattle.sd_text.proofs.laws.NameCells.{at-letters, found-bits, is-none, is-some, no-first, no-second}
use Rattle.sd_text.proofs.names.bits_named.Goals as goal
use Rattle.sd_text.proofs.names.bits_named.Goals.{then-not-is_ascii_alphabetic-via-then-not-is_ascii_alphabetic}
use Rattle.sd_text.proofs.names.bits_named.Goals.{
  then-not-is_ascii_alphabetic-via-else-not-is_ascii_alphabetic+then-not-is_ascii_alphabetic-2,
}

pub returns-then-not-is_ascii_alphabetic : goal.returns-then-not-is_ascii_alphabetic
returns-then-not-is_ascii_alphabetic g c =
    elim c.then-not-is_ascii_alphabetic.branch [
      | then-not-is_ascii_alphabetic-via-then-not-is_ascii_alphabetic w ↦
          no-first g.table c.args.cells.now c.args.first c.args.second c.requires
          (sym c.is_ascii_alphabetic.ensures.value ∙ w.if-not-is_ascii_alphabetic.true)
      | then-not-is_ascii_alphabetic-via-else-not-is_ascii_alphabetic+then-not-is_ascii_alphabetic-2 w ↦
          no-second g.table c.args.cells.now c.args.first c.args.second c.requires
          (sym w.is_ascii_alphabetic-else-not-is_ascii_alphabetic.ensures.value ∙ w.if-not-is_ascii_alphabetic-2.true)
    ]

pub returns-then-bits-eq0 : goal.returns-then-bits-eq0
returns-then-bits-eq0 g c =
    is-none _ _
    (at-letters g.table c.args.cells.now c.args.first c.args.second c.name_cell.result c.requires
    (sym c.is_ascii_alphabetic.ensures.value ∙ c.if-not-is_ascii_alphabetic.false)
    (sym c.is_ascii_alphabetic-else-not-is_ascii_alphabetic.ensures.value ∙ c.if-not-is_ascii_alphabetic-2.false)
    c.name_cell.ensures.cell (omega (arith, c.name_cell.ensures.within, c.fits-cells)))
    c.if-bits-eq0.true (λ m. found-bits g.table c.args.cells.now c.args.first c.args.second m c.requires)

pub returns-else-bits-eq0 : goal.returns-else-bits-eq0
returns-else-bits-eq0 g c =
    is-some _ _
    (at-letters g.table c.args.cells.now c.args.first c.args.second c.name_cell.result c.requires
    (sym c.is_ascii_alphabetic.ensures.value ∙ c.if-not-is_ascii_alphabetic.false)
    (sym c.is_ascii_alphabetic-else-not-is_ascii_alphabetic.ensures.value ∙ c.if-not-is_ascii_alphabetic-2.false)
    c.name_cell.ensures.cell (omega (arith, c.name_cell.ensures.within, c.fits-cells)))
    c.if-bits-eq0.false
