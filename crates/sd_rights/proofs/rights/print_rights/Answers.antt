use Rattle.std.proofs.Common.{◌≡◌, ℕ, false, refl, ap, sym, ◌∙◌}
use Rattle.std.specs.Fmt.{digits}
use Rattle.sd_kinds.specs.declared.kinds.AceKind.{AceKind}
use Rattle.sd_kinds.specs.declared.kinds.AceKind.TheVariants as kinds
use Rattle.sd_rights.specs.Rights.{is_label, rights_text}
use Rattle.sd_sink.proofs.laws.PrintLemmas.{prints_as}
use Rattle.sd_rights.proofs.rights.print_rights.Goals as goal

-- only a label has other texts
same-text : (kind : AceKind) (mask : ℕ) → is_label kind ≡ false → rights_text kinds.Allow mask ≡ rights_text kind mask
unfolding rights_text
same-text kinds.Label mask other = absurd cc
same-text kind mask other = refl

pub print_row-requires-clause-texts : goal.print_row-requires-clause-texts
unfolding rights_text digits
print_row-requires-clause-texts g c = refl

pub returns-then-not-is_label : goal.returns-then-not-is_label
returns-then-not-is_label g c =
    prints_as
    (ap (rights_text kinds.Allow) c.if-row-mask.true
    ∙ same-text c.args.kind c.args.mask (sym c.is_label.ensures ∙ c.if-not-is_label.true)) c.print_row.ensures
