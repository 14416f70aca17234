use Rattle.std.proofs.Common.{List, ℕ, ap, refl, subst}
use Rattle.sd_kinds.specs.Flags.{flags_text}
use Rattle.sd_text.specs.Names.{names_of}
use Rattle.sd_sink.specs.Print.{Prints}
use Rattle.sd_kinds.specs.declared.flags.TheConstants.{FLAGS}
use Rattle.sd_kinds.proofs.flags.print_flags.Goals as goal

pub print_row-requires-clause-texts : goal.print_row-requires-clause-texts
unfolding flags_text
print_row-requires-clause-texts g c = refl

pub returns-else-from-lt-FLAG_ROWS : goal.returns-else-from-lt-FLAG_ROWS
unfolding flags_text
returns-else-from-lt-FLAG_ROWS g c =
    subst (λ (t : List ℕ). Prints (g.P.Print.told c.args.out.now) (g.P.Print.told c.print_names.new.out) t)
    (ap (names_of FLAGS) c.from-else-from-lt-FLAG_ROWS.ensures) c.print_names.ensures
