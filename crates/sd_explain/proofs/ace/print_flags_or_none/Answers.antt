use Rattle.std.proofs.Common.{◌≡◌, ℕ, List, [], ◌∷◌, Some, refl, arith}
use Rattle.sd_kinds.proofs.laws.FlagLaws.{flags_read_back}
use Rattle.sd_sink.proofs.laws.PrintLemmas.{prints_as}
use Rattle.sd_kinds.specs.Flags.{flags_reads, flags_text}
use Rattle.sd_text.specs.Names.{run_of}
use Rattle.sd_explain.specs.Explain.{or_none}
use Rattle.sd_explain.proofs.ace.print_flags_or_none.Goals as goal

empty : flags_reads [] ≡ Some 0
unfolding flags_reads run_of
empty = refl

-- a text that reads as other flags than 0 is not empty
some : (f : ℕ) (text : List ℕ) → (f ≡ 0 → ⊥) → flags_reads text ≡ Some f → text ≡ or_none text
some f [] other e = absurd (other (cc (e, empty)))
some f (b ∷ bs) other e = refl

pub returns-then-flags-eq0 : goal.returns-then-flags-eq0
unfolding flags_text
returns-then-flags-eq0 g c = rw c.if-flags-eq0.true c.put.ensures

pub returns : goal.returns
returns g c =
    let f = c.args.flags in
    prints_as (some f _ c.if-flags-eq0.false (flags_read_back f (omega arith) c.requires)) c.print_flags.ensures
