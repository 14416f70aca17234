use Rattle.std.proofs.Common.{◌≡◌, ℕ, ◌+◌, [], ◌∷◌, length, ap, sym, arith, length-append}
use Rattle.std.specs.List.{enumerate_from, flat_map}
use Rattle.sd_ace.specs.Ace.{AccessControlEntry}
use Rattle.sd_sink.proofs.laws.PrintLemmas.{prints_as}
use Rattle.sd_sink.proofs.laws.PrintLoops.{Prints-item, moved}
use Rattle.sd_explain.specs.Explain.{ace_line}
use Rattle.sd_explain.proofs.Numbered.{enumerate_from-last}
use Rattle.sd_explain.proofs.acl.print_aces.Goals as goal

pub loop-ace-preserved : goal.loop-ace-preserved
loop-ace-preserved g c =
    let l = c.loop-ace in
    let ace = c.in-Some.ace in
    let line = λ (e : ℕ × AccessControlEntry). ace_line c.args.naming.now c.args.part.now e.0 e.1 in
    let number : l.number + 1 ≡ 1 + length l.yielded = omega (arith, l.invariant.number) in
    let one = rw number at c.print_ace.ensures in
    record {
      left = moved _ _ _ _ _ l.invariant.left c.in-Some.ensures.steps;
      number = omega (arith, l.invariant.number, length-append l.yielded (ace ∷ []));
      printed =
          prints_as (ap (flat_map line) (sym (enumerate_from-last 1 l.yielded ace)))
          (Prints-item line _ _ _ (enumerate_from 1 l.yielded) (1 + length l.yielded, ace) l.invariant.printed one);
    }
