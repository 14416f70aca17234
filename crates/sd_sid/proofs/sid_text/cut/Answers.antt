use Rattle.std.proofs.Common.{◌≡◌, ◌+◌, arith, drop, drop-cons, refl}
use Rattle.std.proofs.lemmas.List.{take_rest}
use Rattle.sd_sid.proofs.Cutting.{cut_end, cut_here, dash_at}
use Rattle.sd_sid.proofs.sid_text.cut.Goals as goal

pub returns-then-byte-eq45-clause-cut : goal.returns-then-byte-eq45-clause-cut
returns-then-byte-eq45-clause-cut c =
    let text = c.args.text.now in
    let i = c.loop-i.i in
    let here : dash_at (drop i text) ≡ 0 = rw (drop-cons text i 0 (omega arith), c.if-byte-eq45.true) refl in
    let at : dash_at text ≡ i = omega (arith, here, c.loop-i.invariant) in
    rw (take_rest text (i + 1)) (rw at at (cut_here text (omega (arith, at))))

pub returns-clause-cut : goal.returns-clause-cut
returns-clause-cut c = cut_end c.args.text.now (omega (arith, c.loop-i.invariant))
