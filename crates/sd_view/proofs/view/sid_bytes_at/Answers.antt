use Rattle.std.proofs.Common.{◌≡◌, ◌+◌, ◌*◌, ℕ, List, arith, ap, drop, sym, take, slice_index, ◌∙◌}
use Rattle.std.proofs.lemmas.List.{take_rest}
use Rattle.sd_view.proofs.Parts.{no_sid-bytes, sid-bytes}
use Rattle.sd_view.proofs.view.sid_bytes_at.Goals as goal

pub returns-then-offset-eq0-clause-value : goal.returns-then-offset-eq0-clause-value
returns-then-offset-eq0-clause-value c = sym (no_sid-bytes c.args.bytes.now c.args.offset c.if-offset-eq0.true)

pub returns-clause-value : goal.returns-clause-value
returns-clause-value c =
    let bytes = c.args.bytes.now in
    let offset = c.args.offset in
    let rest = take_rest bytes offset in
    let count : c.from.result ≡ slice_index (drop offset bytes) 1 = c.from.ensures
    ∙ ap (λ (xs : List ℕ). slice_index xs 1) rest in
    ap (take (8 + 4 * c.from.result)) rest ∙ ap (λ (n : ℕ). take (8 + 4 * n) (drop offset bytes)) count
    ∙ sid-bytes bytes offset (λ i. omega (arith, c.type_inv.bytes i)) c.if-offset-eq0.false c.requires
