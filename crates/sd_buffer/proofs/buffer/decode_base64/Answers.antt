use Rattle.std.proofs.Common.{◌≤◌, ◌-◌, ◌*◌, arith, length}
use Rattle.std.proofs.lemmas.List.{take_rest}
use Rattle.std.proofs.lemmas.Result.{err_from_is_err_and}
use Rattle.sd_buffer.proofs.Base64Blocks.{decoded-both, wrong-both}
use Rattle.sd_buffer.proofs.buffer.decode_base64.Goals as goal

pub returns-clause-value : goal.returns-clause-value
returns-clause-value c =
    let text = c.args.text.now in
    let groups = c.decode_blocks-groups.result in
    let cells = c.decode_blocks-groups.new.cells in
    let part = c.decode_rest.new.cells in
    let room : 3 * groups ≤ length cells =
    omega (arith, c.requires, c.decode_blocks-groups.ensures.within, c.decode_blocks-groups.auto.cells) in
    let few : c.in_ok-rest.rest ≤ length part = omega (arith, c.in_ok-rest.ensures.within, c.decode_rest.auto.cells) in
    let rest = take_rest text (4 * groups) in
    decoded-both text cells part (length cells - 3 * groups) groups c.in_ok-rest.rest
    (λ i. let fits = c.type_inv.text i in omega arith) (λ i. let fits = c.type_inv.cells i in omega arith) room few
    c.decode_blocks-groups.ensures.spelled (rw rest at c.in_ok-rest.ensures.value)

pub returns-in_err-rest-clause-value : goal.returns-in_err-rest-clause-value
returns-in_err-rest-clause-value c =
    let text = c.args.text.now in
    let rest = take_rest text (4 * c.decode_blocks-groups.result) in
    let p = err_from_is_err_and c.from_residual.result c.from_residual.ensures.1 in
    rw (p.1, p.2)
    (wrong-both text _ c.decode_rest.new.cells c.decode_blocks-groups.result _
    (λ i. let fits = c.type_inv.text i in omega arith) (rw rest at c.in_err-rest.ensures.value))
