use Rattle.std.proofs.Common.{rules, ◌≡◌, ◌∙◌, None, Some, arith}
use Rattle.std.proofs.lemmas.Str.Pattern.{split_once_first}
use Rattle.std.specs.Option.{option_copied}
use Rattle.sd_command.proofs.TokenLemmas.{all-added, cut-last, cut-more, one-cut, one-fails, one-is-left}
use Rattle.sd_command.proofs.token_text.add_entries.Goals as goal

pub returns-in_err-add_entry-clause-entries : goal.returns-in_err-add_entry-clause-entries
returns-in_err-add_entry-clause-entries c =
    let at = split_once_first 44 c.loop-piece.rest.now (Some (c.in-Some.piece, c.in-Some.others))
    c.in-Some.ensures.cases (omega arith) in
    let cut = cut-more c.loop-piece.rest.now c.in-Some.piece.now c.in-Some.others.now at.0 at.1 at.2 in
    let e : c.from_residual.result ≡ None = search rules in
    rw e
    (one-fails (option_copied c.args.domain) c.loop-piece.rest.now _ c.in-Some.others.now
    c.loop-piece.token.holder.entries _ cut c.in_err-add_entry.ensures.entries c.loop-piece.invariant.1
    ∙ all-added (option_copied c.args.domain) c.args.text.now)

pub loop-piece-preserved : goal.loop-piece-preserved
loop-piece-preserved c =
    let at = split_once_first 44 c.loop-piece.rest.now (Some (c.in-Some.piece, c.in-Some.others))
    c.in-Some.ensures.cases (omega arith) in
    let cut = cut-more c.loop-piece.rest.now c.in-Some.piece.now c.in-Some.others.now at.0 at.1 at.2 in
    let added =
    one-cut (option_copied c.args.domain) c.loop-piece.rest.now _ c.in-Some.others.now c.loop-piece.token.holder.entries
    _ _ cut c.in_ok-add_entry.ensures.entries c.loop-piece.invariant.1 in
    (search rules, added, c.in_ok-add_entry.ensures.compared ∙ c.loop-piece.invariant.2)

pub returns-clause-entries : goal.returns-clause-entries
returns-clause-entries c =
    let at = split_once_first 44 c.loop-piece.rest.now None c.in_default.ensures.cases (omega arith) in
    c.add_entry-2.ensures.entries
    ∙ (one-is-left (option_copied c.args.domain) c.loop-piece.rest.now c.loop-piece.token.holder.entries _
    (cut-last c.loop-piece.rest.now at) c.loop-piece.invariant.1
    ∙ all-added (option_copied c.args.domain) c.args.text.now)
