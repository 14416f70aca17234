use Rattle.std.proofs.Common.{◌∙◌, ℕ, drop, not, sym, ap}
use Rattle.std.proofs.lemmas.List.{take_rest}
use Rattle.sd_acl_view.specs.Bytes.{u16_at}
use Rattle.sd_acl_view.specs.Inner.Written.{all_named_flags}
use Rattle.sd_acl_view.proofs.WrittenLaws.{plain-named}
use Rattle.sd_acl_view.proofs.written_acl.are_flags_named.Goals as goal

pub returns-then-not-object : goal.returns-then-not-object
returns-then-not-object c =
    let extent = c.args.extent.now in
    let plain = sym c.requires.object ∙ c.if-not-object.true in
    ap not c.if-not-object.true ∙ sym (plain-named (u16_at 4 extent) (drop 8 extent) plain)

pub returns-else-not-object : goal.returns-else-not-object
returns-else-not-object c =
    let extent = c.args.extent.now in
    c.have_named_flags.ensures ∙ ap (all_named_flags c.u16_at.result) (take_rest extent 8)
    ∙ ap (λ (n : ℕ). all_named_flags n (drop 8 extent)) c.u16_at.ensures
