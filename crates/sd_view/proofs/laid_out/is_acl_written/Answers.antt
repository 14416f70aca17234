use Rattle.std.proofs.Common.{◌≡◌, ℕ, List, ◌++◌, take, drop, ap, sym, subst, ◌∙◌}
use Rattle.std.proofs.lemmas.List.{take_rest, take-append-drop}
use Rattle.sd_acl_view.specs.AclLayout.{acl_bytes}
use Rattle.sd_acl_view.specs.AclReading.{acl_at_front, acl_of}
use Rattle.sd_acl_view.specs.Bytes.{u16_at}
use Rattle.sd_view.specs.WrittenForm.{AclIsWritten}
use Rattle.sd_view.specs.declared.acl_part.AclPart.{AclPart}
use Rattle.sd_view.proofs.Parts.{acl_shown-stands}
use Rattle.sd_view.proofs.laid_out.is_acl_written.Goals as goal

pub returns : goal.returns
returns c =
    λ e.
    let bytes = c.args.bytes.now in
    let offset = c.args.offset in
    let rest = drop offset bytes in
    let stands = take_rest bytes offset in
    let size : c.from.result ≡ u16_at 2 rest = c.from.ensures ∙ c.u16_at.ensures ∙ ap (u16_at 2) stands in
    let same = ap (take c.from.result) stands ∙ ap (λ (n : ℕ). take n rest) size in
    let extent = acl_at_front rest in
    let whole : acl_bytes (acl_of extent) ≡ extent =
    subst (λ (xs : List ℕ). acl_bytes (acl_of xs) ≡ xs) same (c.is_written.ensures e) in
    let found = acl_shown-stands bytes c.args.present offset c.if-not-present.false c.if-offset-eq0.false in
    subst (λ (p : AclPart). AclIsWritten bytes offset p) (sym found) (
      drop (u16_at 2 rest) rest,
      sym (take-append-drop (u16_at 2 rest) rest)
          ∙ ap (λ (xs : List ℕ). xs ++ drop (u16_at 2 rest) rest) (sym whole),
    )
