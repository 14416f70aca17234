use Rattle.std.proofs.Common.{◌≡◌, ◌+◌, ℕ, Bool, List, length, ap, sym, subst, ◌∙◌, arith}
use Rattle.std.proofs.lemmas.Bool.{eqb-true}
use Rattle.sd_sid.proofs.laws.Numbers.{AreBytes}
use Rattle.sd_parts.specs.Control.{dacl_present, sacl_present}
use Rattle.sd_view.specs.Layout.{acl_part_size, offset_if, sid_part, sid_part_size}
use Rattle.sd_view.specs.Reading.{acl_shown, shown, sid_shown}
use Rattle.sd_view.specs.WrittenForm.{AclIsWritten, IsWritten}
use Rattle.sd_view.specs.declared.view.Acls.{Acls}
use Rattle.sd_view.proofs.Parts.{written-size}
use Rattle.sd_view.proofs.ReadLaws.{fault-shows}
use Rattle.sd_view.proofs.laws.LaidOut.{laid-out}
use Rattle.sd_view.proofs.laws.LayoutSizes.{length-sid_part, size-most}
use Rattle.sd_view.proofs.laid_out.is_laid_out.Goals as goal

pub overflow_add-dacl_start-2 : goal.overflow_add-dacl_start-2
overflow_add-dacl_start-2 c =
    let d = shown c.args.bytes.now in
    let sacl = ap (λ (a : Acls). a.sacl.size) c.requires.acls ∙ written-size d.sacl in
    let dacl = ap (λ (a : Acls). a.dacl.size) c.requires.acls ∙ written-size d.dacl in
    omega (
      arith,
      sacl,
      dacl,
      c.sid_bytes_at-owner.ensures.short,
      c.sid_bytes_at-group.ensures.short,
      size-most d c.requires.readable.limits,
    )

-- the same ACL, at the fields that were read
at-fields : (bytes : List ℕ) (p q : Bool) (m n : ℕ) → p ≡ q → m ≡ n → AclIsWritten bytes m (acl_shown bytes p m)
    → AclIsWritten bytes n (acl_shown bytes q n)
at-fields bytes p q m n e f h =
    subst (λ (k : ℕ). AclIsWritten bytes k (acl_shown bytes q k)) f
    (subst (λ (b : Bool). AclIsWritten bytes m (acl_shown bytes b m)) e h)

pub returns : goal.returns
returns c =
    λ e.
    let bytes = c.args.bytes.now in
    let d = shown bytes in
    let b : AreBytes bytes = λ i. omega (arith, c.type_inv.bytes i) in
    let owner : length c.sid_bytes_at-owner.result.now ≡ sid_part_size d.owner =
    ap length c.sid_bytes_at-owner.ensures.value
    ∙ ap (λ (n : ℕ). length (sid_part (sid_shown bytes n))) c.u32_at.ensures ∙ length-sid_part d.owner in
    let group : length c.sid_bytes_at-group.result.now ≡ sid_part_size d.group =
    ap length c.sid_bytes_at-group.ensures.value
    ∙ ap (λ (n : ℕ). length (sid_part (sid_shown bytes n))) c.u32_at-2.ensures ∙ length-sid_part d.group in
    let sacl : c.args.acls.sacl.size ≡ acl_part_size d.sacl =
    ap (λ (a : Acls). a.sacl.size) c.requires.acls ∙ written-size d.sacl in
    let dacl : c.args.acls.dacl.size ≡ acl_part_size d.dacl =
    ap (λ (a : Acls). a.dacl.size) c.requires.acls ∙ written-size d.dacl in
    let owner_at = sym c.u32_at-else-bytes-dacl_start.ensures
    ∙ eqb-true _ _ (sym c.stands_at.ensures ∙ c.if-not-stands_at.false)
    ∙ ap (offset_if 20) owner in
    let group_at = sym c.u32_at-else-not-stands_at.ensures
    ∙ eqb-true _ _ (sym c.stands_at-else-not-stands_at.ensures ∙ c.if-not-stands_at-2.false)
    ∙ (λ i. offset_if (20 + owner i) (group i)) in
    let sacl_at = sym c.u32_at-else-not-stands_at-2.ensures
    ∙ eqb-true _ _ (sym c.stands_at-else-not-stands_at-2.ensures ∙ c.if-not-stands_at-3.false)
    ∙ (λ i. offset_if (20 + owner i + group i) (sacl i)) in
    let dacl_at = sym c.u32_at-else-not-stands_at-3.ensures
    ∙ eqb-true _ _ (sym c.stands_at-else-not-stands_at-3.ensures ∙ c.if-not-stands_at-4.false)
    ∙ (λ i. offset_if (20 + owner i + group i + sacl i) (dacl i)) in
    let control = c.u16_at-control.ensures in
    let written : IsWritten bytes d = record {
      size = c.if-bytes-dacl_start.false ∙ (λ i. 20 + owner i + group i + sacl i + dacl i);
      sacl = at-fields bytes _ _ _ _ (c.has_bit-has_sacl.ensures ∙ ap sacl_present control) c.u32_at-3.ensures
          (c.is_acl_written.ensures c.if-not-is_acl_written.false);
      dacl = at-fields bytes _ _ _ _ (c.has_bit-has_dacl.ensures ∙ ap dacl_present control) c.u32_at-4.ensures
          (c.is_acl_written-2.ensures e);
    } in
    laid-out bytes d b (fault-shows bytes b c.requires.readable.sound).0 written
    (λ i. record { owner = owner_at i; group = group_at i; sacl = sacl_at i; dacl = dacl_at i })
