use Rattle.std.proofs.Common.{◌≡◌, ℕ, Bool, true, false, List, ◌++◌, drop, slice_index, eqb, ap, subst, refl, ◌∙◌}
use Rattle.std.proofs.lemmas.List.{take_rest}
use Rattle.sd_ace.specs.Ace.{AccessControlEntry}
use Rattle.sd_acl_view.specs.Acl.{IsAcl, acl_size, has_object}
use Rattle.sd_acl_view.specs.AclLayout.{acl_bytes, revision_if}
use Rattle.sd_acl_view.specs.Bytes.{u16_at}
use Rattle.sd_view.specs.Descriptor.{IsAclPart}
use Rattle.sd_view.specs.Inner.Found.{written_of}
use Rattle.sd_view.specs.WrittenForm.{AclIsWritten}
use Rattle.sd_view.specs.declared.acl_part.AclPart.{AclPart}
use Rattle.sd_view.specs.declared.acl_part.AclPart.TheVariants as acl
use Rattle.sd_acl_view.specs.declared.acl.Written.{Written}
use Rattle.sd_view.proofs.Parts.{acl_shown-stands}
use Rattle.sd_view.proofs.laws.LayoutSizes.{acl_size-read}
use Rattle.sd_view.proofs.view.written_at.Goals as goal

-- the revision tells whether an object ACE stands in the list
revision-tells : (b : Bool) → eqb (revision_if b) 4 ≡ b
revision-tells true = refl
revision-tells false = refl

-- the header of an ACL in its written form
header-tells : (at rest : List ℕ) (aces : List AccessControlEntry) → IsAcl aces → at ≡ acl_bytes aces ++ rest
    → (u16_at 2 at ≡ acl_size aces) × (eqb (slice_index at 0) 4 ≡ has_object aces)
header-tells at rest aces h found = (
  acl_size-read at rest aces h found,
  ap (λ (xs : List ℕ). eqb (slice_index xs 0) 4) found ∙ revision-tells (has_object aces),
)

-- and its header tells what its written form needs
listed : (bytes : List ℕ) (present : Bool) (offset size : ℕ) (part : AclPart) (aces : List AccessControlEntry)
    → part ≡ acl.List aces
    → AclIsWritten bytes offset part → IsAclPart present part
    → size ≡ u16_at 2 (drop offset bytes)
    → ◌≡◌ {A = Written} (record { size = size; object = eqb (slice_index (drop offset bytes) 0) 4 }) (written_of part)
listed bytes present offset size part aces e written limits count =
    let stands = subst (λ (p : AclPart). AclIsWritten bytes offset p) e written in
    let fits = subst (λ (p : AclPart). IsAclPart present p) e limits in
    let told = header-tells (drop offset bytes) stands.0 aces fits.1 stands.1 in
    rw (count, told.0, told.1, e) refl

pub returns : goal.returns
returns c =
    let bytes = c.args.bytes.now in
    let offset = c.args.offset in
    let rest = take_rest bytes offset in
    let count : c.from.result ≡ u16_at 2 (drop offset bytes) =
    c.from.ensures ∙ c.u16_at.ensures ∙ ap (u16_at 2) rest in
    let found = acl_shown-stands bytes c.args.present offset c.if-not-present.false c.if-offset-eq0.false in
    rw rest (listed bytes c.args.present offset c.from.result _ _ found c.requires.written c.requires.limits count)
