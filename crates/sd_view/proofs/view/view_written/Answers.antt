use Rattle.std.proofs.Common.{◌≡◌, ℕ, Bool, List, ap, arith, sym, subst, ◌∙◌}
use Rattle.sd_parts.specs.Control.{dacl_present, sacl_present}
use Rattle.sd_sid.proofs.laws.Numbers.{AreBytes}
use Rattle.sd_view.specs.Descriptor.{Descriptor, IsAclPart, Shows, control_at, dacl_at, sacl_at}
use Rattle.sd_view.specs.Inner.Found.{shown_written, written_of}
use Rattle.sd_view.specs.Inner.Readable.{IsAclAt, Readable}
use Rattle.sd_view.specs.Reading.{acl_shown, shown}
use Rattle.sd_view.specs.WrittenForm.{AclIsWritten, IsWritten, IsWrittenForm}
use Rattle.sd_acl_view.specs.declared.acl.Written.{Written}
use Rattle.sd_view.specs.declared.view.Acls.{Acls}
use Rattle.sd_view.proofs.ReadLaws.{fault-shows, reading-ok, shows-fault}
use Rattle.sd_view.proofs.view.view_written.Goals as goal

-- the descriptor that the bytes show in their written form is the one that reading them gives
record IsForm (bytes : List ℕ) : Type 0 where
  shows : Shows bytes (shown bytes)
  readable : Readable bytes
  written : IsWritten bytes (shown bytes)

form : (bytes : List ℕ) → AreBytes bytes → IsWrittenForm bytes → IsForm bytes
form bytes b h =
    let none = shows-fault bytes h.descriptor h.shows in
    let sound = fault-shows bytes b none.0 in
    record {
      shows = sound.0;
      readable = sound.1;
      written = subst (λ (d : Descriptor). IsWritten bytes d) (sym none.1) h.written;
    }

-- what is needed of an ACL
record IsFormAt (bytes : List ℕ) (present : Bool) (offset : ℕ) : Type 0 where
  extent : IsAclAt bytes present offset
  written : AclIsWritten bytes offset (acl_shown bytes present offset)
  limits : IsAclPart present (acl_shown bytes present offset)

sacl-form : (bytes : List ℕ) (present : Bool) (offset : ℕ) → AreBytes bytes → IsWrittenForm bytes
    → present ≡ sacl_present (control_at bytes)
    → offset ≡ sacl_at bytes
    → IsFormAt bytes present offset
sacl-form bytes present offset b h e f =
    let all = form bytes b h in
    let at : IsFormAt bytes (sacl_present (control_at bytes)) (sacl_at bytes) =
    record { extent = all.readable.sacl; written = all.written.sacl; limits = all.readable.limits.sacl } in
    subst (λ (n : ℕ). IsFormAt bytes present n) (sym f)
    (subst (λ (p : Bool). IsFormAt bytes p (sacl_at bytes)) (sym e) at)

dacl-form : (bytes : List ℕ) (present : Bool) (offset : ℕ) → AreBytes bytes → IsWrittenForm bytes
    → present ≡ dacl_present (control_at bytes)
    → offset ≡ dacl_at bytes
    → IsFormAt bytes present offset
dacl-form bytes present offset b h e f =
    let all = form bytes b h in
    let at : IsFormAt bytes (dacl_present (control_at bytes)) (dacl_at bytes) =
    record { extent = all.readable.dacl; written = all.written.dacl; limits = all.readable.limits.dacl } in
    subst (λ (n : ℕ). IsFormAt bytes present n) (sym f)
    (subst (λ (p : Bool). IsFormAt bytes p (dacl_at bytes)) (sym e) at)

-- what an ACL's header tells, at the fields that were read
told : (bytes : List ℕ) (w : Written) (p q : Bool) (m n : ℕ) → p ≡ q → m ≡ n → w ≡ written_of (acl_shown bytes p m)
    → w ≡ written_of (acl_shown bytes q n)
told bytes w p q m n e f same =
    same ∙ ap (λ (b : Bool). written_of (acl_shown bytes b m)) e ∙ ap (λ (k : ℕ). written_of (acl_shown bytes q k)) f

both : (s d : Written) (a : Acls) → s ≡ a.sacl → d ≡ a.dacl → ◌≡◌ {A = Acls} (record { sacl = s; dacl = d }) a
both s d a e f = λ i. record { sacl = e i; dacl = f i }

pub written_at-sacl-requires-clause-extent : goal.written_at-sacl-requires-clause-extent
written_at-sacl-requires-clause-extent c =
    let word = ap sacl_present c.u16_at-control.ensures in
    (sacl-form c.args.bytes.now _ _ (λ i. omega (arith, c.type_inv.bytes i)) c.requires
    (c.has_bit-has_sacl.ensures ∙ word) c.u32_at.ensures).extent

pub written_at-sacl-requires-clause-written : goal.written_at-sacl-requires-clause-written
written_at-sacl-requires-clause-written c =
    let word = ap sacl_present c.u16_at-control.ensures in
    (sacl-form c.args.bytes.now _ _ (λ i. omega (arith, c.type_inv.bytes i)) c.requires
    (c.has_bit-has_sacl.ensures ∙ word) c.u32_at.ensures).written

pub written_at-sacl-requires-clause-limits : goal.written_at-sacl-requires-clause-limits
written_at-sacl-requires-clause-limits c =
    let word = ap sacl_present c.u16_at-control.ensures in
    (sacl-form c.args.bytes.now _ _ (λ i. omega (arith, c.type_inv.bytes i)) c.requires
    (c.has_bit-has_sacl.ensures ∙ word) c.u32_at.ensures).limits

pub written_at-dacl-requires-clause-extent : goal.written_at-dacl-requires-clause-extent
written_at-dacl-requires-clause-extent c =
    let word = ap dacl_present c.u16_at-control.ensures in
    (dacl-form c.args.bytes.now _ _ (λ i. omega (arith, c.type_inv.bytes i)) c.requires
    (c.has_bit-has_dacl.ensures ∙ word) c.u32_at-2.ensures).extent

pub written_at-dacl-requires-clause-written : goal.written_at-dacl-requires-clause-written
written_at-dacl-requires-clause-written c =
    let word = ap dacl_present c.u16_at-control.ensures in
    (dacl-form c.args.bytes.now _ _ (λ i. omega (arith, c.type_inv.bytes i)) c.requires
    (c.has_bit-has_dacl.ensures ∙ word) c.u32_at-2.ensures).written

pub written_at-dacl-requires-clause-limits : goal.written_at-dacl-requires-clause-limits
written_at-dacl-requires-clause-limits c =
    let word = ap dacl_present c.u16_at-control.ensures in
    (dacl-form c.args.bytes.now _ _ (λ i. omega (arith, c.type_inv.bytes i)) c.requires
    (c.has_bit-has_dacl.ensures ∙ word) c.u32_at-2.ensures).limits

pub invariant_of-result : goal.invariant_of-result
invariant_of-result c =
    let bytes = c.args.bytes.now in
    let sacl = told bytes c.written_at-sacl.result _ (sacl_present (control_at bytes)) _ (sacl_at bytes)
    (c.has_bit-has_sacl.ensures ∙ ap sacl_present c.u16_at-control.ensures) c.u32_at.ensures
    c.written_at-sacl.ensures in
    let dacl = told bytes c.written_at-dacl.result _ (dacl_present (control_at bytes)) _ (dacl_at bytes)
    (c.has_bit-has_dacl.ensures ∙ ap dacl_present c.u16_at-control.ensures) c.u32_at-2.ensures
    c.written_at-dacl.ensures in (
      (form bytes (λ i. omega (arith, c.type_inv.bytes i)) c.requires).readable,
      both c.written_at-sacl.result c.written_at-dacl.result (shown_written (shown bytes)) sacl dacl,
    )

pub returns-clause-found : goal.returns-clause-found
returns-clause-found c = (form c.args.bytes.now (λ i. omega (arith, c.type_inv.bytes i)) c.requires).shows

pub returns-clause-only : goal.returns-clause-only
returns-clause-only c = λ d h. (shows-fault c.args.bytes.now d h).1

pub returns-clause-exact : goal.returns-clause-exact
returns-clause-exact c =
    reading-ok c.args.bytes.now (shows-fault c.args.bytes.now c.requires.descriptor c.requires.shows).0

pub returns-clause-limits : goal.returns-clause-limits
returns-clause-limits c = (form c.args.bytes.now (λ i. omega (arith, c.type_inv.bytes i)) c.requires).readable.limits

pub returns-clause-whole : goal.returns-clause-whole
returns-clause-whole c = (form c.args.bytes.now (λ i. omega (arith, c.type_inv.bytes i)) c.requires).written.size
