-- An ACE that ends with its SID: the ACL at hand grows by it, or is too large.
use Rattle.std.proofs.Common.{◌≡◌, ℕ, ◌+◌, ◌≤◌, ◌^◌, List, Option, Some, None, Bool, true, false, refl, sym, ◌∙◌, arith}
use Rattle.std.specs.Prelude.{if◌then◌else◌, is_some, nat_lt}
use Rattle.std.specs.Option.{option_map}
use Rattle.std.proofs.lemmas.Bool.Decides.{nat_tests}
use Rattle.sd_acl_view.proofs.laws.AceLists.{size-more}
use Rattle.sd_ace.specs.Ace.{AccessControlEntry, ace_size}
use Rattle.sd_sid.specs.Sid.{SecurityId}
use Rattle.sd_acl_view.specs.Acl.{acl_size}
use Rattle.sd_builder.specs.Draft.{IsOpen, IsOpenIn, more_in, open_size, open_size_in, with_ace}
use Rattle.sd_sddl_builder.specs.FoldedReading.{FieldsRead, ace_of_fields, large_in, with_trustee}
use Rattle.sd_sddl_builder.specs.FieldReading.{BuildsParts, HasReadFields}
use Rattle.sd_sddl_builder.specs.declared.reading.FieldReader.{FieldReader}
use Rattle.sd_builder.specs.declared.builder.Builder.{Builder}
use Rattle.sd_parts.specs.declared.part.Which.{Which}

-- the ACL that is open is the same one, where one is
is_open_with : (x y : Option (Which × List AccessControlEntry)) → option_map (λ o. o.0) x ≡ option_map (λ o. o.0) y
    → IsOpenIn x → IsOpenIn y
is_open_with None y e o = absurd o
is_open_with (Some p) None e o = absurd cc
is_open_with (Some p) (Some q) e o = tt

large-test : (n k : ℕ) (w : Which) → 2 ^ 16 ≤ n → k ≡ n → (if nat_lt 65535 k then Some w else None) ≡ Some w
large-test n k w large is = rw (let h : nat_lt 65535 k ≡ true = grind (arith, nat_tests) in h) refl

fits-test : (n k : ℕ) (w : Which) → (2 ^ 16 ≤ n → ⊥) → k ≡ n → (if nat_lt 65535 k then Some w else None) ≡ None
fits-test n k w fits is = by_test (nat_lt 65535 k) refl
  where
    by_test : (x : Bool) → nat_lt 65535 k ≡ x → (if x then Some w else None) ≡ None
    by_test true e = absurd (fits (grind (arith, nat_tests)))
    by_test false e = refl

large-found : (x : Option (Which × List AccessControlEntry)) (a : AccessControlEntry) → IsOpenIn x
    → 2 ^ 16 ≤ open_size_in x + ace_size a → large_in (more_in a x) ≡ option_map (λ o. o.0) x
large-found None a o large = absurd o
large-found (Some p) a o large = large-test (acl_size p.1 + ace_size a) _ p.0 large
    (let h = size-more p.1 a in omega (arith, h))

fits-found : (x : Option (Which × List AccessControlEntry)) (a : AccessControlEntry) → IsOpenIn x
    → (2 ^ 16 ≤ open_size_in x + ace_size a → ⊥) → large_in (more_in a x) ≡ None
fits-found None a o fits = absurd o
fits-found (Some p) a o fits = fits-test (acl_size p.1 + ace_size a) _ p.0 fits
    (let h = size-more p.1 a in omega (arith, h))

open-same : (x : Option (Which × List AccessControlEntry)) (a : AccessControlEntry)
    → option_map (λ o. o.0) (more_in a x) ≡ option_map (λ o. o.0) x
open-same None a = refl
open-same (Some p) a = refl

no-name : (x : Option (Which × List AccessControlEntry)) → IsOpenIn x → option_map (λ o. o.0) x ≡ None → ⊥
no-name None o e = o
no-name (Some p) o e = absurd cc

module _ (r : FieldReader) (buf buf' : List ℕ) (b' : Builder) (t : FieldsRead) (s : SecurityId)
    (a : AccessControlEntry) (h : HasReadFields r buf t) (none : r.large ≡ None) (is : a ≡ ace_of_fields t.ace s)
    (o : IsOpen t.parts) where
  nothing_large : t.large ≡ None
  nothing_large = sym h.large ∙ none

  -- the ACL would pass 65,535 bytes
  pub holds-large : 2 ^ 16 ≤ open_size t.parts + ace_size a
      → HasReadFields (record r { builder = b'; large = r.open_acl }) buf' (with_trustee t s)
  holds-large large = record {
    sacl = h.sacl;
    dacl = h.dacl;
    ace = h.ace;
    large = h.open_acl nothing_large ∙ sym now_large;
    sound = h.sound;
    builds = λ e. absurd (no-name t.parts.«open» o (sym now_large ∙ e));
    open_acl = λ e. absurd (no-name t.parts.«open» o (sym now_large ∙ e));
  }
    where
      now_large : (with_trustee t s).large ≡ option_map (λ p. p.0) t.parts.«open»
      now_large = rw (nothing_large) (large-found t.parts.«open» (ace_of_fields t.ace s) o (rw (is) at large))

  -- it has room for the ACE
  pub holds-more : (2 ^ 16 ≤ open_size t.parts + ace_size a → ⊥) → BuildsParts b' buf' (with_ace a t.parts)
      → HasReadFields (record r { builder = b' }) buf' (with_trustee t s)
  holds-more fits built = record {
    sacl = h.sacl;
    dacl = h.dacl;
    ace = h.ace;
    large = none ∙ sym (rw (nothing_large) (fits-found t.parts.«open» (ace_of_fields t.ace s) o (rw (is) at fits)));
    sound = h.sound;
    builds = λ e. (built.0, rw (is) at built.1);
    open_acl = λ e. h.open_acl nothing_large ∙ sym (open-same t.parts.«open» (ace_of_fields t.ace s));
  }

pub none-is : {A : Type 0} (x : Option A) → is_some x ≡ false → x ≡ None
none-is None e = refl
none-is (Some x) e = absurd cc

-- two readings that a reader holds have the same ACL open
pub open-too : (r : FieldReader) (buf : List ℕ) (t u : FieldsRead) → HasReadFields r buf t → HasReadFields r buf u
    → r.large ≡ None
    → IsOpen t.parts → IsOpen u.parts
open-too r buf t u h k none o =
    is_open_with t.parts.«open» u.parts.«open»
    (sym (h.open_acl (sym h.large ∙ none)) ∙ k.open_acl (sym k.large ∙ none)) o
