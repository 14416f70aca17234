-- Which SIDs may have a name in a domain, by their last sub-authority.
use Rattle.std.proofs.Common.{◌≡◌, ℕ, suc, ◌-◌, Bool, true, false, ◌&&◌, List, [], ◌∷◌, ◌++◌, length, slice_index}
use Rattle.std.proofs.Common.{Option, Some, None, refl, sym, ap, ◌∙◌, true≢false, arith}
use Rattle.std.specs.Prelude.{nat_le}
use Rattle.std.specs.List.{find, list_all}
use Rattle.sd_text.proofs.laws.Tables.{find-passes}
use Rattle.sd_sid.specs.Sid.{SecurityId}
use Rattle.sd_alias.specs.NameOfSid.{last_of}
use Rattle.sd_alias.specs.declared.table.DomainRelative.{DomainRelative}
use Rattle.sd_alias.specs.declared.table.TheConstants.{DOMAIN_RELATIVE}
use Rattle.sd_sid.specs.SidText.{same_sid, sid_in}
use Rattle.sd_sid.proofs.laws.AliasLaws.{same_sid-eq}

abbrev pub may_be_relative : ℕ → Bool
may_be_relative last = nat_le 498 last && nat_le last 553

entry_may : DomainRelative → Bool
entry_may e = may_be_relative e.last

entries_may : list_all entry_may DOMAIN_RELATIVE ≡ true
unfolding entry_may
entries_may = refl

last_of-push : (xs : List ℕ) (x : ℕ) → last_of (xs ++ x ∷ []) ≡ x
last_of-push [] x = refl
last_of-push (y ∷ []) x = refl
last_of-push (y ∷ z ∷ xs) x =
    let n : ℕ = length (xs ++ x ∷ []) in
    let less : suc (suc n) - 1 ≡ suc (suc n - 1) = omega arith in
    ap (slice_index (y ∷ z ∷ (xs ++ x ∷ []))) less ∙ last_of-push (z ∷ xs) x

pub unnamed : (s d : SecurityId) → may_be_relative (last_of s.subs) ≡ false
    → find (λ e. same_sid (sid_in d e) s) DOMAIN_RELATIVE ≡ None
unfolding entry_may
unnamed s d never = by_found (find (λ e. same_sid (sid_in d e) s) DOMAIN_RELATIVE) refl
  where
    by_found : (o : Option DomainRelative) → find (λ e. same_sid (sid_in d e) s) DOMAIN_RELATIVE ≡ o
        → find (λ e. same_sid (sid_in d e) s) DOMAIN_RELATIVE ≡ None
    by_found None h = h
    by_found (Some e) h =
        let passes = find-passes (λ k. same_sid (sid_in d k) s) entry_may DOMAIN_RELATIVE e h entries_may in
        let same = ap (λ (t : SecurityId). last_of t.subs) (same_sid-eq (sid_in d e) s passes.0) in
        absurd (true≢false (sym passes.1 ∙ ap may_be_relative (sym (last_of-push d.subs e.last) ∙ same) ∙ never))
