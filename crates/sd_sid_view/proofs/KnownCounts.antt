-- Which SIDs may have a name that stands everywhere, by the number of their sub-authorities.
use Rattle.std.proofs.Common.{◌≡◌, Bool, true, false, ◌&&◌, ◌||◌, length, slice_index, Option, Some, None, refl, sym}
use Rattle.std.proofs.Common.{ap, ◌∙◌, true≢false}
use Rattle.std.specs.Prelude.{◌==◌}
use Rattle.std.specs.List.{find, list_all}
use Rattle.sd_text.proofs.laws.Tables.{find-passes}
use Rattle.sd_sid.specs.Sid.{SecurityId}
use Rattle.sd_alias.specs.declared.table.WellKnown.{WellKnown}
use Rattle.sd_alias.specs.declared.table.TheConstants.{WELL_KNOWN}
use Rattle.sd_sid.specs.SidText.{known_sid, same_sid}
use Rattle.sd_sid.proofs.laws.AliasLaws.{same_sid-eq}

abbrev pub may_be_known : SecurityId → Bool
may_be_known s =
    length s.subs == 1 || length s.subs == 2 || (length s.subs == 6 && slice_index s.subs 0 == 84)

entry_may : WellKnown → Bool
entry_may e = may_be_known (known_sid e)

entries_may : list_all entry_may WELL_KNOWN ≡ true
unfolding entry_may
entries_may = refl

pub unknown : (s : SecurityId) → may_be_known s ≡ false → find (λ k. same_sid (known_sid k) s) WELL_KNOWN ≡ None
unfolding entry_may
unknown s never = by_found (find (λ k. same_sid (known_sid k) s) WELL_KNOWN) refl
  where
    by_found : (o : Option WellKnown) → find (λ k. same_sid (known_sid k) s) WELL_KNOWN ≡ o
        → find (λ k. same_sid (known_sid k) s) WELL_KNOWN ≡ None
    by_found None h = h
    by_found (Some e) h =
        let passes = find-passes (λ k. same_sid (known_sid k) s) entry_may WELL_KNOWN e h entries_may in
        absurd (true≢false (sym passes.1 ∙ ap may_be_known (same_sid-eq (known_sid e) s passes.0) ∙ never))
