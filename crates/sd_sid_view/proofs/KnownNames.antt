-- The name of a SID, from the only entry that may name it.
use Rattle.std.proofs.Common.{◌≡◌, Bool, List, ℕ, [], ◌∷◌, take, Option, Some, None, sym, ap, ◌∙◌}
use Rattle.std.specs.Prelude.{if◌then◌else◌}
use Rattle.std.specs.List.{find}
use Rattle.std.specs.Option.{option_map}
use Rattle.sd_alias.specs.NameOfSid.{is_name_of, passing}
use Rattle.sd_alias.specs.declared.table.WellKnown.{WellKnown}
use Rattle.sd_alias.specs.declared.table.TheConstants.{WELL_KNOWN}
use Rattle.sd_sid.specs.Sid.{SecurityId}
use Rattle.sd_sid.specs.SidText.{known_alias, known_sid, same_sid}
use Rattle.sd_sid.proofs.laws.AliasLaws.{same_sid_comm}

abbrev letters : WellKnown → List ℕ
letters e = e.first ∷ e.second ∷ []

-- A SID `s` is compared with the SID of the entry `e`, whose parts are `a` and `subs`, and `b` tells whether it is the
-- same.
pub named : (s : SecurityId) (e : WellKnown) (a : ℕ) (subs : List ℕ) (b r : Bool) (o : Option WellKnown)
    → a ≡ e.authority → subs ≡ take e.count e.subs → o ≡ Some e
    → find (is_name_of s.authority s.subs) WELL_KNOWN ≡ passing (is_name_of s.authority s.subs) o
    → r ≡ same_sid s (record { authority = a; subs = subs }) → r ≡ b
    → known_alias s ≡ option_map letters (if b then Some e else None)
named s e a subs b r o authority numbers is only compared told =
    let same : same_sid s (known_sid e) ≡ b =
    ap (λ (n : ℕ). same_sid s (record { authority = n; subs = take e.count e.subs })) (sym authority)
    ∙ ap (λ (xs : List ℕ). same_sid s (record { authority = a; subs = xs })) (sym numbers)
    ∙ sym compared
    ∙ told in
    ap (option_map letters) (only ∙ ap (passing (is_name_of s.authority s.subs)) is
    ∙ ap (λ (t : Bool). if t then Some e else None) (same_sid_comm (known_sid e) s ∙ same))
