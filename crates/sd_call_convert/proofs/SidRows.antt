-- SIDs and their texts, by hand (MS-DTYP 2.4.2, and 2.5.1.1 for the aliases).
use Rattle.std.proofs.Common.{◌≡◌, [], ◌∷◌, ◌++◌, true, false, codes, Ok, Err, refl, rules}
use Rattle.std.specs.Fmt.{digits}
use Rattle.std.specs.List.{flat_map}
use Rattle.std.specs.Prelude.{List, ℕ}
use Rattle.sd_sid.specs.Sid.{sid_at}
use Rattle.sd_sid.specs.SidText.{alias_of, has_form, letters_read, numbers_read, sid_reads}
use Rattle.sd_sid.specs.declared.sid_text.SidFault.TheVariants as sid
use Rattle.sd_sddl_builder.specs.declared.fault.SddlFault.TheVariants as sddl
use Rattle.sd_sddl_printer.specs.Printed.{trustee_text}
use Rattle.sd_faults.specs.declared.line_fault.LineFault.TheVariants as line
use Rattle.sd_call.specs.Arguments.{optional_sid_in}
use Rattle.sd_call.specs.declared.argument.Argument.TheVariants as which
use Rattle.sd_call.specs.declared.outcome.CallFault.TheVariants as call
use Rattle.sd_call_convert.specs.Sids.{named_in, named_sid, sid_from_text, sid_size_at, sid_to_text}

abbrev administrators : List ℕ
administrators = 1 ∷ 2 ∷ 0 ∷ 0 ∷ 0 ∷ 0 ∷ 0 ∷ 5 ∷ 32 ∷ 0 ∷ 0 ∷ 0 ∷ 32 ∷ 2 ∷ 0 ∷ 0 ∷ []

-- S-1-5-21-1-2-3, and its administrators
abbrev domain : List ℕ
domain = 1 ∷ 4 ∷ 0 ∷ 0 ∷ 0 ∷ 0 ∷ 0 ∷ 5 ∷ 21 ∷ 0 ∷ 0 ∷ 0 ∷ 1 ∷ 0 ∷ 0 ∷ 0 ∷ 2 ∷ 0 ∷ 0 ∷ 0 ∷ 3 ∷ 0 ∷ 0 ∷ 0 ∷ []

abbrev domain_admins : List ℕ
domain_admins =
    1 ∷ 5 ∷ 0 ∷ 0 ∷ 0 ∷ 0 ∷ 0 ∷ 5 ∷ 21 ∷ 0 ∷ 0 ∷ 0 ∷ 1 ∷ 0 ∷ 0 ∷ 0 ∷ 2 ∷ 0 ∷ 0 ∷ 0 ∷ 3 ∷ 0 ∷ 0 ∷ 0
    ∷ 0 ∷ 2 ∷ 0 ∷ 0 ∷ []

-- under a domain the relative alias, and else the numbers, also where numbers alone are asked for under a domain
to_relative_alias : (sid_to_text domain_admins domain false ≡ Ok (codes "DA"))
    × (sid_to_text domain_admins [] false ≡ Ok (codes "S-1-5-21-1-2-3-512"))
    × (sid_to_text domain_admins domain true ≡ Ok (codes "S-1-5-21-1-2-3-512"))
    × (sid_to_text administrators domain true ≡ Ok (codes "S-1-5-32-544"))
unfolding named_in optional_sid_in sid_at alias_of digits trustee_text
to_relative_alias = (refl, refl, refl, refl)

-- S-1-5 and 14 or 15 further numbers, each of which is its place
abbrev numbers : List ℕ → List ℕ
numbers = flat_map (λ n. n ∷ 0 ∷ 0 ∷ 0 ∷ [])

abbrev of_14 : List ℕ
of_14 = 1 ∷ 14 ∷ 0 ∷ 0 ∷ 0 ∷ 0 ∷ 0 ∷ 5 ∷ numbers (1 ∷ 2 ∷ 3 ∷ 4 ∷ 5 ∷ 6 ∷ 7 ∷ 8 ∷ 9 ∷ 10 ∷ 11 ∷ 12 ∷ 13 ∷ 14 ∷ [])

abbrev of_15 : List ℕ
of_15 = 1 ∷ 15 ∷ 0 ∷ 0 ∷ 0 ∷ 0 ∷ 0 ∷ 5 ∷ numbers (1 ∷ 2 ∷ 3 ∷ 4 ∷ 5 ∷ 6 ∷ 7 ∷ 8 ∷ 9 ∷ 10 ∷ 11 ∷ 12 ∷ 13 ∷ 14 ∷ 15 ∷ [])

abbrev admins_of_14 : List ℕ
admins_of_14 = 1 ∷ 15 ∷ 0 ∷ 0 ∷ 0 ∷ 0 ∷ 0 ∷ 5
    ∷ numbers (1 ∷ 2 ∷ 3 ∷ 4 ∷ 5 ∷ 6 ∷ 7 ∷ 8 ∷ 9 ∷ 10 ∷ 11 ∷ 12 ∷ 13 ∷ 14 ∷ []) ++ (0 ∷ 2 ∷ 0 ∷ 0 ∷ [])

-- A domain of 14 sub-authorities has room for one more. One of 15 has none, and counts as no domain.
longest_domains : (sid_from_text (codes "DA") of_14 ≡ Ok admins_of_14)
    × (sid_to_text admins_of_14 of_14 false ≡ Ok (codes "DA"))
    × (sid_from_text (codes "DA") of_15 ≡ Err (call.Line (line.Sddl (sddl.Sid sid.NeedsDomain))))
    × (sid_from_text (codes "BA") of_15 ≡ Ok administrators)
    × (sid_to_text administrators of_15 false ≡ Ok (codes "BA"))
unfolding named_sid named_in sid_reads letters_read optional_sid_in sid_at alias_of trustee_text
longest_domains = (refl, refl, refl, refl, refl)

-- A text with the end of its line is refused.
text_with_its_line_end : (sid_from_text (codes "BA\n") [] ≡ Err (call.Line (line.Sddl (sddl.Sid sid.SidForm))))
    × (sid_from_text (codes "S-1-5-18\n") [] ≡ Err (call.Line (line.Sddl (sddl.Sid sid.SidForm))))
    × (sid_from_text [] [] ≡ Err (call.Line (line.Sddl (sddl.Sid sid.SidForm))))
unfolding named_sid sid_reads has_form optional_sid_in
text_with_its_line_end = (refl, refl, refl)

byte_behind : (sid_to_text (administrators ++ 0 ∷ []) [] false ≡ Err (call.Argument which.Sid 0))
    × (sid_to_text administrators (1 ∷ []) false ≡ Err (call.Argument which.Domain 0))
unfolding named_in optional_sid_in sid_at
byte_behind = (refl, refl)

-- the first of several SIDs, and none that is cut
first_of_two : (sid_size_at (administrators ++ domain) ≡ 16) × (sid_size_at (1 ∷ 1 ∷ []) ≡ 0)
unfolding sid_at
first_of_two = (refl, refl)

sizes : (sid_size_at administrators ≡ 16) × (sid_size_at domain_admins ≡ 28) × (sid_size_at [] ≡ 0)
unfolding sid_at
sizes = (refl, refl, refl)

from_alias_and_more : record {
  from_alias : sid_from_text (codes "BA") [] ≡ Ok administrators;
  from_relative_alias : sid_from_text (codes "da") domain ≡ Ok domain_admins;
  wants_a_domain : sid_from_text (codes "DA") [] ≡ Err (call.Line (line.Sddl (sddl.Sid sid.NeedsDomain)));
  from_numbers : sid_from_text (codes "S-1-5-32-544") [] ≡ Ok administrators;
  -- The domain is looked at before the text.
  wrong_domain : sid_from_text (codes "ZZ") (1 ∷ []) ≡ Err (call.Argument which.Domain 0);
  to_alias : sid_to_text administrators [] false ≡ Ok (codes "BA");
  to_numbers : sid_to_text administrators [] true ≡ Ok (codes "S-1-5-32-544");
  -- The SID is looked at before the domain, and it takes all of its bytes.
  wrong_sid : sid_to_text [] (1 ∷ []) false ≡ Err (call.Argument which.Sid 0);
}
unfolding named_sid sid_reads letters_read optional_sid_in sid_at has_form numbers_read named_in alias_of trustee_text
    digits
from_alias_and_more = search rules
