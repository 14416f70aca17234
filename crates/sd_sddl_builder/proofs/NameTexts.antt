-- Two letters that name a SID everywhere.
use Rattle.std.proofs.Common.{◌≡◌, ◌≤◌, ℕ, true, List, [], ◌∷◌, length, drop, get_or, Option, Some, Ok, refl, arith}
use Rattle.std.specs.Char.{is_ascii_alphabetic}
use Rattle.std.proofs.lemmas.Bool.Decides.{nat_tests}
use Rattle.sd_alias.specs.Names.{known_named, relative_named}
use Rattle.sd_alias.specs.declared.table.DomainRelative.{DomainRelative}
use Rattle.sd_alias.specs.declared.table.WellKnown.{WellKnown}
use Rattle.sd_sid.specs.Sid.{SecurityId}
use Rattle.sd_sid.specs.SidText.{are_letters, is_sid_byte, known_sid, letters_read, name_reads, sid_reads, usable}
use Rattle.sd_sddl_builder.specs.NamedSid.{NameAt}

named-reads : (found : Option WellKnown) (other : Option DomainRelative) (domain : Option SecurityId) (name : WellKnown)
    → found ≡ Some name → name_reads found other domain ≡ Ok (known_sid name)
named-reads found other domain name is = rw is refl

letters-read : (a b : ℕ) (domain : Option SecurityId) (name : WellKnown) → known_named a b ≡ Some name
    → letters_read a b domain ≡ Ok (known_sid name)
unfolding letters_read
letters-read a b domain name is = named-reads (known_named a b) (relative_named a b) (usable domain) name is

two-read : (a b : ℕ) (domain : Option SecurityId) (name : WellKnown) → are_letters (a ∷ b ∷ []) ≡ true
    → known_named a b ≡ Some name
    → sid_reads (a ∷ b ∷ []) domain ≡ Ok (known_sid name)
unfolding sid_reads
two-read a b domain name letters is = rw letters (letters-read a b domain name is)

letter-plain : (b : ℕ) → is_ascii_alphabetic b ≡ true → is_sid_byte b ≡ true
letter-plain b is = grind (arith, nat_tests)

pub name-at : (text : List ℕ) (name : WellKnown) → 2 ≤ length text
    → is_ascii_alphabetic (get_or text 0 0) ≡ true → is_ascii_alphabetic (get_or text 1 0) ≡ true
    → known_named (get_or text 0 0) (get_or text 1 0) ≡ Some name
    → NameAt text name (drop 2 text)
name-at (a ∷ b ∷ rest) name long first second is = record {
  field = a ∷ b ∷ [];
  stands = refl;
  reads = λ domain. two-read a b domain name (rw (first, second) refl) is;
  plain = rw (letter-plain a first, letter-plain b second) refl;
  short = omega arith;
}
name-at (a ∷ []) name long first second is = absurd (omega arith)
name-at [] name long first second is = absurd (omega arith)
