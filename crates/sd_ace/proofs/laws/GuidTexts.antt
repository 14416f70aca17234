-- The text of a GUID has 36 characters and reads back, and at 36 characters alone a text reads as uuid parses it.
use Rattle.std.proofs.Common.{◌≡◌, ℕ, List, length, Bool, true, false, refl, sym, inl, ne_eqb, arith}
use Rattle.std.specs.Prelude.{Option, Some, None, Result, Ok, Err, IsOk, IfOk, ◌↔◌, ◌==◌, ◌&&◌, if◌then◌else◌}
use Rattle.std.specs.Result.{result_ok}
use Rattle.std.proofs.lemmas.Bool.Decides.{nat_tests}
use Rattle.uuid.specs.Text.{parsed, parsed_hyphenated, parsed_simple, digits_of, has_hyphens, lower}
use Rattle.uuid.specs.declared.error.Error.{Error}
use Rattle.uuid.proofs.RoundTrips.{parses_hyphenated_text}
use Rattle.uuid.proofs.TextLemmas.{by_index_length}
use Rattle.sd_ace.specs.Ace.{IsGuid}
use Rattle.sd_ace.specs.GuidText.{guid_reads, guid_text}

pub guid_text-length : (g : List ℕ) → length (guid_text g) ≡ 36
unfolding guid_text
guid_text-length g = by_index_length 36 _

-- a GUID's text reads as the GUID
pub guid_text-reads : (g : List ℕ) → IsGuid g → guid_reads (guid_text g) ≡ Some g
unfolding guid_reads guid_text
guid_text-reads g h = sym (parses_hyphenated_text lower g (inl refl) h.size h.bytes)

second : (a b : Bool) (o p q : Option (List ℕ)) → a ≡ false → b ≡ true → p ≡ (if a then o else if b then p else q)
second true b o p q e f = absurd cc
second false true o p q e f = refl
second false false o p q e f = absurd cc

pub guid_reads_parsed : (t : List ℕ) → length t ≡ 36 → guid_reads t ≡ parsed t
unfolding guid_reads
guid_reads_parsed t e = second (length t == 32) (length t == 36) _ (parsed_hyphenated t) _ (grind (arith, nat_tests))
    (grind (arith, nat_tests))

none : (a b : Bool) (o : Option (List ℕ)) → a ≡ false → None ≡ (if a && b then o else None)
none true b o e = absurd cc
none false b o e = refl

pub other_length : (t : List ℕ) → (length t ≡ 36 → ⊥) → None ≡ guid_reads t
unfolding guid_reads
other_length t h = none (length t == 36) (has_hyphens t) (parsed_simple (digits_of t)) (ne_eqb (length t) 36 h)

-- what a parser answers that is Ok exactly where there is a value, and then has it
pub ok_is : (r : Result (List ℕ) Error) (o : Option (List ℕ)) → (IsOk r ↔ ((u : _) × (o ≡ Some u)))
    → IfOk r (λ u. Some u ≡ o) → result_ok r ≡ o
ok_is (Ok u) o ok bytes = bytes
ok_is (Err e) None ok bytes = refl
ok_is (Err e) (Some u) ok bytes = let t = ok.1 (u, refl) in absurd cc
