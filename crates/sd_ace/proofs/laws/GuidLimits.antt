-- What a GUID's text reads as keeps the limits of a GUID.
use Rattle.std.proofs.Common.{◌≡◌, ◌<◌, ℕ, zero, suc, ◌+◌, ◌*◌, Bool, true, false, ◌&&◌, List, [], ◌∷◌, length}
use Rattle.std.proofs.Common.{slice_index, Some, None, IfSome, refl, arith, eqb-true}
use Rattle.std.specs.Prelude.{◌==◌, if◌then◌else◌}
use Rattle.std.specs.List.{list_all}
use Rattle.std.proofs.lemmas.Bool.Decides.{nat_tests}
use Rattle.std.proofs.lemmas.List.Elements.{All-from_get_or}
use Rattle.uuid.specs.Text.{by_index, byte_of_digits, digits_of, has_hyphens, is_hex_digit, parsed_simple, value_of}
use Rattle.uuid.proofs.TextLemmas.{by_index_at, by_index_length}
use Rattle.sd_ace.specs.Ace.{IsGuid}
use Rattle.sd_ace.specs.GuidText.{guid_reads}
use Rattle.std.proofs.lemmas.Bool.{and_parts}
use Rattle.sd_text.proofs.laws.Options.{some-is}

hex-value : (c : ℕ) → is_hex_digit c ≡ true → value_of c < 16
hex-value c h = grind (arith, nat_tests)

digit-at : (hex : List ℕ) (k : ℕ) → k < length hex → list_all is_hex_digit hex ≡ true
    → is_hex_digit (slice_index hex k) ≡ true
digit-at [] k within e = absurd (omega arith)
digit-at (c ∷ cs) zero within e = (and_parts (is_hex_digit c) _ e).0
digit-at (c ∷ cs) (suc k) within e = digit-at cs k (omega arith) (and_parts (is_hex_digit c) _ e).1

byte-limit : (hex : List ℕ) (j : ℕ) → length hex ≡ 32 → list_all is_hex_digit hex ≡ true → j < 16
    → byte_of_digits hex j < 256
byte-limit hex j size e within =
    let high = hex-value (slice_index hex (2 * j)) (digit-at hex (2 * j) (omega arith) e) in
    let low = hex-value (slice_index hex (2 * j + 1)) (digit-at hex (2 * j + 1) (omega arith) e) in
    omega arith

simple-limits : (hex : List ℕ) → IfSome (parsed_simple hex) IsGuid
simple-limits hex = by_test (length hex == 32) refl (list_all is_hex_digit hex) refl
  where
    guid : length hex ≡ 32 → list_all is_hex_digit hex ≡ true → IsGuid (by_index 16 (byte_of_digits hex))
    guid size e =
        let long = by_index_length 16 (byte_of_digits hex) in
        record {
          size = long;
          bytes = All-from_get_or (λ b. b < 256) (by_index 16 (byte_of_digits hex)) 0
              (λ i within. rw (by_index_at 16 (byte_of_digits hex) i 0 (omega arith))
              (byte-limit hex i size e (omega arith)));
        }

    by_test : (s : Bool) → (length hex == 32) ≡ s → (d : Bool) → list_all is_hex_digit hex ≡ d
        → IfSome (if s && d then Some (by_index 16 (byte_of_digits hex)) else None) IsGuid
    by_test true f true e = guid (eqb-true _ 32 f) e
    by_test true f false e = tt
    by_test false f d e = tt

pub guid-limits : (text guid : List ℕ) → guid_reads text ≡ Some guid → IsGuid guid
unfolding guid_reads
guid-limits text guid e = some-is IsGuid _ guid (by_test (length text == 36) (has_hyphens text)) e
  where
    by_test : (s h : Bool) → IfSome (if s && h then parsed_simple (digits_of text) else None) IsGuid
    by_test true true = simple-limits (digits_of text)
    by_test true false = tt
    by_test false h = tt
