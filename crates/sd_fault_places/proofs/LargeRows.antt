-- A DACL that is too large (MS-DTYP 2.4.5, 2.5.1), counted by hand: its header has 8 bytes, and each of its ACEs 20,
-- for 10 bytes of text. With 3,276 of them it has 65,528 bytes, and with one more 65,548.
use Rattle.std.proofs.Common.{◌≡◌, ◌≤◌, ℕ, zero, suc, ◌+◌, ◌*◌, Bool, true, false, List, [], ◌∷◌, ◌++◌, codes, length}
use Rattle.std.proofs.Common.{Option, Some, None, refl, ap, ◌∙◌, arith}
use Rattle.std.specs.Prelude.{◌&&◌, nat_lt, if◌then◌else◌}
use Rattle.std.specs.List.{list_all}
use Rattle.std.specs.Option.{option_map, option_or}
use Rattle.std.proofs.lemmas.Bool.Decides.{nat_tests}
use Rattle.sd_kinds.specs.Flags.{flags_reads}
use Rattle.sd_kinds.specs.Kinds.{kind_entry, kind_letters, kind_named}
use Rattle.sd_parts.specs.declared.part.Part.TheVariants.{Dacl}
use Rattle.sd_parts.specs.declared.part.Which.TheVariants as which
use Rattle.sd_rights.specs.Rights.{rights_reads}
use Rattle.sd_sid.specs.SidText.{letters_read, sid_reads}
use Rattle.sd_text.specs.Names.{run_of}
use Rattle.sd_sddl_fields.specs.FieldTexts.{front_reads, kind_reads, object_reads}
use Rattle.sd_sddl_builder.specs.Line.{Piece, Sections, ace, byte, are_aces, is_paired, is_shaped}
use Rattle.sd_sddl_builder.specs.Line.{pieces_from, sections, are_shaped, is_acl_body, is_blank_piece, sections_of}
use Rattle.sd_sddl_builder.specs.declared.fault.SddlFault.{SddlFault}
use Rattle.sd_sddl_builder.specs.declared.fault.SddlFault.TheVariants as fault
use Rattle.sd_sddl_builder.specs.declared.slot.Head.TheVariants as head
use Rattle.sd_fault_places.specs.declared.place.FaultPlace.{FaultPlace}
use Rattle.sd_fault_places.specs.Fields.{PlacedAce, PlacedPart, aces_from, fields_in, fields_in_aces, parts_in}
use Rattle.sd_fault_places.specs.Fields.{pieces_size, place, placed}
use Rattle.sd_fault_places.specs.SddlPlaces.{first_faulty, first_large, passing, place_in_parts, place_of_sddl_fault}
use Rattle.sd_fault_places.specs.SddlPlaces.{place_of_shape}

-- the text between the parentheses of an ACE
inside : List ℕ
inside = codes "A;;;;;WD"

-- so many of them, and what they are cut into
aces_text : ℕ → List ℕ
aces_text zero = []
aces_text (suc n) = codes "(A;;;;;WD)" ++ aces_text n

pieces : ℕ → List Piece
pieces zero = []
pieces (suc n) = ace inside ∷ pieces n

dacl_text : ℕ → List ℕ
dacl_text n = codes "D:" ++ aces_text n

-- 1. The one part of the text.

paired : (n : ℕ) → is_paired false (aces_text n) ≡ true
unfolding aces_text
paired zero = refl
paired (suc n) = paired n

cut : (n : ℕ) → (pieces_from false (aces_text n)).after ≡ pieces n
unfolding aces_text pieces inside
cut zero = refl
cut (suc n) = ap (λ (ps : List Piece). ace (codes "A;;;;;WD") ∷ ps) (cut n)

no-heads : (n : ℕ) → sections (pieces n) ≡ record { before = pieces n; parts = [] }
unfolding pieces
no-heads zero = refl
no-heads (suc n) =
    ap (λ (s : Sections). record { before = ace inside ∷ s.before; parts = s.parts }) (no-heads n)

shaped-aces : (n : ℕ) → are_aces (pieces n) ≡ true
unfolding pieces inside
shaped-aces zero = refl
shaped-aces (suc n) = shaped-aces n

parts : ℕ → List PlacedPart
parts n = record { head = head.Acl which.Dacl; at = 0; body = pieces n } ∷ []

cut-parts : (n : ℕ) → sections_of (dacl_text (suc n)) ≡ record {
  before = [];
  parts = record { head = head.Acl which.Dacl; body = pieces (suc n) } ∷ [];
}
unfolding dacl_text pieces
cut-parts n =
    ap (λ (ps : List Piece). sections (byte 68 ∷ byte 58 ∷ ps)) (cut (suc n))
    ∙ ap (λ (s : Sections). record {
      before = [];
      parts = record { head = head.Acl which.Dacl; body = s.before } ∷ s.parts;
    }) (no-heads (suc n))

acl-shaped : (n : ℕ) → (is_acl_body (pieces (suc n)) && true) ≡ true
unfolding pieces
acl-shaped n = ap (λ (b : Bool). b && true) (shaped-aces (suc n))

shaped : (n : ℕ) → is_shaped (dacl_text (suc n)) ≡ true
unfolding dacl_text
shaped n =
    ap (λ (b : Bool). b && (list_all is_blank_piece (sections_of (dacl_text (suc n))).before
    && are_shaped (sections_of (dacl_text (suc n))).parts)) (paired (suc n))
    ∙ ap (λ (s : Sections). list_all is_blank_piece s.before && are_shaped s.parts) (cut-parts n)
    ∙ acl-shaped n

placed-parts : (n : ℕ) → parts_in (dacl_text (suc n)) ≡ parts (suc n)
unfolding parts
placed-parts n = ap (λ (s : Sections). placed (pieces_size s.before) s.parts) (cut-parts n)

-- 2. All of its fields read.

no-faults : (number at n : ℕ) → first_faulty None (fields_in_aces Dacl (aces_from number at (pieces n)) ++ []) ≡ None
unfolding pieces inside kind_entry kind_letters kind_named kind_reads object_reads flags_reads rights_reads run_of
    sid_reads letters_read
no-faults number at zero = refl
no-faults number at (suc n) = no-faults (number + 1) (at + 10) n

none-faulty : (n : ℕ) → first_faulty None (fields_in (parts (suc n))) ≡ None
unfolding parts pieces front_reads
none-faulty n = no-faults 0 2 (suc n)

-- 3. The ACEs before the one with which it is too large.

more : ℕ → List Piece → List Piece
more zero ps = ps
more (suc n) ps = ace inside ∷ more n ps

pieces-more : (j n m : ℕ) → m ≡ j + n → pieces m ≡ more j (pieces n)
unfolding pieces more
pieces-more zero n m e = let same : m ≡ n = omega (arith, e) in ap pieces same
pieces-more (suc j) n m e =
    let next : m ≡ suc (j + n) = omega (arith, e) in
    ap pieces next ∙ ap (λ (ps : List Piece). ace inside ∷ ps) (pieces-more j n (j + n) refl)

passed : (j n number at size number' at' size' : ℕ) → number' ≡ number + j → at' ≡ at + 10 * j → size' ≡ size + 20 * j
    → size' ≤ 65535
    → passing None size (aces_from number at (more j (pieces n)))
    ≡ passing None size' (aces_from number' at' (pieces n))
unfolding more inside kind_entry kind_letters kind_named kind_reads object_reads sid_reads letters_read
passed zero n number at size number' at' size' e f g fits =
    let a : number ≡ number' = omega (arith, e) in
    let b : at ≡ at' = omega (arith, f) in
    let c : size ≡ size' = omega (arith, g) in
    rw (a, b, c) refl
passed (suc j) n number at size number' at' size' e f g fits =
    let small : nat_lt 65535 (size + 20) ≡ false = grind (arith, nat_tests) in
    ap (λ (b : Bool). if b then Some (record { number = number; at = at; text = codes "A;;;;;WD" })
    else passing None (size + 20) (aces_from (number + 1) (at + 10) (more j (pieces n)))) small
    ∙ passed j n (number + 1) (at + 10) (size + 20) number' at' size' (omega (arith, e)) (omega (arith, f))
    (omega (arith, g)) fits

-- 4. The rows.

by-faults : (n : ℕ) → place_in_parts None (parts (suc n)) ≡ first_large None (parts (suc n))
unfolding parts
by-faults n =
    ap (λ (o : Option (SddlFault × FaultPlace)). option_or o (first_large None (parts (suc n)))) (none-faulty n)

in-parts : (n : ℕ) → place_of_sddl_fault (dacl_text (suc n)) None ≡ first_large None (parts (suc n))
in-parts n =
    ap (λ (b : Bool). if b then place_in_parts None (parts_in (dacl_text (suc n)))
    else Some (fault.Shape, place_of_shape (dacl_text (suc n)))) (shaped n)
    ∙ ap (place_in_parts None) (placed-parts n)
    ∙ by-faults n

found : Option PlacedAce → Option (SddlFault × FaultPlace)
found o =
    option_or (option_map (λ a. (
      fault.AclTooLarge which.Dacl,
      place (Some Dacl) (Some a.number) None a.at (length a.text + 2),
    )) o) None

-- what 3,276 ACEs leave of a text that may have others behind them
behind-them : (n m : ℕ) → m ≡ 3276 + n
    → passing None 8 (aces_from 0 2 (pieces m)) ≡ passing None 65528 (aces_from 3276 32762 (pieces n))
behind-them n m e =
    ap (λ (ps : List Piece). passing None 8 (aces_from 0 2 ps)) (pieces-more 3276 n m e)
    ∙ passed 3276 n 0 2 8 3276 32762 65528 (omega arith) (omega arith) (omega arith) (omega arith)

-- 3,276 ACEs fit
fits : place_of_sddl_fault (dacl_text 3276) None ≡ None
unfolding parts found pieces
fits = in-parts 3275 ∙ ap found (behind-them 0 3276 refl)

-- the next one is too many, whatever number of them follows it
too_large : (n : ℕ) → place_of_sddl_fault (dacl_text (suc (3276 + n))) None
    ≡ Some (fault.AclTooLarge which.Dacl, place (Some Dacl) (Some 3276) None 32762 10)
unfolding parts found pieces inside kind_entry kind_letters kind_named kind_reads object_reads sid_reads letters_read
too_large n =
    let same : suc (3276 + n) ≡ 3276 + suc n = omega arith in
    in-parts (3276 + n) ∙ ap found (behind-them (suc n) (suc (3276 + n)) same)
