-- Sentences are short, and what a condition leaves of their texts.
use Rattle.std.proofs.Common.{◌≡◌, ◌≤◌, ◌∙◌, ℕ, ◌+◌, List, [], ◌++◌, codes, length, nat_lt, if◌then◌else◌, Option, Some}
use Rattle.std.proofs.Common.{ap, sym, arith, length-append}
use Rattle.std.proofs.lemmas.Bool.{eq-eqb, le-ltb, ne_eqb}
use Rattle.std.specs.Fmt.{decimal}
use Rattle.sd_text.specs.Limits.{most_sddl_text}
use Rattle.sd_parts.specs.declared.part.Part.{Part}
use Rattle.sd_call_convert.specs.Described.{holder_text, part_words, place_text, place_text_of}
use Rattle.sd_call_convert.specs.declared.told.PlaceTold.{PlaceTold}

pub two-short : (a b : List ℕ) (i j : ℕ) → length a ≤ i → length b ≤ j → length (a ++ b) ≤ i + j
two-short a b i j ha hb = omega (arith, ha, hb, length-append a b)

pub four-short : (a b c d : List ℕ) (i j k l : ℕ) → length a ≤ i → length b ≤ j → length c ≤ k → length d ≤ l
    → length (a ++ b ++ c ++ d) ≤ i + j + k + l
four-short a b c d i j k l ha hb hc hd =
    omega (arith, ha, hb, hc, hd, length-append a b, length-append (a ++ b) c, length-append (a ++ b ++ c) d)

pub line-short : (a b c d e f g h : List ℕ) → length a ≤ 6 → length b ≤ 10 → length c ≤ 1 → length d ≤ 17
    → length e ≤ 6 → length f ≤ 6 → length g ≤ 2 → length h ≤ 174
    → length (a ++ b ++ c ++ d ++ e ++ f ++ g ++ h) ≤ 222
line-short a b c d e f g h ha hb hc hd he hf hg hh =
    let front = four-short a b c d 6 10 1 17 ha hb hc hd in
    let ae = length-append (a ++ b ++ c ++ d) e in
    let af = length-append (a ++ b ++ c ++ d ++ e) f in
    let ag = length-append (a ++ b ++ c ++ d ++ e ++ f) g in
    let all = length-append (a ++ b ++ c ++ d ++ e ++ f ++ g) h in
    omega (arith, front, he, hf, hg, hh, ae, af, ag, all)

pub sentence-short : (a b c : List ℕ) → length a ≤ 16 → length b ≤ 222 → length c ≤ 72 → length (a ++ b ++ c) ≤ 512
sentence-short a b c ha hb hc = omega (arith, ha, hb, hc, length-append a b, length-append (a ++ b) c)

-- a part with no ACE
pub of-part : (o : Option Part) (p : Part) (ace : ℕ) → o ≡ Some p → ace ≡ 0xffff_ffff
    → (codes ", " ++ part_words p) ≡ holder_text o ace
of-part o p ace is none =
    ap (λ b. if b then codes ", " ++ part_words p else codes ", ACE " ++ decimal (ace + 1) ++ codes " of "
    ++ part_words p)
    (sym (eq-eqb ace 0xffff_ffff none))
    ∙ ap (λ w. holder_text w ace) (sym is)

-- an ACE of a part
pub of-ace : (o : Option Part) (p : Part) (ace : ℕ) → o ≡ Some p → (ace ≡ 0xffff_ffff → ⊥)
    → (codes ", ACE " ++ decimal (ace + 1) ++ codes " of " ++ part_words p) ≡ holder_text o ace
of-ace o p ace is some =
    ap (λ b. if b then codes ", " ++ part_words p else codes ", ACE " ++ decimal (ace + 1) ++ codes " of "
    ++ part_words p)
    (sym (ne_eqb ace 0xffff_ffff some))
    ∙ ap (λ w. holder_text w ace) (sym is)

-- the place of this fault, in a text
pub counts : (number : ℕ) (place : PlaceTold) → place.fault ≡ number → place.place.offset ≤ most_sddl_text
    → place_text place ≡ place_text_of number place
counts number place same within =
    ap (λ b. if b then [] else place_text place) (sym (le-ltb most_sddl_text place.place.offset within))
    ∙ ap (λ b. if b then (if nat_lt most_sddl_text place.place.offset then [] else place_text place) else [])
    (sym (eq-eqb place.fault number same))
