-- Where a run of bytes of one kind ends: there is one place.
use Rattle.std.proofs.Common.{◌≡◌, ◌<◌, ◌≤◌, ℕ, zero, suc, ◌+◌, Bool, true, false, List, [], ◌∷◌, ◌++◌, length, take}
use Rattle.std.proofs.Common.{get_or, refl, sym, ap, eqb-true, ◌∙◌, arith, true≢false, append_assoc, length-append}
use Rattle.std.proofs.Common.{Some, None}
use Rattle.std.specs.Prelude.{◌==◌}
use Rattle.std.specs.List.{list_all}
use Rattle.std.proofs.lemmas.Bool.{and_parts}
use Rattle.std.proofs.lemmas.List.Folds.{list_all-append}
use Rattle.sd_sddl_builder.specs.Line.{head_of}
use Rattle.sd_sddl_builder.specs.declared.slot.Head.{Head}
use Rattle.sd_sddl_fields.specs.Held.{is_plain_text}

-- before another byte stand exactly those up to which all are of the kind, if no fewer are taken
pub run-ends : (p : ℕ → Bool) (front rest : List ℕ) (c n : ℕ) → list_all p front ≡ true → p c ≡ false
    → n ≤ length (front ++ c ∷ rest) → list_all p (take n (front ++ c ∷ rest)) ≡ true
    → (n < length front → p (get_or (front ++ c ∷ rest) n 0) ≡ false) → n ≡ length front
run-ends p [] rest c zero all other within taken ends = refl
run-ends p [] rest c (suc n) all other within taken ends =
    absurd (true≢false (sym (and_parts (p c) _ taken).0 ∙ other))
run-ends p (b ∷ bs) rest c zero all other within taken ends =
    absurd (true≢false (sym (and_parts (p b) _ all).0 ∙ ends (omega arith)))
run-ends p (b ∷ bs) rest c (suc n) all other within taken ends =
    let more = run-ends p bs rest c n (and_parts (p b) _ all).1 other (omega arith) (and_parts (p b) _ taken).1
    (λ h. ends (omega arith)) in
    omega (arith, more)

-- the same where a text stands so
pub run-at : (p : ℕ → Bool) (text front rest : List ℕ) (c n : ℕ) → text ≡ front ++ c ∷ rest → list_all p front ≡ true
    → p c ≡ false → n ≤ length text → list_all p (take n text) ≡ true
    → (n < length front → p (get_or text n 0) ≡ false) → n ≡ length front
run-at p text front rest c n stands all other within taken ends =
    run-ends p front rest c n all other (rw stands at within) (rw stands at taken) (rw stands at ends)

-- a byte that is no letter of a head is another one
other : (b k : ℕ) (head : Head) → head_of b ≡ Some head → head_of k ≡ None → (b == k) ≡ false
other b k head e none = by_test (b == k) refl
  where
    by_test : (x : Bool) → (b == k) ≡ x → x ≡ false
    by_test true f = let same : Some head ≡ None = sym e ∙ ap head_of (eqb-true b k f) ∙ none in absurd cc
    by_test false f = refl

-- a letter of a head is none of the bytes that end a text
letter-plain : (b : ℕ) (head : Head) → head_of b ≡ Some head → is_plain_text b ≡ true
letter-plain b head e =
    let opens : (b == 40) ≡ false = other b 40 head e refl in
    let closes : (b == 41) ≡ false = other b 41 head e refl in
    let semicolon : (b == 59) ≡ false = other b 59 head e refl in
    let colon : (b == 58) ≡ false = other b 58 head e refl in
    let space : (b == 32) ≡ false = other b 32 head e refl in
    let tab : (b == 9) ≡ false = other b 9 head e refl in
    rw (opens, closes, semicolon, colon, space, tab) refl

-- a byte behind a text
pub byte-behind : (xs ys : List ℕ) (n i : ℕ) → n ≡ length xs + i → get_or (xs ++ ys) n 0 ≡ get_or ys i 0
byte-behind [] ys n i e = let same : n ≡ i = omega (arith, e) in ap (λ k. get_or ys k 0) same
byte-behind (x ∷ xs) ys zero i e = absurd (omega (arith, e))
byte-behind (x ∷ xs) ys (suc n) i e = byte-behind xs ys n i (omega (arith, e))

-- a head behind such a text ends one byte behind it
pub head-at : (text field rest : List ℕ) (letter n : ℕ) (head : Head) → text ≡ field ++ letter ∷ 58 ∷ rest
    → list_all is_plain_text field ≡ true → head_of letter ≡ Some head → n ≤ length text
    → list_all is_plain_text (take n text) ≡ true
    → (n < length field + 1 → is_plain_text (get_or text n 0) ≡ false) → n ≡ length field + 1
head-at text field rest letter n head stands all names within taken ends =
    let whole : list_all is_plain_text (field ++ letter ∷ []) ≡ true =
    rw (list_all-append is_plain_text field (letter ∷ []), all, letter-plain letter head names) refl in
    run-at is_plain_text text (field ++ letter ∷ []) rest 58 n
    (stands ∙ sym (append_assoc field (letter ∷ []) (58 ∷ rest))) whole refl within taken
    (λ h. ends (omega (arith, h, length-append field (letter ∷ []))))
    ∙ length-append field (letter ∷ [])
