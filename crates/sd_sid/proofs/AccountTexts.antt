-- The text of an account's SID, from the numbers in it.
use Rattle.std.proofs.Common.{◌≡◌, ◌≤◌, ℕ, Bool, true, false, ◌&&◌, List, [], ◌∷◌, ◌++◌, length, drop}
use Rattle.std.proofs.Common.{Option, Some, Ok, Err, slice_index, refl, ap, sym, ◌∙◌, arith, append-nil, append_assoc}
use Rattle.std.proofs.Common.{length-append, ◌+◌, ◌-◌, ◌⊎◌, inl, inr, take, subst}
use Rattle.std.proofs.Math.Seq.{take-append_seam}
use Rattle.std.specs.Prelude.{◌==◌, nat_le, nat_lt, if◌then◌else◌}
use Rattle.std.specs.Char.{is_digit, to_ascii_uppercase}
use Rattle.std.specs.List.{list_all}
use Rattle.std.proofs.lemmas.Bool.{and_parts}
use Rattle.std.proofs.lemmas.Bool.Decides.{nat_tests}
use Rattle.sd_text.specs.Cuts.{all_cuts, with_byte}
use Rattle.sd_sid.specs.Sid.{SecurityId}
use Rattle.sd_sid.specs.SidText.{are_letters, are_numbers, begins_with_s1, cut_at_dashes, decimal_reads, has_form}
use Rattle.sd_sid.specs.SidText.{is_decimal, is_sid_byte, letters_read, numbers_read, or_number_fault, sid_reads}
use Rattle.sd_sid.specs.declared.sid_text.SidFault.TheVariants as faults
use Rattle.sd_sid.specs.declared.account.Account.{Account}
use Rattle.sd_sid.specs.Account.{AccountAt, account_sid}
use Rattle.sd_sid.specs.Inner.Read.{NumberAt}
use Rattle.sd_sid.specs.KeptDomain.{IsDomainText}
use Rattle.sd_sid.proofs.laws.TextLaws.{cut-digits, digit_byte, digits_16, joined_bytes, list_all-more}

decimal-digits : (ds : List ℕ) → is_decimal ds ≡ true → list_all (λ b. is_digit b 10) ds ≡ true
decimal-digits ds e = (and_parts (nat_lt 0 (length ds)) _ e).1

cut-last : (ds : List ℕ) → is_decimal ds ≡ true → cut_at_dashes ds ≡ record { first = ds; others = [] }
cut-last ds e =
    ap cut_at_dashes (sym (append-nil ds)) ∙ cut-digits 10 ds [] (omega arith) (decimal-digits ds e)
    ∙ ap (λ (t : List ℕ). record { first = t; others = [] }) (append-nil ds)

cut-more : (ds rest : List ℕ) → is_decimal ds ≡ true
    → cut_at_dashes (ds ++ 45 ∷ rest) ≡ record { first = ds; others = all_cuts (cut_at_dashes rest) }
cut-more ds rest e =
    cut-digits 10 ds (45 ∷ rest) (omega arith) (decimal-digits ds e)
    ∙ ap (λ (t : List ℕ). record { first = t; others = all_cuts (cut_at_dashes rest) }) (append-nil ds)

decimal-bytes : (ds : List ℕ) → is_decimal ds ≡ true → list_all is_sid_byte ds ≡ true
decimal-bytes ds e = list_all-more (λ b. is_digit b 10) is_sid_byte (λ c e. digit_byte c (digits_16 c e)) ds
    (decimal-digits ds e)

more-bytes : (ds rest : List ℕ) → is_decimal ds ≡ true → list_all is_sid_byte rest ≡ true
    → list_all is_sid_byte (ds ++ 45 ∷ rest) ≡ true
more-bytes ds rest e f = joined_bytes ds (45 ∷ rest) (decimal-bytes ds e) f

-- The S at the front of a SID may be small.
abbrev pub IsS : ℕ → Type 0
IsS letter = (letter ≡ 83) ⊎ (letter ≡ 115)

s-upper : (letter : ℕ) → IsS letter → to_ascii_uppercase letter ≡ 83
s-upper letter is_s = elim is_s [ inl e ↦ rw e refl | inr e ↦ rw e refl ]

s-byte : (letter : ℕ) → IsS letter → is_sid_byte letter ≡ true
s-byte letter is_s = elim is_s [ inl e ↦ rw e refl | inr e ↦ rw e refl ]

module _ (letter : ℕ) (is_s : IsS letter) (c d e f : List ℕ) (is_c : is_decimal c ≡ true) (is_d : is_decimal d ≡ true)
    (is_e : is_decimal e ≡ true) (is_f : is_decimal f ≡ true) where
  numbers_text : List ℕ
  numbers_text = c ++ 45 ∷ (d ++ 45 ∷ (e ++ 45 ∷ f))

  cut-numbers : cut_at_dashes numbers_text ≡ record { first = c; others = d ∷ e ∷ f ∷ [] }
  unfolding numbers_text
  cut-numbers =
      cut-more c (d ++ 45 ∷ (e ++ 45 ∷ f)) is_c
      ∙ rw (cut-more d (e ++ 45 ∷ f) is_d, cut-more e f is_e, cut-last f is_f) refl

  numbers-bytes : list_all is_sid_byte numbers_text ≡ true
  unfolding numbers_text
  numbers-bytes = more-bytes c _ is_c (more-bytes d _ is_d (more-bytes e f is_e (decimal-bytes f is_f)))

  length-numbers : length c ≤ 10 → length d ≤ 10 → length e ≤ 10 → length f ≤ 10 → length numbers_text ≤ 43
  unfolding numbers_text
  length-numbers c10 d10 e10 f10 =
      let p = length-append c (45 ∷ (d ++ 45 ∷ (e ++ 45 ∷ f))) in
      let q = length-append d (45 ∷ (e ++ 45 ∷ f)) in
      let r = length-append e (45 ∷ f) in
      omega arith

  -- S-1-5-21- with either S, and the numbers
  account_text : List ℕ
  account_text = letter ∷ 45 ∷ 49 ∷ 45 ∷ 53 ∷ 45 ∷ 50 ∷ 49 ∷ 45 ∷ numbers_text

  no-letters : are_letters account_text ≡ false
  unfolding account_text
  no-letters = let no : (length account_text == 2) ≡ false = grind (arith, nat_tests) in rw no refl

  cut-account : cut_at_dashes (drop 4 account_text)
      ≡ record { first = 53 ∷ []; others = (50 ∷ 49 ∷ []) ∷ c ∷ d ∷ e ∷ f ∷ [] }
  unfolding account_text
  cut-account = ap (λ p. with_byte 45 53 (with_byte 45 45 (with_byte 45 50 (with_byte 45 49 (with_byte 45 45 p)))))
      cut-numbers

  account-form : length account_text ≤ 183 → has_form account_text ≡ true
  unfolding account_text has_form
  account-form short =
      let fits : nat_le (length account_text) 183 ≡ true = grind (arith, nat_tests) in
      ap (λ (b : Bool). b && begins_with_s1 account_text && are_numbers (cut_at_dashes (drop 4 account_text))) fits
      ∙ ap (λ (u : ℕ). u == 83 && true && true && true && are_numbers (cut_at_dashes (drop 4 account_text)))
      (s-upper letter is_s)
      ∙ ap are_numbers cut-account
      ∙ rw (is_c, is_d, is_e, is_f) refl

  account-numbers : (k l m n : ℕ) → decimal_reads c ≡ Some k → decimal_reads d ≡ Some l → decimal_reads e ≡ Some m
      → decimal_reads f ≡ Some n
      → numbers_read (cut_at_dashes (drop 4 account_text))
      ≡ Some (record { authority = 5; subs = 21 ∷ k ∷ l ∷ m ∷ n ∷ [] })
  unfolding numbers_read
  account-numbers k l m n k_is l_is m_is n_is = ap numbers_read cut-account ∙ rw (k_is, l_is, m_is, n_is) refl

  account-reads : (s : SecurityId) → length account_text ≤ 183
      → numbers_read (cut_at_dashes (drop 4 account_text)) ≡ Some s → (domain : Option SecurityId)
      → sid_reads account_text domain ≡ Ok s
  unfolding sid_reads
  account-reads s short read domain =
      ap (λ (b : Bool). if b then letters_read (slice_index account_text 0) (slice_index account_text 1)
      domain else (if has_form account_text then or_number_fault
      (numbers_read (cut_at_dashes (drop 4 account_text))) else Err faults.SidForm)) no-letters
      ∙ ap (λ (b : Bool). if b then or_number_fault (numbers_read (cut_at_dashes (drop 4 account_text))) else Err
      faults.SidForm) (account-form short)
      ∙ ap or_number_fault read

  account-bytes : list_all is_sid_byte account_text ≡ true
  unfolding account_text
  account-bytes = ap (λ (b : Bool). b && list_all is_sid_byte numbers_text) (s-byte letter is_s) ∙ numbers-bytes

-- the texts of the four numbers one after the other
pub account-at : (letter : ℕ) → IsS letter → (text p q r s rest : List ℕ) (a : Account)
    → text ≡ letter ∷ 45 ∷ 49 ∷ 45 ∷ 53 ∷ 45 ∷ 50 ∷ 49 ∷ 45 ∷ p
    → NumberAt p a.first (45 ∷ q) → NumberAt q a.second (45 ∷ r) → NumberAt r a.third (45 ∷ s)
    → NumberAt s a.last rest
    → AccountAt text a rest
unfolding account_text numbers_text
account-at letter is_s text p q r s rest a stands k l m n =
    let count = length-numbers letter is_s k.digits l.digits m.digits n.digits k.form l.form m.form n.form
    k.few l.few m.few n.few in
    let short : length (account_text letter is_s k.digits l.digits m.digits n.digits k.form l.form m.form n.form) ≤ 52 =
    omega (arith, count) in
    record {
      field = account_text letter is_s k.digits l.digits m.digits n.digits k.form l.form m.form n.form;
      stands =
          let last : k.digits ++ 45 ∷ (l.digits ++ 45 ∷ (m.digits ++ 45 ∷ (n.digits ++ rest)))
          ≡ numbers_text letter is_s k.digits l.digits m.digits n.digits k.form l.form m.form n.form ++ rest =
          sym (append_assoc k.digits (45 ∷ (l.digits ++ 45 ∷ (m.digits ++ 45 ∷ n.digits))) rest
          ∙ ap (λ (t : List ℕ). k.digits ++ 45 ∷ t)
          (append_assoc l.digits (45 ∷ (m.digits ++ 45 ∷ n.digits)) rest
          ∙ ap (λ (t : List ℕ). l.digits ++ 45 ∷ t) (append_assoc m.digits (45 ∷ n.digits) rest))) in
          stands ∙ ap (λ (t : List ℕ). letter ∷ 45 ∷ 49 ∷ 45 ∷ 53 ∷ 45 ∷ 50 ∷ 49 ∷ 45 ∷ t)
          (k.stands ∙ ap (λ (t : List ℕ). k.digits ++ 45 ∷ t) (l.stands ∙ ap (λ (t : List ℕ). l.digits ++ 45 ∷ t)
          (m.stands ∙ ap (λ (t : List ℕ). m.digits ++ 45 ∷ t) n.stands)) ∙ last);
      reads = account-reads letter is_s k.digits l.digits m.digits n.digits k.form l.form m.form n.form (account_sid a)
          (omega (arith, short))
          (account-numbers letter is_s k.digits l.digits m.digits n.digits k.form l.form m.form n.form
          a.first a.second a.third a.last k.reads l.reads m.reads n.reads);
      plain = account-bytes letter is_s k.digits l.digits m.digits n.digits k.form l.form m.form n.form;
      short = short;
    }

-- the texts of the first three numbers, and the dash behind each, are the text of the domain
pub domain-text : (letter : ℕ) → IsS letter → (text p q r s : List ℕ) (a : Account)
    → text ≡ letter ∷ 45 ∷ 49 ∷ 45 ∷ 53 ∷ 45 ∷ 50 ∷ 49 ∷ 45 ∷ p
    → NumberAt p a.first (45 ∷ q) → NumberAt q a.second (45 ∷ r) → NumberAt r a.third (45 ∷ s)
    → IsDomainText (take (length text - length s) text) a
domain-text letter is_s text p q r s a stands k l m =
    let inner : List ℕ = k.digits ++ 45 ∷ (l.digits ++ 45 ∷ (m.digits ++ 45 ∷ [])) in
    let front : List ℕ = letter ∷ 45 ∷ 49 ∷ 45 ∷ 53 ∷ 45 ∷ 50 ∷ 49 ∷ 45 ∷ inner in
    let behind : (t : List ℕ)
    → inner ++ t ≡ k.digits ++ 45 ∷ (l.digits ++ 45 ∷ (m.digits ++ 45 ∷ t)) =
    λ t. append_assoc k.digits (45 ∷ (l.digits ++ 45 ∷ (m.digits ++ 45 ∷ []))) t
    ∙ ap (λ (u : List ℕ). k.digits ++ 45 ∷ u)
    (append_assoc l.digits (45 ∷ (m.digits ++ 45 ∷ [])) t
    ∙ ap (λ (u : List ℕ). l.digits ++ 45 ∷ u) (append_assoc m.digits (45 ∷ []) t)) in
    let is : text ≡ front ++ s =
    stands ∙ ap (λ (t : List ℕ). letter ∷ 45 ∷ 49 ∷ 45 ∷ 53 ∷ 45 ∷ 50 ∷ 49 ∷ 45 ∷ t)
    (k.stands ∙ ap (λ (t : List ℕ). k.digits ++ 45 ∷ t) (l.stands ∙ ap (λ (t : List ℕ). l.digits ++ 45 ∷ t) m.stands)
    ∙ sym (behind s)) in
    let sizes : length text ≡ length front + length s = ap length is ∙ length-append front s in
    let same : length text - length s ≡ length front = omega (arith, sizes) in
    let text-is : take (length text - length s) text ≡ front =
    ap (λ (n : ℕ). take n text) same ∙ ap (λ (t : List ℕ). take (length front) t) is ∙ take-append_seam front s in
    let one = length-append k.digits (45 ∷ (l.digits ++ 45 ∷ (m.digits ++ 45 ∷ []))) in
    let two = length-append l.digits (45 ∷ (m.digits ++ 45 ∷ [])) in
    let three = length-append m.digits (45 ∷ []) in
    subst (λ (t : List ℕ). IsDomainText t a) (sym text-is) (record {
      short = omega (arith, one, two, three, k.few, l.few, m.few);
      reads = λ own rest n h.
          account-at letter is_s (front ++ own) (k.digits ++ 45 ∷ (l.digits ++ 45 ∷ (m.digits ++ 45 ∷ own)))
          (l.digits ++ 45 ∷ (m.digits ++ 45 ∷ own)) (m.digits ++ 45 ∷ own) own rest (record a { last = n })
          (ap (λ (t : List ℕ). letter ∷ 45 ∷ 49 ∷ 45 ∷ 53 ∷ 45 ∷ 50 ∷ 49 ∷ 45 ∷ t) (behind own))
          (record { digits = k.digits; stands = refl; form = k.form; reads = k.reads; few = k.few })
          (record { digits = l.digits; stands = refl; form = l.form; reads = l.reads; few = l.few })
          (record { digits = m.digits; stands = refl; form = m.form; reads = m.reads; few = m.few })
          h;
    })
