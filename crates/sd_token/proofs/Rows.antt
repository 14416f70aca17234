-- Whom a token meets, and how many entries it has at most.
use Rattle.std.proofs.Common.{◌≡◌, ℕ, List, [], ◌∷◌, ◌++◌, None, true, false, refl, arith, replicate, rules}
use Rattle.sd_token.specs.Limits.{most_entries}
use Rattle.sd_token.specs.declared.limits.TheConstants.{MOST_ENTRIES}
use Rattle.sd_sid.specs.Sid.{SecurityId}
use Rattle.sd_sid.proofs.laws.Everyone.{everyone}
use Rattle.sd_token.specs.Token.{Asks, Compares, Entry, TokenShown, counted_by, looks, meets, searched}
use Rattle.sd_token.specs.TokenWords.{entries_of, entry_of, nobody, sid_key}
use Rattle.sd_token.specs.declared.token.EntryKind.TheVariants.{Enabled, DenyOnly}

administrators : SecurityId
administrators = record { authority = 5; subs = 32 ∷ 544 ∷ [] }

many : ℕ → List Entry
many n = replicate n (administrators, Enabled)

most : (most_entries ≡ 1024) × (MOST_ENTRIES ≡ 1024)
most = (refl, refl)

enabled_allows_and_more : record {
  enabled_allows : meets everyone false ((everyone, Enabled) ∷ []) ≡ true;
  deny_only_denies : meets everyone true ((everyone, DenyOnly) ∷ []) ≡ true;
  deny_only_does_not_allow : meets everyone false ((everyone, DenyOnly) ∷ []) ≡ false;
  -- a SID that stands both ways counts as enabled
  both_ways : meets everyone false ((everyone, DenyOnly) ∷ (everyone, Enabled) ∷ []) ≡ true;
  another : meets everyone true ((administrators, Enabled) ∷ []) ≡ false;
  other_authority : meets (record { authority = 2; subs = 0 ∷ [] }) true ((everyone, Enabled) ∷ []) ≡ false;
}
unfolding everyone administrators
enabled_allows_and_more = search rules

-- what is counted: three comparisons at most, and none

shown : ℕ → TokenShown
shown compared = record {
  holder = record { entries = (everyone, Enabled) ∷ (administrators, DenyOnly) ∷ []; level = None };
  compared = compared;
  room = 2;
}

three_of_three : Compares (shown 5) (shown 8) 3
unfolding shown
three_of_three = record { goes_on = omega arith; at_most = omega arith }

none_of_none : Compares (shown 5) (shown 5) 0
unfolding shown
none_of_none = record { goes_on = omega arith; at_most = omega arith }

four_of_three : Compares (shown 5) (shown 9) 3 → ⊥
unfolding shown
four_of_three h = let more = h.at_most in omega arith

counts_back : Compares (shown 5) (shown 4) 3 → ⊥
unfolding shown
counts_back h = let less = h.goes_on in omega arith

-- two entries, each of them looked at twice

twice : Asks (shown 0) (shown 4) 2
unfolding shown
twice = record { holder = refl; compared = record { goes_on = omega arith; at_most = omega arith } }

more_than_twice : Asks (shown 0) (shown 5) 2 → ⊥
unfolding shown
more_than_twice h = let more = h.compared.at_most in omega arith

-- An entry as numbers: S-1-5-32-544, deny-only. The count 2 is in the upper four bits of its key.
administrators_words : List ℕ
administrators_words = 0 ∷ 5 ∷ 2 ∷ 1 ∷ 32 ∷ 544 ∷ 0 ∷ 0 ∷ 0 ∷ 0 ∷ 0 ∷ 0 ∷ 0 ∷ 0 ∷ 0 ∷ 0 ∷ 0 ∷ 0 ∷ 0 ∷ []

as_numbers : (entry_of administrators_words ≡ (administrators, DenyOnly)) × (sid_key administrators ≡ 0x2000_0220)
unfolding administrators administrators_words
as_numbers = (refl, refl)

-- A search among 20 entries compares the first block whole, and the last four one by one.
searched_among_20 : (searched everyone false (many 3 ++ (everyone, Enabled) ∷ many 16) ≡ 16)
    × (searched everyone false (many 17 ++ (everyone, Enabled) ∷ many 2) ≡ 18)
    × (searched everyone false (many 20) ≡ 20)
unfolding everyone administrators many
searched_among_20 = (refl, refl, refl)

-- Among 32 the second block is whole too, and among 3 there is none.
searched_among_others : (searched everyone false (many 17 ++ (everyone, Enabled) ∷ many 14) ≡ 32)
    × (searched everyone false (many 1 ++ (everyone, Enabled) ∷ many 1) ≡ 2)
    × (searched everyone true [] ≡ 0)
unfolding everyone administrators many
searched_among_others = (refl, refl, refl)

count_goes_on : (counted_by 3 5 ≡ 8) × (counted_by 3 18446744073709551613 ≡ 18446744073709551615)
count_goes_on = (refl, refl)

two_entries : record {
  -- the upper part of an authority: S-1-0x100000005, without sub-authorities
  upper_authority : entry_of (1 ∷ 5 ∷ 0 ∷ 0 ∷ []) ≡ (record { authority = 0x1_0000_0005; subs = [] }, Enabled);
  with_its_key : entries_of (0x2000_0220 ∷ []) administrators_words ≡ (administrators, DenyOnly) ∷ [];
  -- With another key the entry meets nobody.
  with_another_key : entries_of (0x2000_0221 ∷ []) administrators_words ≡ nobody ∷ [];
  no_key : entries_of [] administrators_words ≡ [];
  -- an entry that does not meet the SID is looked at and passed over, and none behind the first that does is looked at
  looked : looks everyone false
      ((everyone, DenyOnly) ∷ (administrators, Enabled) ∷ (everyone, Enabled) ∷ (everyone, Enabled) ∷ []) ≡ 3;
  looked_at_all : looks everyone false ((administrators, Enabled) ∷ (everyone, DenyOnly) ∷ []) ≡ 2;
  looked_at_none : looks everyone true [] ≡ 0;
}
unfolding administrators administrators_words everyone
two_entries = search rules
