-- The pieces of a token's text, one after the other.
use Rattle.std.proofs.Common.{◌≡◌, ◌≤◌, ◌<◌, ◌+◌, ℕ, Bool, true, false, List, [], ◌∷◌, ◌++◌, length, Option, Some}
use Rattle.std.proofs.Common.{None, option_map, append_assoc, append-nil, length-append, ap, sym, ◌∙◌, refl, arith}
use Rattle.std.specs.Prelude.{◌==◌, nat_lt, if◌then◌else◌}
use Rattle.std.specs.Option.{option_and_then}
use Rattle.std.specs.List.{position_or_len, before_first, after_first}
use Rattle.std.proofs.lemmas.Bool.Decides.{nat_tests}
use Rattle.std.proofs.lemmas.Iterator.Adapters.{option_map_id}
use Rattle.std.proofs.lemmas.List.Elements.{All-from_get_or}
use Rattle.std.proofs.lemmas.List.Sums.{fails_before_first}
use Rattle.std.proofs.lemmas.List.Splits.{slice_split_first, slice_split_none}
use Rattle.clap.specs.Words.{Text}
use Rattle.sd_sid.specs.Sid.{SecurityId}
use Rattle.sd_token.specs.Token.{Entry}
use Rattle.sd_command.specs.Inner.Adding.{with_entry, with_pieces}
use Rattle.sd_text.specs.Chains.{all_read}
use Rattle.sd_command.specs.TokenText.{entries_read, entry_reads, cut_at_commas}

-- ---- where the text is cut

abbrev is_comma : ℕ → Bool
is_comma c = c == 44

pub cut-more : (text piece others : Text) → position_or_len is_comma text < length text
    → piece ≡ before_first is_comma text → others ≡ after_first is_comma text
    → cut_at_commas text ≡ piece ∷ cut_at_commas others
cut-more text piece others h a b = rw (a, b) (slice_split_first is_comma text 0 h)

pub cut-last : (text : Text) → position_or_len is_comma text ≡ length text → cut_at_commas text ≡ text ∷ []
cut-last text h =
    slice_split_none is_comma text
    (All-from_get_or (λ c. is_comma c ≡ false) text 0 (λ i below.
    fails_before_first is_comma text i 0 (omega (arith, h, below))))

-- ---- the entries so far

joined : (entries : List Entry) (e : Entry) (o : Option (List Entry))
    → option_map (λ es. (entries ++ e ∷ []) ++ es) o
    ≡ option_map (λ es. entries ++ es) (option_map (λ es. e ∷ es) o)
joined entries e None = refl
joined entries e (Some es) = ap (λ (xs : List Entry). Some xs) (append_assoc entries (e ∷ []) es)

one-more : (domain : Option SecurityId) (ps : List Text) (entries : List Entry) (e : Option Entry)
    → length entries < 1024
    → ((f : Entry) → with_pieces domain ps (entries ++ f ∷ [])
    ≡ option_map (λ es. (entries ++ f ∷ []) ++ es) (all_read (entry_reads domain) ps))
    → option_and_then (with_pieces domain ps) (with_entry entries e)
    ≡ option_map (λ es. entries ++ es) (option_and_then (λ f. option_map (λ es. f ∷ es)
    (all_read (entry_reads domain) ps)) e)
one-more domain ps entries None h more = refl
one-more domain ps entries (Some e) h more =
    let room : nat_lt (length entries) 1024 ≡ true = grind (arith, nat_tests) in
    rw room (more e ∙ joined entries e (all_read (entry_reads domain) ps))

-- where there is room for all
pub added : (domain : Option SecurityId) (ps : List Text) (entries : List Entry) → length entries + length ps ≤ 1024
    → with_pieces domain ps entries ≡ option_map (λ es. entries ++ es) (all_read (entry_reads domain) ps)
added domain [] entries h = ap (λ (xs : List Entry). Some xs) (sym (append-nil entries))
added domain (p ∷ ps) entries h =
    one-more domain ps entries (entry_reads domain p) (omega arith) (λ f.
    added domain ps (entries ++ f ∷ []) (omega (arith, length-append entries (f ∷ []))))

no-more : (domain : Option SecurityId) (ps : List Text) (entries : List Entry) (e : Option Entry)
    → ((f : Entry) → length entries < 1024 → with_pieces domain ps (entries ++ f ∷ []) ≡ None)
    → option_and_then (with_pieces domain ps) (with_entry entries e) ≡ None
no-more domain ps entries None more = refl
no-more domain ps entries (Some e) more = by_test (nat_lt (length entries) 1024) refl
  where
    by_test : (b : Bool) → nat_lt (length entries) 1024 ≡ b
        → option_and_then (with_pieces domain ps) (if b then Some (entries ++ e ∷ []) else None) ≡ None
    by_test true t = more e (grind (arith, nat_tests))
    by_test false t = refl

-- and where there is not
pub full : (domain : Option SecurityId) (ps : List Text) (entries : List Entry) → length entries ≤ 1024
    → 1024 < length entries + length ps → with_pieces domain ps entries ≡ None
full domain [] entries a b = absurd (omega arith)
full domain (p ∷ ps) entries a b =
    no-more domain ps entries (entry_reads domain p) (λ f room.
    let one = length-append entries (f ∷ []) in
    full domain ps (entries ++ f ∷ []) (omega (arith, one)) (omega (arith, one)))

-- all pieces, into a token without an entry
pub all-added : (domain : Option SecurityId) (text : Text)
    → with_pieces domain (cut_at_commas text) [] ≡ entries_read domain text
unfolding entries_read
all-added domain text = by_test (nat_lt 1024 (length (cut_at_commas text))) refl
  where
    by_test : (b : Bool) → nat_lt 1024 (length (cut_at_commas text)) ≡ b
        → with_pieces domain (cut_at_commas text) []
        ≡ (if b then None else all_read (entry_reads domain) (cut_at_commas text))
    by_test true t = full domain (cut_at_commas text) [] (omega arith) (grind (arith, nat_tests))
    by_test false t =
        added domain (cut_at_commas text) [] (grind (arith, nat_tests))
        ∙ option_map_id (all_read (entry_reads domain) (cut_at_commas text))

-- ---- from one piece to the next

pub one-cut : (domain : Option SecurityId) (rest piece others : Text) (entries entries' : List Entry)
    (all : Option (List Entry)) → cut_at_commas rest ≡ piece ∷ cut_at_commas others
    → Some entries' ≡ with_entry entries (entry_reads domain piece)
    → with_pieces domain (cut_at_commas rest) entries ≡ all → with_pieces domain (cut_at_commas others) entries' ≡ all
one-cut domain rest piece others entries entries' all cut e h =
    ap (option_and_then (with_pieces domain (cut_at_commas others))) e
    ∙ (sym (ap (λ (ps : List Text). with_pieces domain ps entries) cut) ∙ h)

-- a piece that does not read, or finds no room
pub one-fails : (domain : Option SecurityId) (rest piece others : Text) (entries : List Entry)
    (all : Option (List Entry)) → cut_at_commas rest ≡ piece ∷ cut_at_commas others
    → None ≡ with_entry entries (entry_reads domain piece)
    → with_pieces domain (cut_at_commas rest) entries ≡ all → None ≡ all
one-fails domain rest piece others entries all cut e h =
    ap (option_and_then (with_pieces domain (cut_at_commas others))) e
    ∙ (sym (ap (λ (ps : List Text). with_pieces domain ps entries) cut) ∙ h)

alone : (o : Option (List Entry)) → o ≡ option_and_then (λ es. Some es) o
alone None = refl
alone (Some es) = refl

pub one-is-left : (domain : Option SecurityId) (rest : Text) (entries : List Entry) (all : Option (List Entry))
    → cut_at_commas rest ≡ rest ∷ [] → with_pieces domain (cut_at_commas rest) entries ≡ all
    → with_entry entries (entry_reads domain rest) ≡ all
one-is-left domain rest entries all cut h =
    alone (with_entry entries (entry_reads domain rest))
    ∙ (sym (ap (λ (ps : List Text). with_pieces domain ps entries) cut) ∙ h)
