-- The ACEs that new ones spell, one more at a time.
use Rattle.std.proofs.Common.{◌≡◌, ◌≤◌, ◌<◌, ◌+◌, ℕ, suc, List, [], ◌∷◌, ◌++◌, length, take, drop, get_or, map, Bool}
use Rattle.std.proofs.Common.{◌||◌, refl, sym, ap, ◌∙◌, arith, take-append-drop}
use Rattle.std.proofs.Math.Seq.{take-suc}
use Rattle.std.proofs.lemmas.List.{map-append}
use Rattle.std.specs.List.{flat_map, list_any}
use Rattle.sd_ace.specs.Ace.{AccessControlEntry, ace_size}
use Rattle.sd_ace.specs.AceLayout.{ace_bytes}
use Rattle.sd_kinds.specs.Kinds.{is_object}
use Rattle.sd_acl_view.specs.Acl.{acl_size, aces_size, has_object}
use Rattle.sd_acl_view.proofs.laws.AceLists.{size-more}
use Rattle.sd_call_build.specs.New.{is_object_ace, shown_ace}
use Rattle.sd_call_build.specs.declared.new.NewAce.{NewAce}

-- the bytes of the ACEs, one by one
pub bytes_of_shown : (news : List NewAce)
    → flat_map (λ new. ace_bytes (shown_ace new)) news ≡ flat_map ace_bytes (map shown_ace news)
bytes_of_shown [] = refl
bytes_of_shown (new ∷ others) = ap (λ (t : List ℕ). ace_bytes (shown_ace new) ++ t) (bytes_of_shown others)

-- whether an object ACE is among them
pub object_among : (news : List NewAce)
    → list_any is_object_ace news ≡ has_object (map shown_ace news)
object_among [] = refl
object_among (new ∷ others) = ap (λ (b : Bool). is_object (shown_ace new).kind || b) (object_among others)

pub one_more_size : (news : List NewAce) (i : ℕ) (d : NewAce) → i < length news
    → acl_size (map shown_ace (take (i + 1) news))
    ≡ acl_size (map shown_ace (take i news)) + ace_size (shown_ace (get_or news i d))
one_more_size news i d within =
    let next : i + 1 ≡ suc i = omega arith in
    let front : map shown_ace (take (i + 1) news) ≡ map shown_ace (take i news) ++ shown_ace (get_or news i d) ∷ [] =
    ap (λ (k : ℕ). map shown_ace (take k news)) next ∙ ap (map shown_ace) (take-suc news i d within)
    ∙ map-append shown_ace (take i news) (get_or news i d ∷ []) in
    let size = ap aces_size front ∙ size-more (map shown_ace (take i news)) (shown_ace (get_or news i d)) in
    omega (arith, size)

size-append : (aces others : List AccessControlEntry) → aces_size (aces ++ others) ≡ aces_size aces + aces_size others
size-append [] others = omega arith
size-append (a ∷ aces) others = omega (arith, size-append aces others)

-- the first of them are no larger than all
pub front_size : (news : List NewAce) (i : ℕ) → acl_size (map shown_ace (take i news)) ≤ acl_size (map shown_ace news)
front_size news i =
    let all : map shown_ace news ≡ map shown_ace (take i news) ++ map shown_ace (drop i news) =
    ap (map shown_ace) (sym (take-append-drop i news)) ∙ map-append shown_ace (take i news) (drop i news) in
    let size = ap aces_size all ∙ size-append (map shown_ace (take i news)) (map shown_ace (drop i news)) in
    omega (arith, size)

-- the size with one ACE more
pub size_next : (news : List NewAce) (i : ℕ) (d : NewAce) (size more : ℕ) → i < length news
    → size ≡ acl_size (map shown_ace (take i news)) → more ≡ ace_size (shown_ace (get_or news i d))
    → size + more ≡ acl_size (map shown_ace (take (i + 1) news))
size_next news i d size more within is of_ace = omega (arith, one_more_size news i d within, is, of_ace)

-- the first ACEs are too large already, and so are all
pub too_large : (news : List NewAce) (i : ℕ) (d : NewAce) (size more : ℕ) → i < length news
    → size ≡ acl_size (map shown_ace (take i news)) → more ≡ ace_size (shown_ace (get_or news i d))
    → 65535 < size + more → 65536 ≤ acl_size (map shown_ace news)
too_large news i d size more within is of_ace large =
    omega (arith, size_next news i d size more within is of_ace, front_size news (i + 1), large)
