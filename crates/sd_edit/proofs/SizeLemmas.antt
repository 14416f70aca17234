-- The size of ACEs, one more at a time.
use Rattle.std.proofs.Common.{◌≡◌, ◌≤◌, ◌<◌, ◌+◌, ℕ, suc, List, [], ◌∷◌, ◌++◌, length, take, drop, get_or, ap, sym, ◌∙◌}
use Rattle.std.proofs.Common.{arith, take-append-drop, zero, ◌==◌, Bool, true, false, cond, refl, lit≤}
use Rattle.std.proofs.Math.Seq.{take-suc}
use Rattle.sd_ace.specs.Ace.{AccessControlEntry, ace_size}
use Rattle.sd_acl_view.specs.Acl.{acl_size, aces_size}
use Rattle.sd_kinds.specs.declared.flags.TheConstants.{INHERITED}
use Rattle.sd_kinds.specs.declared.kinds.AceKind.{AceKind}
use Rattle.sd_parts.specs.declared.part.Which.{Which}
use Rattle.sd_parts.specs.declared.part.Which.TheVariants as which
use Rattle.sd_text.specs.Bits.{has_bit}
use Rattle.sd_edit.specs.Order.{is_deny, of_rank, ordered, own_rank, rank}
use Rattle.sd_acl_view.proofs.laws.AceLists.{size-more}

pub next_front : (aces : List AccessControlEntry) (i : ℕ) (d : AccessControlEntry) → i < length aces
    → take (i + 1) aces ≡ take i aces ++ get_or aces i d ∷ []
next_front aces i d within =
    let next : i + 1 ≡ suc i = omega arith in
    ap (λ (k : ℕ). take k aces) next ∙ take-suc aces i d within

size-append : (aces others : List AccessControlEntry) → aces_size (aces ++ others) ≡ aces_size aces + aces_size others
size-append [] others = omega arith
size-append (a ∷ aces) others = omega (arith, size-append aces others)

-- the first of them are no larger than all
front_size : (aces : List AccessControlEntry) (i : ℕ) → acl_size (take i aces) ≤ acl_size aces
front_size aces i =
    let size = ap aces_size (sym (take-append-drop i aces)) ∙ size-append (take i aces) (drop i aces) in
    omega (arith, size)

-- the size with one ACE more
pub size_next : (aces : List AccessControlEntry) (i : ℕ) (d : AccessControlEntry) (size more : ℕ) → i < length aces
    → size ≡ acl_size (take i aces) → more ≡ ace_size (get_or aces i d) → size + more ≡ acl_size (take (i + 1) aces)
size_next aces i d size more within is of_ace =
    let next = ap aces_size (next_front aces i d within) ∙ size-more (take i aces) (get_or aces i d) in
    omega (arith, next, is, of_ace)

-- the first ACEs are too large already, and so are all
pub too_large : (aces : List AccessControlEntry) (i : ℕ) (d : AccessControlEntry) (size more : ℕ) → i < length aces
    → size ≡ acl_size (take i aces) → more ≡ ace_size (get_or aces i d) → 65535 < size + more
    → 65536 ≤ acl_size aces
too_large aces i d size more within is of_ace large =
    omega (arith, size_next aces i d size more within is of_ace, front_size aces (i + 1), large)

-- an order has the size of its ACEs
picked : (b : Bool) (a : AccessControlEntry) (others : List AccessControlEntry)
    → aces_size (cond b (a ∷ others) others) ≡ cond b (ace_size a) 0 + aces_size others
picked true a others = refl
picked false a others = omega arith

one_of_three : (n size : ℕ) → n ≤ 2 → cond (n == 0) size 0 + (cond (n == 1) size 0 + cond (n == 2) size 0) ≡ size
one_of_three zero size h = omega arith
one_of_three (suc zero) size h = omega arith
one_of_three (suc (suc zero)) size h = omega arith
one_of_three (suc (suc (suc n))) size h = absurd (omega (arith, h))

own_rank_le : (w : Which) (kind : AceKind) → own_rank w kind ≤ 2
own_rank_le which.Sacl kind = lit≤ tt
own_rank_le which.Dacl kind =
    elim (is_deny kind) as (λ b. cond b 0 1 ≤ 2) [ true ↦ lit≤ tt | false ↦ lit≤ tt ]

rank_le : (w : Which) (a : AccessControlEntry) → rank w a ≤ 2
rank_le w a =
    elim (has_bit INHERITED a.flags) as (λ b. cond b 2 (own_rank w a.kind) ≤ 2)
    [ true ↦ lit≤ tt | false ↦ own_rank_le w a.kind ]

ranks_size : (w : Which) (aces : List AccessControlEntry)
    → aces_size (of_rank w 0 aces) + (aces_size (of_rank w 1 aces) + aces_size (of_rank w 2 aces)) ≡ aces_size aces
ranks_size w [] = omega arith
ranks_size w (a ∷ aces) =
    let zero_rank = picked (rank w a == 0) a (of_rank w 0 aces) in
    let one_rank = picked (rank w a == 1) a (of_rank w 1 aces) in
    let two_rank = picked (rank w a == 2) a (of_rank w 2 aces) in
    let here = one_of_three (rank w a) (ace_size a) (rank_le w a) in
    let rest = ranks_size w aces in
    omega (arith, zero_rank, one_rank, two_rank, here, rest)

pub ordered_size : (w : Which) (aces : List AccessControlEntry) → acl_size (ordered w aces) ≡ acl_size aces
ordered_size w aces =
    let first = size-append (of_rank w 0 aces) (of_rank w 1 aces ++ of_rank w 2 aces) in
    let second = size-append (of_rank w 1 aces) (of_rank w 2 aces) in
    let all = ranks_size w aces in
    omega (arith, first, second, all)
