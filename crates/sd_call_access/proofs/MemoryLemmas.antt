-- A token in memory.
use Rattle.std.proofs.Common.{◌≡◌, ◌≤◌, ◌<◌, ℕ, ◌+◌, ◌-◌, ◌*◌, List, [], ◌∷◌, ◌++◌, length, take, drop, slice_index}
use Rattle.std.proofs.Common.{slice_range, Result, Ok, Err, ap, refl, ◌∙◌, arith}
use Rattle.std.proofs.Math.ListN.{set}
use Rattle.std.proofs.lemmas.Bool.{le-leb}
use Rattle.std.proofs.lemmas.List.{drop-set-lt, get_or-set_other, get_or-set_same, length-set}
use Rattle.std.proofs.lemmas.Slice.{between-put_mid, take-put_mid_below}
use borrow.Rule.Slice.PartMut.{put_mid}
use Rattle.sd_token.specs.Limits.{most_entries}
use Rattle.sd_sid.specs.Sid.{SecurityId}
use Rattle.sd_token.specs.Token.{Entry}
use Rattle.sd_token.specs.TokenWords.{entries_of, entry_of, keyed, sid_key}
use Rattle.sd_token.specs.declared.token.EntryKind.{EntryKind}
use Rattle.sd_token.proofs.laws.TokenLaws.{entry_written, keyed_own}
use Rattle.sd_call.specs.declared.argument.Argument.TheVariants as which
use Rattle.sd_call.specs.declared.outcome.CallFault.{CallFault}
use Rattle.sd_call.specs.declared.outcome.CallFault.TheVariants as call
use Rattle.sd_call_access.specs.TokenMemory.{entries_at, entries_held, mark as the_mark, token_size}

pub not_held : (memory : List ℕ) → slice_index memory 0 ≡ 0 → entries_held memory ≡ Err (call.Argument which.Token 0)
unfolding entries_held
not_held memory none = rw none refl

pub kept_behind : (memory : List ℕ) (n : ℕ) → 0 < n → drop n (set memory 0 0) ≡ drop n memory
kept_behind memory n behind = drop-set-lt n memory 0 0 behind

held_when : (memory : List ℕ) (n : ℕ) → slice_index memory 0 ≡ the_mark → slice_index memory 1 ≡ n → n ≤ most_entries
    → token_size n ≤ length memory → entries_held memory ≡ Ok (entries_at n (slice_range memory 2 (token_size n)))
unfolding entries_held
held_when memory n first second few room =
    rw (first, second, le-leb n most_entries few, le-leb (token_size n) (length memory) room) refl

pub marked : (memory : List ℕ) (n : ℕ) → n ≤ most_entries → token_size n ≤ length memory
    → entries_held (set (set memory 1 n) 0 the_mark) ≡ Ok (entries_at n (slice_range memory 2 (token_size n)))
marked memory n few room =
    let counted = set memory 1 n in
    let now = set counted 0 the_mark in
    let long : length now ≡ length memory = length-set counted 0 the_mark ∙ length-set memory 1 n in
    let first : slice_index now 0 ≡ the_mark =
    get_or-set_same counted 0 the_mark 0 (omega (arith, room, length-set memory 1 n)) in
    let second : slice_index now 1 ≡ n = get_or-set_other counted 0 1 the_mark 0 (λ e. omega (arith, e))
    ∙ get_or-set_same memory 1 n 0 (omega (arith, room)) in
    let behind : drop 2 now ≡ drop 2 memory = drop-set-lt 2 counted 0 the_mark (omega arith)
    ∙ drop-set-lt 2 memory 1 n (omega arith) in
    held_when now n first second few (omega (arith, long, room))
    ∙ ap (λ (xs : List ℕ). let r : Result (List Entry) CallFault = Ok (entries_at n (take (token_size n - 2) xs)) in r)
    behind

pub marked_behind : (memory : List ℕ) (n k : ℕ) → drop (2 + k) (set (set memory 1 n) 0 the_mark) ≡ drop (2 + k) memory
marked_behind memory n k =
    drop-set-lt (2 + k) (set memory 1 n) 0 the_mark (omega arith) ∙ drop-set-lt (2 + k) memory 1 n (omega arith)

pub part_written : (memory part : List ℕ) (size : ℕ) → 2 ≤ length memory → length part ≡ size - 2
    → slice_range (put_mid 2 (size - 2) memory part) 2 size ≡ part
part_written memory part size room long = between-put_mid 2 (size - 2) memory part size room long

pub one_written : (keys words more : List ℕ) (n key k : ℕ) (sid : SecurityId) (kind : EntryKind) → n < length keys
    → length words ≡ 19 * length keys → length more ≡ 19 → k ≡ 19 * (n + 1) - 19 * n → key ≡ sid_key sid
    → entry_of more ≡ (sid, kind)
    → entries_of (take (n + 1) (set keys n key)) (put_mid (19 * n) k words more)
    ≡ entries_of (take n keys) words ++ (sid, kind) ∷ []
one_written keys words more n key k sid kind within room long size key-is more-is =
    let below : 19 * n ≤ length words = omega (arith, within, room) in
    let own : keyed key (entry_of more) ≡ (sid, kind) = ap (λ (e : Entry). keyed key e) more-is
    ∙ keyed_own key (sid, kind) key-is in
    let end : 19 * n + 19 - 19 * n ≡ 19 = omega arith in
    let part : take 19 (drop (19 * n) (put_mid (19 * n) k words more)) ≡ more =
    rw end at (between-put_mid (19 * n) k words more (19 * n + 19) below (omega (arith, size))) in
    entry_written keys words (put_mid (19 * n) k words more) n key more within
    (take-put_mid_below (19 * n) k words more (19 * n) (omega arith) below) part
    ∙ ap (λ (e : Entry). entries_of (take n keys) words ++ e ∷ []) own
