-- Rows that are answered one after the other.
use Rattle.std.proofs.Common.{◌≡◌, ◌≤◌, ◌<◌, ◌+◌, ◌-◌, ℕ, suc, zero, List, [], ◌∷◌, ◌++◌, length, take, drop, get_or}
use Rattle.std.proofs.Common.{map, Result, Ok, Err, refl, sym, ap, ◌∙◌, add-one, append_assoc, length-append, arith}
use Rattle.std.proofs.Common.{◌≢◌, get_or-set_other, get_or-set_same, inl, inr}
use Rattle.std.specs.List.{flat_map}
use Rattle.std.proofs.Math.ListN.{set}
use Rattle.std.proofs.lemmas.List.{drop_more, flat_map_more, length-drop, length-map, length-take, length-take-le}
use Rattle.std.proofs.lemmas.List.{map_more, set_at, take-append-le, take-map, take-take, take_all, take_at, take_more}
use Rattle.std.proofs.lemmas.List.{take_rest}
use Rattle.std.proofs.lemmas.Bool.{cases_lt}
use Rattle.std.proofs.Math.Seq.{take-append-add}
use borrow.Rule.Slice.PartMut.{post_of, put_mid}
use Rattle.sd_call.specs.Outcomes.{Answers, done}
use Rattle.sd_call.specs.declared.outcome.CallFault.{CallFault}
use Rattle.sd_call.specs.declared.outcome.Outcome.{Outcome}
use Rattle.sd_call_columns.specs.Answered.{Ends, HasEnds, Holds, bytes_of, end_of, lengths, outcome_of, stopped}

-- 1. One more answer.

pub joined_more : (front : List ℕ) (given : List (Result (List ℕ) CallFault)) (i : ℕ) → i < length given
    → front ++ flat_map bytes_of (take i given) ++ bytes_of (get_or given i (Ok []))
    ≡ front ++ flat_map bytes_of (take (i + 1) given)
joined_more front given i less =
    flat_map_more bytes_of front (take i given) (get_or given i (Ok []))
    ∙ ap (λ (l : List (Result (List ℕ) CallFault)). front ++ flat_map bytes_of l) (sym (take_more given i (Ok []) less))

pub end_more : (given : List (Result (List ℕ) CallFault)) (begin i : ℕ) → i < length given
    → end_of begin (take (i + 1) given) ≡ end_of begin (take i given) + length (bytes_of (get_or given i (Ok [])))
end_more given begin i less =
    let e = ap length (joined_more [] given i less) in
    let s = length-append (flat_map bytes_of (take i given)) (bytes_of (get_or given i (Ok []))) in
    omega (arith, e, s)

-- 2. The outcome of a row, which has room for its answer or not.

pub record Fitted (answer : Result (List ℕ) CallFault) (old new : List ℕ) (outcome : Outcome) : Type 0 where
  pub is : outcome ≡ outcome_of answer
  pub size : outcome.length ≡ length (bytes_of answer)
  pub bytes : take outcome.length new ≡ bytes_of answer

pub fitted : (answer : Result (List ℕ) CallFault) (old new : List ℕ) (outcome : Outcome)
    → Answers answer old new outcome → outcome.length ≤ length old → Fitted answer old new outcome
fitted (Ok bytes) old new outcome h within = elim (cases_lt (length old) (length bytes)) [
  | inl less ↦ (
      let n = ap (λ (o : Outcome). o.length) (h.short less) in
      absurd (omega (arith, n, less, within)))
  | inr room ↦ (
      let given = h.fits room in
      let n = ap (λ (o : Outcome). o.length) given.0 in
      record { is = given.0; size = n; bytes = rw n given.1 })
]
fitted (Err fault) old new outcome h within =
    let n = ap (λ (o : Outcome). o.length) h.0 in
    record { is = h.0; size = n; bytes = rw n refl }

pub not_fitted : (answer : Result (List ℕ) CallFault) (old new : List ℕ) (outcome : Outcome)
    → Answers answer old new outcome → length old < outcome.length → outcome.length ≡ length (bytes_of answer)
not_fitted (Ok bytes) old new outcome h past = elim (cases_lt (length old) (length bytes)) [
  | inl less ↦ ap (λ (o : Outcome). o.length) (h.short less)
  | inr room ↦ ap (λ (o : Outcome). o.length) (h.fits room).0
]
not_fitted (Err fault) old new outcome h past = ap (λ (o : Outcome). o.length) h.0

-- 3. One more row is answered.

-- the bytes of an answer behind those that are there
pub bytes_more : (at n k : ℕ) (old part front bytes : List ℕ) → at ≤ length old → n ≤ length part → take at old ≡ front
    → take n part ≡ bytes → take (at + n) (put_mid at k old part) ≡ front ++ bytes
bytes_more at n k old part front bytes within room is more =
    let long : length (take at old) ≡ at = length-take-le at old within in
    ap (λ (m : ℕ). take (m + n) (put_mid at k old part)) (sym long)
    ∙ take-append-add (take at old) (part ++ post_of at k old) n
    ∙ ap (λ (l : List ℕ). take at old ++ l) (take-append-le n part (post_of at k old) room)
    ∙ ap (λ (l : List ℕ). l ++ take n part) is ∙ ap (λ (l : List ℕ). front ++ l) more

pub within_more : (at n k : ℕ) (old part : List ℕ) → at ≤ length old → n ≤ length part
    → at + n ≤ length (put_mid at k old part)
within_more at n k old part within room =
    let a = length-append (take at old) (part ++ post_of at k old) in
    let b = length-append part (post_of at k old) in
    let long = length-take-le at old within in
    omega (arith, a, b, long, room)

pub room_is : (at : ℕ) (out : List ℕ) → length (take (length out - at) (drop at out)) ≡ length out - at
room_is at out = ap length (take_rest out at) ∙ length-drop at out

-- the outcome of one more
pub outcome_more : (given : List (Result (List ℕ) CallFault)) (old now : List Outcome) (i : ℕ) (outcome : Outcome)
    → i < length given → i < length old → now ≡ map outcome_of (take i given) ++ drop i old
    → outcome ≡ outcome_of (get_or given i (Ok []))
    → set now i outcome ≡ map outcome_of (take (i + 1) given) ++ drop (i + 1) old
outcome_more given old now i outcome less room h is =
    let front : List Outcome = map outcome_of (take i given) in
    let long : length front ≡ i = length-map (take i given) outcome_of ∙ omega (arith, length-take i given) in
    let parts : now ≡ front ++ get_or old i outcome ∷ drop (i + 1) old = h
    ∙ ap (λ (l : List Outcome). front ++ l) (drop_more old i outcome room) in
    ap (λ (l : List Outcome). set l i outcome) parts ∙ set_at front _ _ outcome i long
    ∙ sym (append_assoc front (outcome ∷ []) _)
    ∙ ap (λ (l : List Outcome). l ++ drop (i + 1) old)
    (ap (λ (o : Outcome). front ++ o ∷ []) is ∙ sym (map_more outcome_of given i (Ok []) less))

-- the ends that are told
pub all_told : (given : List (Result (List ℕ) CallFault)) (begin room count : ℕ) (outcome : Outcome)
    → length given ≡ count → outcome ≡ done (end_of begin (take count given)) → Ends given begin room count outcome
all_told given begin room count outcome n is =
    let whole = take_all count given (omega (arith, n)) in record {
      all = λ h. is ∙ ap (λ (l : List (Result (List ℕ) CallFault)). done (end_of begin l)) whole;
      some = λ less. absurd (omega (arith, n, less));
    }

pub some_told : (given : List (Result (List ℕ) CallFault)) (begin room count : ℕ) (outcome : Outcome) (size : ℕ)
    → count < length given → room < end_of begin (take count given) + size
    → size ≡ length (bytes_of (get_or given count (Ok []))) → outcome ≡ stopped count size
    → Ends given begin room count outcome
some_told given begin room count outcome size less past n is =
    let more = end_more given begin count less in record {
      all = λ h. absurd (omega (arith, h, less));
      some = λ h. (omega (arith, more, past, n), is ∙ ap (stopped count) n);
    }

-- 4. Where the answers end, by the lengths that their outcomes tell.

pub lengths_more : (given : List Outcome) (i : ℕ) (d : Outcome) → i < length given
    → lengths (take (i + 1) given) ≡ lengths (take i given) + (get_or given i d).length
lengths_more given i d less = rw add-one (by_place given i less)
  where
    by_place : (os : List Outcome) (k : ℕ) → k < length os
        → lengths (take (suc k) os) ≡ lengths (take k os) + (get_or os k d).length
    by_place [] k less = absurd (omega (arith, less))
    by_place (o ∷ os) zero less = omega arith
    by_place (o ∷ os) (suc k) less = let rest = by_place os k (omega (arith, less)) in omega (arith, rest)

pub lengths_most : (given : List Outcome) (i : ℕ) → lengths (take i given) ≤ lengths given
lengths_most [] zero = omega arith
lengths_most [] (suc i) = omega arith
lengths_most (o ∷ os) zero = omega arith
lengths_most (o ∷ os) (suc i) = let rest = lengths_most os i in omega (arith, rest)

-- one more end
pub ends_more : (begin : ℕ) (given : List Outcome) (now : List ℕ) (i at : ℕ) → i + 1 < length now
    → ((k : ℕ) → k ≤ i → get_or now k 0 ≡ begin + lengths (take k given)) → at ≡ begin + lengths (take (i + 1) given)
    → (k : ℕ) → k ≤ i + 1 → get_or (set now (i + 1) at) k 0 ≡ begin + lengths (take k given)
ends_more begin given now i at room h is k within = elim (cases_lt i k) [
  | inl past ↦ (
      let here : k ≡ i + 1 = omega (arith, past, within) in
      rw here (get_or-set_same now (i + 1) at 0 room ∙ is))
  | inr before ↦ (
      let other : k ≢ i + 1 = omega (arith, before) in
      get_or-set_other now (i + 1) k at 0 other ∙ h k before)
]

pub outcome_size : (a : Result (List ℕ) CallFault) → (outcome_of a).length ≡ length (bytes_of a)
outcome_size (Ok bytes) = refl
outcome_size (Err fault) = refl

-- the lengths that the outcomes tell are those of the answers
pub lengths_of : (given : List (Result (List ℕ) CallFault))
    → lengths (map outcome_of given) ≡ length (flat_map bytes_of given)
lengths_of [] = refl
lengths_of (a ∷ others) =
    let rest = lengths_of others in
    let one = outcome_size a in
    let both = length-append (bytes_of a) (flat_map bytes_of others) in
    omega (arith, rest, one, both)

-- the first outcomes, after so many rows
pub front_of : (given : List (Result (List ℕ) CallFault)) (begin : ℕ) (old new : List ℕ)
    (old_outcomes new_outcomes : List Outcome) (count : ℕ)
    → Holds given begin old new old_outcomes new_outcomes count
    → take count new_outcomes ≡ map outcome_of (take count given)
front_of given begin old new old_outcomes new_outcomes count h =
    let front : List Outcome = map outcome_of (take count given) in
    let long : length front ≡ count = length-map (take count given) outcome_of ∙ length-take-le count given h.few in
    ap (λ (l : List Outcome). take count l) h.outcomes ∙ take_at front (drop count old_outcomes) count long

-- how many these are, and how long their answers
pub record Front (given : List (Result (List ℕ) CallFault)) (begin count : ℕ) (front : List Outcome) : Type 0 where
  pub size : length front ≡ count
  pub end : begin + lengths front ≡ end_of begin (take count given)

pub front_told : (given : List (Result (List ℕ) CallFault)) (begin : ℕ) (old new : List ℕ)
    (old_outcomes new_outcomes : List Outcome) (count : ℕ)
    → Holds given begin old new old_outcomes new_outcomes count → Front given begin count (take count new_outcomes)
front_told given begin old new old_outcomes new_outcomes count h =
    let front = front_of given begin old new old_outcomes new_outcomes count h in
    let some : List (Result (List ℕ) CallFault) = take count given in record {
      size = ap length front ∙ length-map some outcome_of ∙ length-take-le count given h.few;
      end = ap (λ (l : List Outcome). begin + lengths l) front ∙ ap (λ (n : ℕ). begin + n) (lengths_of some);
    }

-- the offsets that are written after so many rows
pub ends_told : (given : List (Result (List ℕ) CallFault)) (begin : ℕ) (old new : List ℕ)
    (old_outcomes new_outcomes : List Outcome) (count : ℕ) (old_offsets new_offsets : List ℕ)
    → Holds given begin old new old_outcomes new_outcomes count
    → ((k : ℕ) → k ≤ length (take count new_outcomes)
    → get_or new_offsets k 0 ≡ begin + lengths (take k (take count new_outcomes)))
    → drop (length (take count new_outcomes) + 1) new_offsets ≡ drop (length (take count new_outcomes) + 1) old_offsets
    → HasEnds given begin old_offsets new_offsets count
ends_told given begin old new old_outcomes new_outcomes count old_offsets new_offsets h ends rest =
    let front = front_of given begin old new old_outcomes new_outcomes count h in
    let told = front_told given begin old new old_outcomes new_outcomes count h in record {
      ends = λ k within. ends k (omega (arith, within, told.size))
          ∙ ap (λ (l : List Outcome). begin + lengths (take k l)) front
          ∙ ap (λ (l : List Outcome). begin + lengths l) (take-map outcome_of k (take count given))
          ∙ ap (λ (l : List (Result (List ℕ) CallFault)). begin + lengths (map outcome_of l))
          (take-take k count given within)
          ∙ ap (λ (n : ℕ). begin + n) (lengths_of (take k given));
      rest = rw told.size at rest;
    }
