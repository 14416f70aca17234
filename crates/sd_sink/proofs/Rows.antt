-- Counts of calls, computed, and worked calls of a sink and of a printer.
use Rattle.std.proofs.Common.{◌≡◌, ℕ, Bool, true, false, List, [], ◌∷◌, map, Some, Ok, Err, refl, ap, arith}
use Rattle.sd_sink.specs.Counts.{counted}
use Rattle.sd_sink.specs.Print.{Begins, Finishes, PrintTold, Prints}
use Rattle.sd_sink.specs.Sink.{PutAll, PutSome, SinkTold}

-- one more, but never more than 64 bits hold
counts : map counted (0 ∷ 1 ∷ 0xffff_ffff_ffff_fffe ∷ 0xffff_ffff_ffff_ffff ∷ [])
    ≡ 1 ∷ 2 ∷ 0xffff_ffff_ffff_ffff ∷ 0xffff_ffff_ffff_ffff ∷ []
counts = refl

-- 1. A sink: its bytes, its failures and its room.

told : List ℕ → ℕ → ℕ → SinkTold
told bytes failures room = record { identity = 9; contents = Some bytes; failures = failures; room = room }

-- both bytes went
all_went : PutAll (told (1 ∷ []) 5 10) (told (1 ∷ 2 ∷ 3 ∷ []) 5 8) (2 ∷ 3 ∷ [])
unfolding told
all_went = record { identity = refl; appended = refl; no_failure = refl; room = refl }

one_is_lost : PutAll (told (1 ∷ []) 5 10) (told (1 ∷ 2 ∷ []) 5 8) (2 ∷ 3 ∷ []) → ⊥
unfolding told
one_is_lost h = let more = h.appended in cc

failed_and_all_went : PutAll (told [] 5 10) (told (2 ∷ []) 6 9) (2 ∷ []) → ⊥
unfolding told
failed_and_all_went h = let more = h.no_failure in omega arith

-- the first byte went, and then a call failed: the buffer had room for one
one_went : PutSome (told [] 5 1) (told (2 ∷ []) 6 0) (2 ∷ 3 ∷ [])
unfolding told
one_went = record {
  identity = refl;
  part = 2 ∷ [];
  is_prefix = (3 ∷ [], refl);
  appended = refl;
  failed = refl;
  beyond = omega arith;
}

some_without_a_failure : PutSome (told [] 5 1) (told (2 ∷ []) 5 0) (2 ∷ 3 ∷ []) → ⊥
unfolding told
some_without_a_failure h = let none = h.failed in omega arith

failed_with_room : PutSome (told [] 5 2) (told (2 ∷ []) 6 0) (2 ∷ 3 ∷ []) → ⊥
unfolding told
failed_with_room h = let room = h.beyond in omega arith

-- 2. A printer, which holds bytes before it hands them down.

printer : Bool → SinkTold → List ℕ → PrintTold
printer failed below held = record { identity = 4; failed = failed; below = below; held = held }

begun : Begins (told [] 5 10) (printer false (told [] 5 10) [])
unfolding printer told
begun = record { below = refl; unfailed = refl; nothing_held = refl }

begun_and_failed : Begins (told [] 5 10) (printer true (told [] 5 10) []) → ⊥
unfolding printer
begun_and_failed h = let unfailed = h.unfailed in cc

-- three bytes were held or printed: two of them went down, and one is held
printed : Prints (printer false (told [] 5 10) (1 ∷ [])) (printer false (told (1 ∷ 2 ∷ []) 5 8) (3 ∷ [])) (2 ∷ 3 ∷ [])
unfolding printer told
printed = record {
  identity = refl;
  below_identity = refl;
  whole = λ _ _. record {
    part = 1 ∷ 2 ∷ [];
    put = record { identity = refl; appended = refl; no_failure = refl; room = refl };
    rest = refl;
  };
  some = λ _ failed. absurd (cc);
  stays = λ failed. absurd (cc);
  none = λ failed. absurd (cc);
}

-- a call failed below
printed_in_part : Prints (printer false (told [] 5 1) (1 ∷ [])) (printer true (told (1 ∷ []) 6 0) []) (2 ∷ [])
unfolding printer told
printed_in_part = record {
  identity = refl;
  below_identity = refl;
  whole = λ _ unfailed. absurd (cc);
  some = λ _ _. record {
    identity = refl;
    part = 1 ∷ [];
    is_prefix = (2 ∷ [], refl);
    appended = refl;
    failed = refl;
    beyond = omega arith;
  };
  stays = λ failed. absurd (cc);
  none = λ failed. absurd (cc);
}

-- after a failure nothing goes down, and no printer gets well
nothing_printed : Prints (printer true (told [] 5 1) []) (printer true (told [] 5 1) []) (2 ∷ [])
unfolding printer told
nothing_printed = record {
  identity = refl;
  below_identity = refl;
  whole = λ unfailed _. absurd (cc);
  some = λ unfailed _. absurd (cc);
  stays = λ _. refl;
  none = λ _. refl;
}

gets_well : Prints (printer true (told [] 5 1) []) (printer false (told [] 5 1) []) [] → ⊥
unfolding printer
gets_well h = let stays = h.stays refl in cc

goes_on_after_a_failure : Prints (printer true (told [] 5 1) []) (printer true (told [] 6 1) []) [] → ⊥
unfolding printer told
goes_on_after_a_failure h = let failures = ap (λ (t : SinkTold). t.failures) (h.none refl) in omega arith

-- what is held goes down at the end, and the result says whether it did

finished : Finishes (printer false (told [] 5 10) (1 ∷ [])) (printer false (told (1 ∷ []) 5 9) []) (Ok tt)
unfolding printer told
finished = record {
  identity = refl;
  below_identity = refl;
  puts = λ _. record { identity = refl; appended = refl; no_failure = refl; room = refl };
  none = λ failed. absurd (cc);
  fault = λ failed. absurd (cc);
  tells = refl;
  empty = λ _. refl;
}

finished_after_a_failure : Finishes (printer true (told [] 5 10) []) (printer true (told [] 5 10) []) (Err (record {}))
unfolding printer told
finished_after_a_failure = record {
  identity = refl;
  below_identity = refl;
  puts = λ unfailed. absurd (cc);
  none = λ _. refl;
  fault = λ _. refl;
  tells = refl;
  empty = λ unfailed. absurd (cc);
}

finished_with_a_rest :
    Finishes (printer false (told [] 5 10) (1 ∷ [])) (printer false (told [] 5 10) (1 ∷ [])) (Ok tt) → ⊥
unfolding printer
finished_with_a_rest h = let empty = h.empty refl in cc

failure_is_hidden : Finishes (printer true (told [] 5 10) []) (printer false (told [] 5 10) []) (Ok tt) → ⊥
unfolding printer
failure_is_hidden h = let fault = h.fault refl in cc

failure_is_made_up : Finishes (printer false (told [] 5 10) []) (printer true (told [] 5 10) []) (Ok tt) → ⊥
unfolding printer
failure_is_made_up h = let tells = h.tells in cc
