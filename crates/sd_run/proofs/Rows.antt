-- Worked rows of lines, devices and runs, by hand from docs/DEFINITIONS.md and docs/sdtool.1.
use Rattle.std.proofs.Common.{◌≡◌, ◌<◌, ◌≤◌, ◌+◌, inl, inr, ℕ, All, List, [], ◌∷◌, ◌++◌, map, length, Bool, true, false}
use Rattle.std.proofs.Common.{Option, Some, Ok, Err, codes, refl, sym, ◌∙◌, append-nil, arith, rules}
use Rattle.std.proofs.lemmas.List.Elements.{All-cons, All-nil}
use Rattle.sd_token.specs.Token.{Holder}
use Rattle.sd_answer.specs.Answer.{answer, bound, is_error}
use Rattle.sd_answer.specs.LineEnd.{without_cr}
use Rattle.sd_answer.specs.declared.job.Task.{Task}
use Rattle.sd_run.specs.Answers.{answers, bounds, errors}
use Rattle.sd_run.specs.Lines.{AreBytes, IsCut, cut_at_line_feeds, ended, has_lf, lines}
use Rattle.sd_run.specs.Outcome.{HandedOn, IsFront, Outcome, RoseBy, Stopped, WriteFailed, most_of_a_read}
use Rattle.sd_run.specs.Splits.{Splits}
use Rattle.sd_run.specs.Told.{DrainTold, RunTold, SourceTold, ends_after, failed_flushes_after, failed_reads_after}
use Rattle.sd_run.specs.Told.{failed_writes_after, is_flush, reads_after, sink_of}
use Rattle.sd_run.specs.declared.engine.RunFault.{RunFault}
use Rattle.sd_run.specs.declared.engine.RunFault.TheVariants.{Read, TooManyReads, Write}

-- 1. Lines.

-- "a" CR LF, LF, "b" CR CR LF, "c" CR: the CR at the very end stays
pub four_lines : lines
    (97 ∷ 13 ∷ 10 ∷ 10 ∷ 98 ∷ 13 ∷ 13 ∷ 10 ∷ 99 ∷ 13 ∷ []) ≡ (97 ∷ []) ∷ [] ∷ (98 ∷ 13 ∷ []) ∷ (99 ∷ 13 ∷ []) ∷ []
unfolding lines ended cut_at_line_feeds without_cr
four_lines = refl

pub no_line : lines [] ≡ []
unfolding lines ended cut_at_line_feeds without_cr
no_line = refl

byte_before : (b : ℕ) (more : List ℕ) → b < 256 → All (λ n. n < 256) more → All (λ n. n < 256) (b ∷ more)
byte_before b more h all = All-cons (λ n. n < 256) b more h all

no_bytes : All (λ n. n < 256) []
no_bytes = All-nil (λ n. n < 256)

bytes : AreBytes (0 ∷ 255 ∷ [])
bytes = byte_before 0 (255 ∷ []) (omega arith) (byte_before 255 [] (omega arith) no_bytes)

no_byte : AreBytes (256 ∷ []) → ⊥
no_byte h = let more = h 0 0 (omega arith) in omega arith

cut : IsCut (codes "a\n\nb") (record { ended = codes "a" ∷ [] ∷ []; rest = codes "b" })
cut = record { joined = refl; ended_without = refl; rest_without = refl }

lf_in_the_rest : IsCut (codes "a\nb") (record { ended = []; rest = codes "a\nb" }) → ⊥
lf_in_the_rest h = let bad : true ≡ false = h.rest_without in cc

lf_in_a_line : IsCut (codes "a\nb\n") (record { ended = codes "a\nb" ∷ []; rest = [] }) → ⊥
lf_in_a_line h = let bad : true ≡ false = h.ended_without in cc

ended_lines_and_more : record {
  ended_lines : map ended (codes "a\r\nb" ∷ codes "a\nb\n" ∷ codes "a" ∷ [])
      ≡ (codes "a" ∷ []) ∷ (codes "a" ∷ codes "b" ∷ []) ∷ [] ∷ [];
  line_feeds : map has_lf ([] ∷ codes "a\r" ∷ codes "a\nb" ∷ []) ≡ false ∷ false ∷ true ∷ [];
}
unfolding ended cut_at_line_feeds without_cr
ended_lines_and_more = search rules

-- 2. Calls of devices.

reads : (reads_after [] 5 ≡ 5) × (reads_after (0 ∷ []) 5 ≡ 6)
reads = (refl, refl)

-- A read that was asked for a byte and gave none met the end.
ends : (ends_after {E = RunFault} (Ok 0) (0 ∷ []) 5 ≡ 6) × (ends_after {E = RunFault} (Ok 0) [] 5 ≡ 5)
    × (ends_after {E = RunFault} (Ok 1) (0 ∷ []) 5 ≡ 5) × (ends_after (Err Read) (0 ∷ []) 5 ≡ 5)
ends = (refl, refl, refl, refl)

failed_reads : (failed_reads_after {E = RunFault} (Ok 0) 5 ≡ 5) × (failed_reads_after (Err Read) 5 ≡ 6)
failed_reads = (refl, refl)

-- A write that takes no byte of a non-empty piece has failed too.
failed_writes : (failed_writes_after {E = RunFault} (Ok 0) (0 ∷ []) 5 ≡ 6)
    × (failed_writes_after {E = RunFault} (Ok 0) [] 5 ≡ 5)
    × (failed_writes_after {E = RunFault} (Ok 1) (0 ∷ []) 5 ≡ 5) × (failed_writes_after (Err Write) [] 5 ≡ 6)
failed_writes = (refl, refl, refl, refl)

failed_flushes : (failed_flushes_after {T = ℕ} {E = RunFault} (Ok 0) 5 ≡ 5)
    × (failed_flushes_after {T = ℕ} (Err Write) 5 ≡ 6)
failed_flushes = (refl, refl)

flushes : (is_flush {T = ℕ} {E = RunFault} (Ok 0) ≡ true) × (is_flush {T = ℕ} (Err Write) ≡ false)
flushes = (refl, refl)

abbrev drain : Option (List ℕ) → ℕ → Bool → DrainTold
drain taken failures flushed = record { taken = taken; failures = failures; flushed = flushed }

drain_as_a_sink : sink_of (drain (Some (codes "a")) 3 true)
    ≡ record { identity = 0; contents = Some (codes "a"); failures = 3; room = 0 }
drain_as_a_sink = refl

-- Counts stay at the largest number of 64 bits.

three_calls : RoseBy 3 4 7
three_calls = record { at_least = omega arith; at_most = omega arith }

neither_more_nor_less : (new : ℕ) → RoseBy 3 4 new → new ≡ 7
neither_more_nor_less new h = let least = h.at_least in let most = h.at_most in omega arith

largest_count : RoseBy 2 18446744073709551614 18446744073709551615
largest_count = record { at_least = omega arith; at_most = omega arith }

below_the_largest : RoseBy 1 18446744073709551614 18446744073709551614 → ⊥
below_the_largest h = let least = h.at_least in omega arith

-- 3. Runs over "a" and "b", where "b" is answered by an error line.

abbrev source : Option (List ℕ) → ℕ → ℕ → ℕ → SourceTold
source left reads ends failures = record { left = left; reads = reads; ends = ends; failures = failures }

abbrev told : Holder → ℕ → SourceTold → DrainTold → RunTold
told holder compared from to =
    record { token = record { holder = holder; compared = compared; room = 0 }; source = from; drain = to }

-- before a run over these bytes
abbrev before : Holder → List ℕ → RunTold
before holder all = told holder 0 (source (Some all) 0 0 0) (drain (Some []) 0 false)

b_alone : All (λ n. n < 256) (codes "b")
b_alone = byte_before 98 [] (omega arith) no_bytes

b_ended : All (λ n. n < 256) (codes "b\n")
b_ended = byte_before 98 (10 ∷ []) (omega arith) (byte_before 10 [] (omega arith) no_bytes)

a_before : (more : List ℕ) → All (λ n. n < 256) more → All (λ n. n < 256) (97 ∷ 10 ∷ more)
a_before more h = byte_before 97 (10 ∷ more) (omega arith) (byte_before 10 more (omega arith) h)

record Answered (task : Task) (holder : Holder) : Type 0 where
  first : answer task holder (codes "a") ≡ codes "granted\n"
  second : answer task holder (codes "b") ≡ codes "error 5 short\n"
  first_right : is_error task holder (codes "a") ≡ false
  second_wrong : is_error task holder (codes "b") ≡ true
  first_bound : bound task holder (codes "a") ≡ 7
  second_bound : bound task holder (codes "b") ≡ 5

module _ (task : Task) (holder : Holder) (h : Answered task holder) where
  no_answer : [] ≡ answers task holder [] ++ []
  unfolding answers
  no_answer = refl

  one_answer : answers task holder (codes "a" ∷ []) ≡ codes "granted\n"
  unfolding answers
  one_answer = rw h.first refl

  other_answer : answers task holder (codes "b" ∷ []) ≡ codes "error 5 short\n"
  unfolding answers
  other_answer = rw h.second refl

  two_answers : answers task holder (codes "a" ∷ codes "b" ∷ []) ≡ codes "granted\nerror 5 short\n"
  unfolding answers
  two_answers = rw h.first (rw h.second refl)

  one_error : errors task holder (codes "a" ∷ codes "b" ∷ []) ≡ 1
  unfolding errors
  one_error = rw h.first_right (rw h.second_wrong refl)

  no_error : errors task holder (codes "a" ∷ []) ≡ 0
  unfolding errors
  no_error = rw h.first_right refl

  other_error : errors task holder (codes "b" ∷ []) ≡ 1
  unfolding errors
  other_error = rw h.second_wrong refl

  one_bound : bounds task holder (codes "a" ∷ []) ≡ 7
  unfolding bounds
  one_bound = rw h.first_bound refl

  two_bounds : bounds task holder (codes "a" ∷ codes "b" ∷ []) ≡ 12
  unfolding bounds
  two_bounds = rw h.first_bound (rw h.second_bound refl)

  -- The last line needs no LF. The second of two reads meets the end, and a flush comes last.
  finished : Outcome 2 task (before holder (codes "a\nb"))
      (told holder 12 (source (Some []) 2 1 0) (drain (Some (codes "granted\nerror 5 short\n")) 0 true))
      (Ok (record { lines = 2; faults = 1 }))
  unfolding lines ended cut_at_line_feeds without_cr
  finished = record {
    got = codes "a\nb";
    read = refl;
    bytes = a_before (codes "b") b_alone;
    reads = omega arith;
    end = refl;
    at_end = refl;
    no_failed_read = refl;
    written = sym two_answers;
    no_failed_write = refl;
    flushed = refl;
    lines_counted = refl;
    faults_counted = sym one_error;
    compared = record { goes_on = omega arith; at_most = omega (arith, two_bounds) };
  }

  abbrev stopped_at : ℕ → RunTold
  stopped_at failures =
      told holder 7 (source (Some (codes "c")) 2 0 failures) (drain (Some (codes "granted\n")) 0 true)

  -- A read failed, or no read is left. The line that had ended was answered, and that answer handed on. "b" was not
  -- answered, as no LF ended it.
  stopped : Outcome 2 task (before holder (codes "a\nbc")) (stopped_at 1) (Err Read)
      × Outcome 2 task (before holder (codes "a\nbc")) (stopped_at 0) (Err TooManyReads)
  unfolding ended cut_at_line_feeds without_cr
  stopped =
      let stop : (failures : ℕ) → Stopped 2 task (before holder (codes "a\nbc")) (stopped_at failures) =
      λ failures. record {
        got = codes "a\nb";
        read = refl;
        bytes = a_before (codes "b") b_alone;
        reads = omega arith;
        no_end = refl;
        written = sym one_answer;
        handed_on = inr refl;
        no_failed_write = refl;
        compared = record { goes_on = omega arith; at_most = omega (arith, one_bound) };
      } in
      ((stop 1, refl), (stop 0, record { at_least = omega arith; at_most = omega arith }, refl))

  -- The device took the answer to "a", which the first read had brought, and two bytes of the answer to "b".
  write_failed : Outcome 2 task (before holder (codes "a\nb\n"))
      (told holder 12 (source (Some []) 2 0 0) (drain (Some (codes "granted\ner")) 1 false)) (Err Write)
  unfolding ended cut_at_line_feeds without_cr
  write_failed = record {
    got = codes "a\nb\n";
    read = refl;
    bytes = a_before (codes "b\n") b_ended;
    reads = omega arith;
    no_failed_read = refl;
    all = codes "a" ∷ codes "b" ∷ [];
    these = inr (refl, refl);
    written = codes "granted\ner";
    wrote = refl;
    is_prefix = (codes "ror 5 short\n", two_answers);
    failed = refl;
    whole = codes "a" ∷ [];
    broken = codes "b" ∷ [];
    more = [];
    split = refl;
    one = omega arith;
    part = codes "er";
    is_part = (codes "ror 5 short\n", other_answer);
    joined = rw one_answer refl;
    compared = record { goes_on = omega arith; at_most = omega (arith, two_bounds) };
    front = codes "a\n";
    last_read = codes "b\n";
    cut = refl;
    one_read = omega arith;
    went_out = ([], refl);
  }

  -- The end was read, and the device took nothing.
  nothing_written : Outcome 2 task (before holder (codes "a\nb"))
      (told holder 7 (source (Some []) 2 1 0) (drain (Some []) 1 false)) (Err Write)
  unfolding lines ended cut_at_line_feeds without_cr
  nothing_written = record {
    got = codes "a\nb";
    read = refl;
    bytes = a_before (codes "b") b_alone;
    reads = omega arith;
    no_failed_read = refl;
    all = codes "a" ∷ codes "b" ∷ [];
    these = inl (refl, refl);
    written = [];
    wrote = refl;
    is_prefix = (codes "granted\nerror 5 short\n", two_answers);
    failed = refl;
    whole = [];
    broken = codes "a" ∷ [];
    more = codes "b" ∷ [];
    split = refl;
    one = omega arith;
    part = [];
    is_part = (codes "granted\n", one_answer);
    joined = no_answer;
    compared = record { goes_on = omega arith; at_most = omega (arith, one_bound) };
    front = [];
    last_read = codes "a\nb";
    cut = refl;
    one_read = omega arith;
    went_out = (_, refl);
  }

  -- An input that is cut behind an LF has the answers, lines and error lines of its pieces.
  pieces : Splits task holder (codes "a") (codes "b")
  unfolding lines ended cut_at_line_feeds without_cr
  pieces = record {
    answered = rw one_answer (rw other_answer two_answers);
    line_count = refl;
    error_count = rw no_error (rw other_error one_error);
  }

pieces_behind_an_lf : (task : Task) (holder : Holder) (front back : List ℕ) → Splits task holder front back
    → (answers task holder (lines (front ++ 10 ∷ back))
    ≡ answers task holder (lines (front ++ 10 ∷ [])) ++ answers task holder (lines back))
    × (length (lines (front ++ 10 ∷ back)) ≡ length (lines (front ++ 10 ∷ [])) + length (lines back))
    × (errors task holder (lines (front ++ 10 ∷ back))
    ≡ errors task holder (lines (front ++ 10 ∷ [])) + errors task holder (lines back))
pieces_behind_an_lf task holder front back h = (h.answered, h.line_count, h.error_count)

-- 4. What went out before a failure.

-- No line had ended, or a flush came last.
handed_on : (old new : DrainTold) → HandedOn (codes "a") old old × (new.flushed ≡ true → HandedOn (codes "a\n") old new)
unfolding ended cut_at_line_feeds without_cr
handed_on old new = (inl (refl, refl), λ h. inr h)

held_back : (old new : DrainTold) → new.flushed ≡ false → HandedOn (codes "a\n") old new → ⊥
unfolding ended cut_at_line_feeds without_cr
held_back old new h (inl quiet) = let bad = quiet.0 in cc
held_back old new h (inr flushed) = let bad : true ≡ false = sym flushed ∙ h in cc

front : IsFront (codes "a" ∷ []) (codes "a" ∷ codes "b" ∷ [])
front = (codes "b" ∷ [], refl)

no_front : (IsFront ([] ∷ []) (codes "a" ∷ [] ∷ []) → ⊥) × (IsFront (codes "a" ∷ [] ∷ []) (codes "a" ∷ []) → ⊥)
no_front = (λ (back, h). cc, λ (back, h). cc)

largest_read : most_of_a_read ≡ 8192
largest_read = refl

-- One read brought as much as a read can, each line in it was answered, and then the flush failed.
failed_flush : (task : Task) (holder : Holder) (piece : List ℕ) → AreBytes piece → length piece ≡ 8192
    → WriteFailed 1 task (before holder piece)
    (told holder (bounds task holder (ended piece)) (source (Some []) 1 0 0)
    (drain (Some (answers task holder (ended piece))) 1 false))
unfolding ended cut_at_line_feeds
failed_flush task holder piece bytes size = record {
  got = piece;
  read = sym (append-nil piece);
  bytes = bytes;
  reads = omega arith;
  no_failed_read = refl;
  all = ended piece;
  these = inr (refl, refl);
  written = answers task holder (ended piece);
  wrote = refl;
  is_prefix = ([], sym (append-nil (answers task holder (ended piece))));
  failed = refl;
  whole = ended piece;
  broken = [];
  more = [];
  split = sym (append-nil (ended piece ++ []) ∙ append-nil (ended piece));
  one = omega arith;
  part = [];
  is_part = (answers task holder [], refl);
  joined = sym (append-nil (answers task holder (ended piece)));
  compared = rw append-nil (record { goes_on = omega arith; at_most = omega arith });
  front = [];
  last_read = piece;
  cut = refl;
  one_read = omega (arith, size);
  went_out = (ended piece, refl);
}

-- At most one answer is cut, in the last read.
one_cut_answer : (most : ℕ) (task : Task) (old new : RunTold) (h : WriteFailed most task old new)
    → (length h.broken ≤ 1) × (length h.last_read ≤ 8192)
one_cut_answer most task old new h = (h.one, h.one_read)
