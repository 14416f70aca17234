-- A run after one line more, and after more bytes.
use Rattle.std.proofs.Common.{◌≡◌, ◌≢◌, ℕ, ◌+◌, ◌-◌, ◌<◌, ◌≤◌, List, [], ◌∷◌, ◌++◌, Bool, true, false, cond, length}
use Rattle.std.proofs.Common.{zero, suc, nat_lt, rules, refl, sym, ◌∙◌, ap, subst, arith, append_assoc, append-nil}
use Rattle.std.proofs.Common.{take, drop, get_or}
use Rattle.std.proofs.lemmas.List.{length_push, take_more, take-append-drop, take_rest, length-drop, get_or-drop}
use Rattle.std.proofs.Math.Seq.{take-add}
use Rattle.std.proofs.KnownBytes.{Appends-trans}
use Rattle.sd_token.specs.Token.{Compares, Holder, TokenShown}
use Rattle.sd_sink.specs.Sink.{SinkTold, PutAll, PutSome}
use Rattle.sd_sink.proofs.laws.SinkLemmas.{PutAll-nil, PutAll-trans}
use Rattle.sd_run.specs.Lines.{cut_at_line_feeds, ended, lines, last_line, has_lf}
use Rattle.sd_answer.specs.LineEnd.{without_cr}
use Rattle.sd_answer.specs.Answer.{answer, bound, is_error}
use Rattle.sd_run.specs.Answers.{answers, bounds, errors}
use Rattle.sd_run.specs.Inner.Running.{AfterBytes, Answered, Failed, Standing}
use Rattle.sd_answer.specs.LineInHand.{Holds}
use Rattle.sd_answer.specs.declared.job.Task.{Task}
use Rattle.sd_answer.specs.declared.line.Line.{Line}
use Rattle.sd_run.proofs.LineCutLemmas.{NoLf, has_lf-none, ended-more, rest-more, ended-lf, rest-lf, ended-append}
use Rattle.sd_run.proofs.AnswersLemmas.{answers-one, answers-push, errors-push, bounds-push}

-- comparisons, and further ones
Compares-more : (token0 token token' : TokenShown) (n more : ℕ) → Compares token0 token n → Compares token token' more
    → Compares token0 token' (n + more)
Compares-more token0 token token' n more h further =
    let low = h.goes_on in
    let high = h.at_most in
    let then_low = further.goes_on in
    let then_high = further.at_most in
    record { goes_on = omega arith; at_most = omega arith }

-- the line in hand does not matter to what is answered
pub Answered-line : {task : Task} {token0 : TokenShown} {sink0 : SinkTold} {all : List (List ℕ)} {old : Standing}
    {line : Line} → Answered task token0 sink0 all old
    → Answered task token0 sink0 all (record old { state = record old.state { line = line } })
Answered-line h = record {
  put = h.put;
  lines_counted = h.lines_counted;
  faults_counted = h.faults_counted;
  same_holder = h.same_holder;
  compared = h.compared;
}

-- one line more is answered
pub Answered-push : (task : Task) (token0 : TokenShown) (sink0 : SinkTold) (all : List (List ℕ)) (text : List ℕ)
    (old new : Standing)
    → Answered task token0 sink0 all old
    → PutAll old.sink new.sink (answer task old.token.holder text)
    → new.token.holder ≡ old.token.holder
    → Compares old.token new.token (bound task old.token.holder text)
    → new.state.report.lines ≡ old.state.report.lines + 1
    → new.state.report.faults ≡ old.state.report.faults + cond (is_error task old.token.holder text) 1 0
    → Answered task token0 sink0 (all ++ text ∷ []) new
Answered-push task token0 sink0 all text old new h put same further more_lines more_faults =
    let put0 : PutAll old.sink new.sink (answer task token0.holder text) = subst
    (λ (e : Holder). PutAll old.sink new.sink (answer task e text)) h.same_holder put in
    let faults0 : new.state.report.faults ≡ old.state.report.faults + cond (is_error task token0.holder text) 1 0 =
    subst (λ (e : Holder). new.state.report.faults ≡ old.state.report.faults + cond (is_error task e text) 1 0)
    h.same_holder more_faults in
    record {
      put = rw (answers-push task token0.holder all text) (PutAll-trans _ _ _ _ _ h.put put0);
      lines_counted = more_lines ∙ ap (λ n. n + 1) h.lines_counted ∙ sym (length_push all text);
      faults_counted = faults0 ∙ ap (λ n. n + cond (is_error task token0.holder text) 1 0) h.faults_counted
          ∙ sym (errors-push task token0.holder all text);
      same_holder = same ∙ h.same_holder;
      compared = rw (bounds-push task token0.holder all text) (Compares-more token0 old.token new.token _ _ h.compared
          (subst (λ (e : Holder). Compares old.token new.token (bound task e text)) h.same_holder further));
    }

-- the answer to one line more breaks off
pub Failed-push : (task : Task) (token0 : TokenShown) (sink0 : SinkTold) (all : List (List ℕ)) (text : List ℕ)
    (old new : Standing)
    → Answered task token0 sink0 all old
    → PutSome old.sink new.sink (answer task old.token.holder text)
    → new.token.holder ≡ old.token.holder
    → Compares old.token new.token (bound task old.token.holder text)
    → Failed task token0 sink0 all (all ++ text ∷ []) new
Failed-push task token0 sink0 all text old new h put same further =
    let put0 : PutSome old.sink new.sink (answer task token0.holder text) = subst
    (λ (e : Holder). PutSome old.sink new.sink (answer task e text)) h.same_holder put in
    record {
      whole = all;
      broken = text ∷ [];
      more = [];
      part = put0.part;
      split = sym (append-nil (all ++ text ∷ []));
      begins = ([], sym (append-nil all));
      one = omega arith;
      is_prefix = rw (answers-one task token0.holder text) put0.is_prefix;
      appended = Appends-trans _ _ _ _ _ h.put.appended put0.appended;
      failed = let none = h.put.no_failure in let rose = put0.failed in omega arith;
      same_holder = same ∙ h.same_holder;
      compared = rw (bounds-push task token0.holder all text) (Compares-more token0 old.token new.token _ _ h.compared
          (subst (λ (e : Holder). Compares old.token new.token (bound task e text)) h.same_holder further));
    }

-- further lines are not answered either
Failed-more : (task : Task) (token0 : TokenShown) (sink0 : SinkTold) (before all more : List (List ℕ)) (now : Standing)
    → Failed task token0 sink0 before all now → Failed task token0 sink0 before (all ++ more) now
Failed-more task token0 sink0 before all more now h = record {
  whole = h.whole;
  broken = h.broken;
  more = h.more ++ more;
  part = h.part;
  split = ap (λ l. l ++ more) h.split ∙ append_assoc (h.whole ++ h.broken) h.more more;
  begins = h.begins;
  one = h.one;
  is_prefix = h.is_prefix;
  appended = h.appended;
  failed = h.failed;
  same_holder = h.same_holder;
  compared = h.compared;
}

-- nothing was read
pub AfterBytes-nil : (task : Task) (now : Standing) → Holds task.job now.state.line []
    → now.state.report.lines ≡ 0 → now.state.report.faults ≡ 0
    → AfterBytes task now.token now.sink [] now
unfolding cut_at_line_feeds ended answers errors bounds
AfterBytes-nil task now h no_lines no_faults = record {
  holds = h;
  answered = record {
    put = PutAll-nil now.sink;
    lines_counted = no_lines;
    faults_counted = no_faults;
    same_holder = refl;
    compared = record { goes_on = omega arith; at_most = omega arith };
  };
}

-- bytes that are no LF: nothing but the line in hand changes
pub AfterBytes-more : (task : Task) (token0 : TokenShown) (sink0 : SinkTold) (got bytes : List ℕ) (old new : Standing)
    → NoLf bytes
    → AfterBytes task token0 sink0 got old
    → new.state.report ≡ old.state.report → new.token ≡ old.token → new.sink ≡ old.sink
    → Holds task.job new.state.line ((cut_at_line_feeds got).rest ++ bytes)
    → AfterBytes task token0 sink0 (got ++ bytes) new
AfterBytes-more task token0 sink0 got bytes old new none h report token sink holds = record {
  holds = rw (rest-more got bytes none) holds;
  answered = rw (ended-more got bytes none) (record {
    put = rw sink h.answered.put;
    lines_counted = rw report h.answered.lines_counted;
    faults_counted = rw report h.answered.faults_counted;
    same_holder = rw token h.answered.same_holder;
    compared = rw token h.answered.compared;
  });
}

-- the rest of a line, and its LF
pub AfterBytes-line : (task : Task) (token0 : TokenShown) (sink0 : SinkTold) (got bytes : List ℕ) (now : Standing)
    → NoLf bytes
    → Answered task token0 sink0 (ended got ++ without_cr ((cut_at_line_feeds got).rest ++ bytes) ∷ []) now
    → Holds task.job now.state.line []
    → AfterBytes task token0 sink0 (got ++ bytes ++ 10 ∷ []) now
AfterBytes-line task token0 sink0 got bytes now none h holds = record {
  holds = rw (rest-lf (got ++ bytes)) holds;
  answered = rw (ended-lf (got ++ bytes), ended-more got bytes none, rest-more got bytes none) h;
}

pub Failed-line : (task : Task) (token0 : TokenShown) (sink0 : SinkTold) (before : List (List ℕ))
    (got bytes : List ℕ) (now : Standing) → NoLf bytes
    → Failed task token0 sink0 before (ended got ++ without_cr ((cut_at_line_feeds got).rest ++ bytes) ∷ []) now
    → Failed task token0 sink0 before (ended (got ++ bytes ++ 10 ∷ [])) now
Failed-line task token0 sink0 before got bytes now none h =
    rw (ended-lf (got ++ bytes), ended-more got bytes none, rest-more got bytes none) h

-- more bytes after a failure
Failed-bytes : (task : Task) (token0 : TokenShown) (sink0 : SinkTold) (before : List (List ℕ)) (got more : List ℕ)
    (now : Standing) → Failed task token0 sink0 before (ended got) now
    → Failed task token0 sink0 before (ended (got ++ more)) now
Failed-bytes task token0 sink0 before got more now h =
    let e = ended-append got more in
    rw e.1 (Failed-more task token0 sink0 before (ended got) e.0 now h)

-- the end of the input
pub lines-empty : (got : List ℕ) → (cut_at_line_feeds got).rest ≡ [] → lines got ≡ ended got
unfolding lines
lines-empty got e = ap (λ l. ended got ++ last_line l) e ∙ append-nil (ended got)

last_line-some : (raw : List ℕ) → raw ≢ [] → last_line raw ≡ raw ∷ []
last_line-some [] ne = absurd (ne refl)
last_line-some (b ∷ raw) ne = refl

pub lines-last : (got : List ℕ) → (cut_at_line_feeds got).rest ≢ []
    → lines got ≡ ended got ++ (cut_at_line_feeds got).rest ∷ []
unfolding lines
lines-last got ne = ap (λ l. ended got ++ l) (last_line-some (cut_at_line_feeds got).rest ne)

-- a fault is counted, or not
pub counted_true : (b : Bool) (n : ℕ) → b ≡ true → n + 1 ≡ n + cond b 1 0
counted_true b n e = rw e

pub counted_false : (b : Bool) (n : ℕ) → b ≡ false → n ≡ n + cond b 1 0
counted_false b n e = rw e (omega arith)

-- a place in a piece: what was fed, then a line and its LF
piece_line : (piece : List ℕ) (start n : ℕ) → start + n < length piece → get_or piece (start + n) 0 ≡ 10
    → take (start + (n + 1)) piece ≡ take start piece ++ take n (drop start piece) ++ 10 ∷ []
piece_line piece start n h e =
    let same : start + (n + 1) ≡ start + n + 1 = omega arith in
    ap (λ k. take k piece) same ∙ take_more piece (start + n) 0 h ∙ ap (λ x. take (start + n) piece ++ x ∷ []) e
    ∙ ap (λ l. l ++ 10 ∷ []) (take-add start n piece)

-- fewer lines before are among them too
Failed-since : (task : Task) (token0 : TokenShown) (sink0 : SinkTold) (got more : List ℕ) (all : List (List ℕ))
    (now : Standing) → Failed task token0 sink0 (ended (got ++ more)) all now
    → Failed task token0 sink0 (ended got) all now
Failed-since task token0 sink0 got more all now h =
    let e = ended-append got more in
    record {
      whole = h.whole;
      broken = h.broken;
      more = h.more;
      part = h.part;
      split = h.split;
      begins = (
        e.0 ++ h.begins.0,
        h.begins.1 ∙ ap (λ l. l ++ h.begins.0) e.1 ∙ append_assoc (ended got) e.0 h.begins.0,
      );
      one = h.one;
      is_prefix = h.is_prefix;
      appended = h.appended;
      failed = h.failed;
      same_holder = h.same_holder;
      compared = h.compared;
    }

pub Failed-in : (task : Task) (token0 : TokenShown) (sink0 : SinkTold) (got piece : List ℕ) (start n : ℕ)
    (now : Standing) → start + n < length piece → get_or piece (start + n) 0 ≡ 10
    → Failed task token0 sink0 (ended (got ++ take start piece))
    (ended (got ++ take start piece ++ take n (drop start piece) ++ 10 ∷ [])) now
    → Failed task token0 sink0 (ended got) (ended (got ++ piece)) now
Failed-in task token0 sink0 got piece start n now h e f =
    let whole : got ++ piece ≡ got ++ take start piece ++ take n (drop start piece) ++ 10 ∷ []
    ++ drop (start + (n + 1)) piece =
    ap (λ l. got ++ l) (sym (take-append-drop (start + (n + 1)) piece)
    ∙ ap (λ l. l ++ drop (start + (n + 1)) piece) (piece_line piece start n h e))
    ∙ (simp append_assoc) in
    Failed-since task token0 sink0 got (take start piece) _ now
    (subst (λ (l : List ℕ). Failed task token0 sink0 (ended (got ++ take start piece)) (ended l) now) (sym whole)
    (Failed-bytes task token0 sink0 _ _ (drop (start + (n + 1)) piece) now f))

pub fed_line : (got piece : List ℕ) (start n : ℕ) → start + n < length piece → get_or piece (start + n) 0 ≡ 10
    → got ++ take start piece ++ take n (drop start piece) ++ 10 ∷ [] ≡ got ++ take (start + (n + 1)) piece
fed_line got piece start n h e = rw (piece_line piece start n h e) (simp append_assoc)

-- the LF that a search from a place in a piece found
pub found_in : (piece : List ℕ) (start n : ℕ) → start ≤ length piece
    → n < length (take (length piece - start) (drop start piece))
    → get_or (take (length piece - start) (drop start piece)) n 0 ≡ 10
    → (start + n < length piece) × (get_or piece (start + n) 0 ≡ 10)
found_in piece start n within low e =
    let rest : take (length piece - start) (drop start piece) ≡ drop start piece = take_rest piece start in
    let size : n < length piece - start = rw (rest, length-drop) at low in
    let is : get_or (drop start piece) n 0 ≡ 10 = rw rest at e in
    (omega arith, sym (get_or-drop start piece n 0) ∙ is)

-- a search that goes on behind an LF has found one, and one that is still at the start sees them all
pub found_any : (piece : List ℕ) (start : ℕ) → (0 < start → has_lf piece ≡ true)
    → NoLf (take (length piece - start) (drop start piece)) → nat_lt 0 start ≡ has_lf piece
found_any piece zero found none = sym (has_lf-none piece (rw (take_rest piece zero) at none))
found_any piece (suc n) found none =
    let more : nat_lt 0 (suc n) ≡ true = search (rules, arith) in
    more ∙ sym (found (omega arith))

pub fed_rest : (got piece : List ℕ) (start : ℕ) → got ++ take start piece
    ++ take (length piece - start) (drop start piece) ≡ got ++ piece
fed_rest got piece start = rw (take_rest piece start, append_assoc, take-append-drop) refl

pub line_in : (piece : List ℕ) (start n : ℕ) → take (start + n - start) (drop start piece) ≡ take n (drop start piece)
line_in piece start n = ap (λ k. take k (drop start piece)) (omega arith)
