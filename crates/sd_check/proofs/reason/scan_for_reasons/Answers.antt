use Rattle.std.proofs.Common.{◌≡◌, ◌∷◌, ◌&&◌, ◌-◌, ℕ, List, Some, ap, ◌∙◌, sym, refl, arith, rules, length-append}
use Rattle.std.proofs.lemmas.Bool.{and_parts}
use Rattle.std.proofs.lemmas.Nat.{and_le_l}
use Rattle.sd_ace.specs.Ace.{AccessControlEntry}
use Rattle.sd_rights.specs.Mapping.{carries}
use Rattle.sd_token.specs.Token.{Entry, Holder}
use Rattle.sd_check.specs.Granted.{decides}
use Rattle.sd_check.specs.Reasons.{by_ace, by_first}
use Rattle.sd_check.proofs.Masks.{carries-zero}
use Rattle.sd_check.proofs.ReasonLaws.{decided_here, leaves_all, leaves_step, reasoned_all, reasoned_none}
use Rattle.sd_check.proofs.ReasonLaws.{reasoned_step}
use Rattle.sd_check.proofs.ScanLaws.{IsDecided, scan_asks, scans_start, scans_step}
use Rattle.sd_check.proofs.reason.scan_for_reasons.Goals as goal

pub loop-ace-init : goal.loop-ace-init
loop-ace-init g c =
    let all : c.into_iter-ace-iterator.result ≡ c.args.acl.now = search rules in
    let d = c.args.view.now in
    let t = c.args.token.now.holder.entries in
    let ask = c.args.ask.now in
    record {
      scans = rw all (scans_start d ask c.args.acl.now c.args.question c.args.token.now);
      limit = c.requires;
      place = refl;
      reasons = reasoned_none c.args.question (λ right. by_first (decides right d t ask) c.args.acl.now);
      left = rw all (leaves_all d t ask c.args.acl.now c.args.question);
    }

pub returns-then-undecided-eq0-clause-reasons : goal.returns-then-undecided-eq0-clause-reasons
returns-then-undecided-eq0-clause-reasons g c =
    reasoned_all _ _ _ _ c.loop-ace.invariant.reasons (λ right one.
    let none = ap (λ (n : ℕ). carries n right) c.if-undecided-eq0.true ∙ carries-zero right in
    absurd (cc))

pub returns-then-undecided-eq0-clause-asks : goal.returns-then-undecided-eq0-clause-asks
returns-then-undecided-eq0-clause-asks g c = scan_asks _ _ _ _ _ _ _ _ _ c.loop-ace.invariant.scans

pub returns-clause-asks : goal.returns-clause-asks
returns-clause-asks g c = scan_asks _ _ _ _ _ _ _ _ _ c.loop-ace.invariant.scans

pub give-requires : goal.give-requires
give-requires g c = omega (arith, c.decided-decided.ensures.fewer, c.loop-ace.invariant.limit)

pub loop-ace-preserved : goal.loop-ace-preserved
loop-ace-preserved g c =
    let d = c.args.view.now in
    let t = c.args.token.now.holder.entries in
    let ask = c.args.ask.now in
    let a = c.in-Some.ace in
    let rest = c.next.new.self in
    let u = c.loop-ace.undecided in
    let m = c.decided-decided.result in
    let so_far = c.loop-ace.invariant.scans in
    let same = ap (λ (h : Holder). h.entries) so_far.holder in
    let steps : c.loop-ace.ace-iterator ≡ a ∷ rest = c.in-Some.ensures.steps in
    let decides_these : IsDecided d t ask a u m = λ (right : ℕ). c.decided-decided.ensures.rights right
    ∙ ap (λ (x : List Entry). carries u right && decides right d x ask a) same in
    let left = rw steps at c.loop-ace.invariant.left in
    let told : c.reason_at.result ≡ by_ace (Some c.loop-ace.place) (Some a) =
    search (rules, c.reason_at.ensures, c.kind.ensures) in
    record {
      scans = scans_step d ask a c.args.acl.now c.loop-ace.yielded c.loop-ace.ace-iterator rest c.args.question u m
          c.args.token.now c.loop-ace.token c.decided-decided.new.token c.requires (omega arith) (omega arith)
          c.if-undecided-eq0.false steps c.decided-decided.ensures.rights c.decided-decided.ensures.asks so_far;
      limit = omega (arith, c.loop-ace.invariant.limit, and_le_l u (4294967295 - m));
      place = rw c.loop-ace.invariant.place (omega (arith, length-append {A = AccessControlEntry}));
      reasons = reasoned_step d t ask a c.loop-ace.reasons c.give.new.reasons c.args.question u m c.loop-ace.place
          (λ right. by_first (decides right d t ask) c.args.acl.now) (omega arith) (omega arith) decides_these
          (λ right one. (and_parts (carries c.args.question right) _ (sym (so_far.undecided right) ∙ one)).0)
          (λ right one decided. left right one
          ∙ decided_here (decides right d t ask) a rest c.loop-ace.place decided)
          (rw told at c.give.ensures) c.loop-ace.invariant.reasons;
      left = leaves_step d t ask c.args.acl.now c.loop-ace.place a rest u m (omega arith) (omega arith) decides_these
          left;
    }
