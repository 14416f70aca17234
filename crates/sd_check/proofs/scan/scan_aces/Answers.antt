use Rattle.std.proofs.Common.{◌≡◌, ◌∷◌, ◌&&◌, ℕ, List, ap, ◌∙◌, arith, rules}
use Rattle.sd_rights.specs.Mapping.{carries}
use Rattle.sd_token.specs.Token.{Entry, Holder}
use Rattle.sd_check.specs.Granted.{decides}
use Rattle.sd_check.proofs.ScanLaws.{IsDecided, rights_allow, rights_deny, scan_asks, scans_step}
use Rattle.sd_check.proofs.scan.scan_aces.Goals as goal
use Rattle.sd_check.proofs.scan.scan_aces.Goals.{then-is_allow, else-is_allow}

pub returns-then-undecided-eq0-clause-asks : goal.returns-then-undecided-eq0-clause-asks
returns-then-undecided-eq0-clause-asks g c = scan_asks _ _ _ _ _ _ _ _ _ c.loop-ace.invariant.scans

pub returns-clause-asks : goal.returns-clause-asks
returns-clause-asks g c = scan_asks _ _ _ _ _ _ _ _ _ c.loop-ace.invariant.scans

pub loop-ace-preserved : goal.loop-ace-preserved
loop-ace-preserved g c =
    let d = c.args.view.now in
    let t = c.args.token.now.holder.entries in
    let ask = c.args.ask.now in
    let a = c.in-Some.ace in
    let rest = c.next.new.self in
    let u = c.loop-ace.undecided in
    let m = c.decided-decided.result in
    let so_far = c.loop-ace.invariant.scans in
    let same = ap (λ (h : Holder). h.entries) so_far.holder in
    let steps : c.loop-ace.ace-iterator ≡ a ∷ rest = c.in-Some.ensures.steps in
    let decides_these : IsDecided d t ask a u m = λ (right : ℕ). c.decided-decided.ensures.rights right
    ∙ ap (λ (x : List Entry). carries u right && decides right d x ask a) same in
    record {
      scans = scans_step d ask a c.args.acl.now c.loop-ace.yielded c.loop-ace.ace-iterator rest c.args.question u m
          c.args.token.now c.loop-ace.token c.decided-decided.new.token c.requires (omega arith) (omega arith)
          c.if-undecided-eq0.false steps c.decided-decided.ensures.rights c.decided-decided.ensures.asks so_far;
      rights = λ right. elim c.if-is_allow.branch [
        | then-is_allow w ↦ rw w.granted-is
            (rights_allow d t ask a rest c.loop-ace.granted u m right (omega arith) (omega arith) decides_these
            (search (rules, c.is_allow.ensures, w.if-is_allow.true))
            ∙ (rw steps at (c.loop-ace.invariant.rights right)))
        | else-is_allow w ↦ rw w.granted-is
            (rights_deny d t ask a rest c.loop-ace.granted u m right (omega arith) (omega arith) decides_these
            (search (rules, c.is_allow.ensures, w.if-is_allow.false))
            ∙ (rw steps at (c.loop-ace.invariant.rights right)))
      ];
    }
