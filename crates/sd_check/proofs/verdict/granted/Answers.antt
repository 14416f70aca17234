use Rattle.std.proofs.Common.{◌≡◌, ◌≤◌, ◌+◌, ◌*◌, ℕ, length, arith, ap, ◌∙◌, refl}
use Rattle.sd_check.specs.Need.{need}
use Rattle.sd_check.specs.Inner.Scan.{asks_owner, undecided_of}
use Rattle.sd_check.proofs.VerdictLaws.{asks_owner-is, count_scan, granted_bit, undecided-lt}
use Rattle.sd_check.proofs.verdict.granted.Goals as goal
use Rattle.sd_check.proofs.verdict.granted.Given.{Over}
use Rattle.sd_check.proofs.verdict.granted.Goals.{After-scan, After-undecided-undecided}

undecided : (g : Over) (c : After-undecided-undecided g)
    → c.undecided-undecided.result ≡ undecided_of c.args.view.now c.args.token.now.holder c.args.ask.now
undecided g c = c.undecided-undecided.ensures
    ∙ rw (
      c.granted_without_ace-without_ace.ensures.value,
      c.question-question.ensures.value,
      c.permitted-permitted.ensures,
    ) refl

pub scan-requires : goal.scan-requires
scan-requires g c =
    rw (undecided g (goal.at.scan-requires g c).After-undecided-undecided)
    (undecided-lt c.args.view.now c.args.token.now.holder c.args.ask.now c.question-question.ensures.limits)

pub returns-clause-rights : goal.returns-clause-rights
returns-clause-rights g c =
    let e = undecided g (goal.at.returns-clause-rights g c).After-undecided-undecided in
    rw (
      c.granted_without_ace-without_ace.ensures.value,
      c.question-question.ensures.value,
      c.permitted-permitted.ensures,
    )
    (granted_bit c.args.view.now c.args.token.now.holder c.args.ask.now c.scan.result
    c.question-question.ensures.limits
    (λ n. c.scan.ensures.rights n ∙ rw (e, c.granted_without_ace-without_ace.ensures.asks.holder) refl))

-- what the scan adds to the count
scanned : (g : Over) (c : After-scan g)
    → c.undecided-undecided.result ≡ undecided_of c.args.view.now c.args.token.now.holder c.args.ask.now
    → c.scan.new.token.compared
    ≤ c.granted_without_ace-without_ace.new.token.compared
    + need c.args.view.now c.args.token.now.holder.entries c.args.ask.now * length c.args.token.now.holder.entries
scanned g c e =
    count_scan c.args.view.now c.args.token.now.holder c.args.ask.now _
    c.granted_without_ace-without_ace.new.token.compared
    c.scan.new.token.compared c.question-question.ensures.limits e
    (rw c.granted_without_ace-without_ace.ensures.asks.holder at c.scan.ensures.asks.compared.at_most)

pub returns-clause-asks : goal.returns-clause-asks
returns-clause-asks g c =
    let at = goal.at.returns-clause-asks g c in
    let owner = c.granted_without_ace-without_ace.ensures.asks.compared in
    let aces = c.scan.ensures.asks.compared in
    record {
      holder = c.scan.ensures.asks.holder ∙ c.granted_without_ace-without_ace.ensures.asks.holder;
      compared = record {
        goes_on = omega (arith, owner.goes_on, aces.goes_on);
        at_most = omega (arith, scanned g at.After-scan (undecided g at.After-undecided-undecided), owner.at_most);
      };
    }

pub returns-clause-spared : goal.returns-clause-spared
returns-clause-spared g c = λ idle.
    let at = goal.at.returns-clause-spared g c in
    let same = c.granted_without_ace-without_ace.ensures.spared
    (ap (λ (q : ℕ). asks_owner q c.args.view.now.dacl) c.question-question.ensures.value
    ∙ asks_owner-is c.args.view.now c.args.ask.now ∙ idle) in
    omega (arith, scanned g at.After-scan (undecided g at.After-undecided-undecided), same)
