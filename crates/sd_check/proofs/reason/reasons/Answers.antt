use Rattle.std.proofs.Common.{◌≡◌, ◌≤◌, ◌+◌, ◌*◌, Some, length, arith, ap, ◌∙◌, refl}
use Rattle.std.proofs.lemmas.Nat.{mul-le}
use Rattle.sd_check.specs.Acl.{listed_aces}
use Rattle.sd_check.specs.Reasons.{reasons_need}
use Rattle.sd_check.specs.Inner.Scan.{scan_need}
use Rattle.sd_check.specs.declared.reason.Reason.{Reason}
use Rattle.sd_check.proofs.ReasonLaws.{all_reasons, grants-is, names_ace, open_rights, reason_is, reasons_need-le}
use Rattle.sd_check.proofs.ReasonLaws.{reasons_scan-le}
use Rattle.sd_check.proofs.VerdictLaws.{bound_from_need}
use Rattle.sd_check.proofs.reason.reasons.Goals as goal
use Rattle.sd_check.proofs.reason.reasons.Given.{Over}
use Rattle.sd_check.proofs.reason.reasons.Goals.{After-reasons_by_aces-reasons, After-undecided-undecided}

undecided : (g : Over) (c : After-undecided-undecided g)
    → c.undecided-undecided.result ≡ open_rights c.args.view.now c.args.token.now.holder c.args.ask.now
undecided g c = c.undecided-undecided.ensures
    ∙ rw (c.granted_without_ace-without_ace.ensures.value, c.permitted-permitted.ensures) refl

pub returns-clause-reasons : goal.returns-clause-reasons
returns-clause-reasons g c =
    let d = c.args.view.now in
    let holder = c.args.token.now.holder in
    let ask = c.args.ask.now in
    all_reasons c.give_label.new.reasons d holder ask c.give_label.array_long (λ right below.
    c.give_label.ensures right _ (c.give-3.ensures right _ (c.give-2.ensures right _ (c.give.ensures right _
    (c.reasons_by_aces-reasons.ensures.reasons right below))))
    ∙ ap (λ (r : Reason). Some r)
    (rw (
      undecided g (goal.at.returns-clause-reasons g c).After-undecided-undecided,
      c.granted_without_ace-without_ace.ensures.asks.holder,
      c.granted_without_ace-without_ace.ensures.value,
      c.mask_if.ensures.value,
      c.is_open.ensures,
    )
    (reason_is d holder ask c.permitted-permitted.result right c.permitted-permitted.ensures (omega arith) below)))

pub returns-clause-granted : goal.returns-clause-granted
returns-clause-granted g c = λ right below. grants-is right c.args.view.now c.args.token.now.holder c.args.ask.now

pub returns-clause-aces : goal.returns-clause-aces
returns-clause-aces g c = λ right below. names_ace right c.args.view.now c.args.token.now.holder c.args.ask.now

-- the comparisons with the ACEs
scanned : (g : Over) (c : After-reasons_by_aces-reasons g)
    → c.undecided-undecided.result ≡ open_rights c.args.view.now c.args.token.now.holder c.args.ask.now
    → c.reasons_by_aces-reasons.new.token.compared
    ≤ c.granted_without_ace-without_ace.new.token.compared
    + reasons_need c.args.view.now c.args.token.now.holder c.args.ask.now * length c.args.token.now.holder.entries
scanned g c e =
    let d = c.args.view.now in
    let holder = c.args.token.now.holder in
    let ask = c.args.ask.now in
    let n = length holder.entries in
    let most = rw (e, c.granted_without_ace-without_ace.ensures.asks.holder) at
    c.reasons_by_aces-reasons.ensures.asks.compared.at_most in
    omega (
      arith,
      most,
      mul-le (scan_need (open_rights d holder ask) d holder.entries ask (listed_aces d.dacl)) n
          (reasons_need d holder ask) n
          (reasons_scan-le d holder ask) (omega arith),
    )

at_most : (g : Over) (c : After-reasons_by_aces-reasons g)
    → c.undecided-undecided.result ≡ open_rights c.args.view.now c.args.token.now.holder c.args.ask.now
    → c.reasons_by_aces-reasons.new.token.compared
    ≤ c.args.token.now.compared
    + (reasons_need c.args.view.now c.args.token.now.holder c.args.ask.now + 1) * length c.args.token.now.holder.entries
at_most g c e = omega (arith, scanned g c e, c.granted_without_ace-without_ace.ensures.asks.compared.at_most)

pub returns-clause-asks : goal.returns-clause-asks
returns-clause-asks g c =
    let at = goal.at.returns-clause-asks g c in
    record {
      holder = c.reasons_by_aces-reasons.ensures.asks.holder ∙ c.granted_without_ace-without_ace.ensures.asks.holder;
      compared = record {
        goes_on = omega (
          arith,
          c.granted_without_ace-without_ace.ensures.asks.compared.goes_on,
          c.reasons_by_aces-reasons.ensures.asks.compared.goes_on,
        );
        at_most = at_most g at.After-reasons_by_aces-reasons (undecided g at.After-undecided-undecided);
      };
    }

pub returns-clause-bound : goal.returns-clause-bound
returns-clause-bound g c =
    let at = goal.at.returns-clause-bound g c in
    record {
      goes_on = omega (
        arith,
        c.granted_without_ace-without_ace.ensures.asks.compared.goes_on,
        c.reasons_by_aces-reasons.ensures.asks.compared.goes_on,
      );
      at_most = bound_from_need c.args.view.now c.args.token.now.holder.entries _ _ _
          (reasons_need-le c.args.view.now c.args.token.now.holder c.args.ask.now)
          (at_most g at.After-reasons_by_aces-reasons (undecided g at.After-undecided-undecided));
    }
