use Rattle.std.proofs.Common.{◌≡◌, false, true, refl, rules}
use Rattle.std.specs.List.{flat_map}
use Rattle.sd_inherit.specs.Inner.Building.{listed}
use Rattle.sd_inherit.specs.Origins.{gives}
use Rattle.sd_inherit.proofs.BuildingLaws.{all_one, all_yielded, flat_map-one, parts_one}
use Rattle.sd_inherit.proofs.CountingLaws.{counts_none, counts_stop, counts_then}
use Rattle.sd_inherit.proofs.inherited.AceSource.count_each.Goals as goal
use Rattle.sd_inherit.proofs.inherited.AceSource.count_each.Goals.{After-given_by}

these : (c : After-given_by) → listed c.given_by.result ≡ gives c.args.self.giver c.args.self.plan.now c.in-Some.ace
these c = c.given_by.ensures

pub loop-ace-init : goal.loop-ace-init
loop-ace-init c = record { parts = search rules; counts = counts_none c.args.tally.now c.requires; tally = c.requires }

pub loop-ace-preserved : goal.loop-ace-preserved
loop-ace-preserved c =
    let f = gives c.args.self.giver c.args.self.plan.now in
    let ys = c.loop-ace.yielded in
    let a = c.in-Some.ace in
    let is = these (goal.at.loop-ace-preserved c).After-given_by in
    let more = rw is at c.in_ok-add.ensures in
    record {
      parts = parts_one f ys a _ _ _ c.loop-ace.invariant.parts c.in-Some.ensures.steps;
      counts = rw (flat_map-one f ys a)
          (counts_then (flat_map f ys) (f a) _ _ _ false c.loop-ace.invariant.counts more);
      tally = more.tally refl;
    }

pub returns-in_err-add : goal.returns-in_err-add
returns-in_err-add c =
    let f = gives c.args.self.giver c.args.self.plan.now in
    let ys = c.loop-ace.yielded in
    let is = these (goal.at.returns-in_err-add c).After-given_by in
    let more = rw is at c.in_err-add.ensures in
    rw (all_one f ys c.in-Some.ace _ _ _ c.loop-ace.invariant.parts c.in-Some.ensures.steps)
    (counts_stop _ _ _ _ _ c.from_residual.ensures.0
    (counts_then (flat_map f ys) (f c.in-Some.ace) _ _ _ true c.loop-ace.invariant.counts more))

pub returns : goal.returns
returns c =
    rw (all_yielded c.loop-ace.yielded _ _ c.loop-ace.invariant.parts c.in-None.ensures.steps.0)
    c.loop-ace.invariant.counts
