use Rattle.std.proofs.Common.{◌≡◌, [], ◌∷◌, arith, length-append, refl, rules}
use Rattle.sd_inherit.specs.Inner.Building.{listed}
use Rattle.sd_inherit.specs.Origins.{gives}
use Rattle.sd_inherit.proofs.BuildingLaws.{all_yielded, parts_one}
use Rattle.sd_inherit.proofs.CountingLaws.{origins_one, place_below, room_one, writes_none, writes_then}
use Rattle.sd_inherit.proofs.inherited.AceSource.put_origins.Goals as goal
use Rattle.sd_inherit.proofs.inherited.AceSource.put_origins.Goals.{After-given_by}

these : (c : After-given_by) → listed c.given_by.result ≡ gives c.args.self.giver c.args.self.plan.now c.in-Some.ace
these c = c.given_by.ensures

pub loop-ace-init : goal.loop-ace-init
loop-ace-init c = record { parts = search rules; place = refl; writes = writes_none c.args.at c.args.cells.now }

pub put_copies-end-requires : goal.put_copies-end-requires
put_copies-end-requires c =
    let g = c.args.self.giver in
    let plan = c.args.self.plan.now in
    let ys = c.loop-ace.yielded in
    let a = c.in-Some.ace in
    let is = these (goal.at.put_copies-end-requires c).After-given_by in
    rw is
    (room_one g plan ys _ _ a c.args.at _ c.args.cells.now _
    (parts_one (gives g plan) ys a _ _ _ c.loop-ace.invariant.parts c.in-Some.ensures.steps) c.requires.room
    c.loop-ace.invariant.writes)

pub overflow_add-place : goal.overflow_add-place
overflow_add-place c =
    let ys = c.loop-ace.yielded in
    let a = c.in-Some.ace in
    let below = place_below ys _ _ a
    (parts_one (gives c.args.self.giver c.args.self.plan.now) ys a _ _ _ c.loop-ace.invariant.parts
    c.in-Some.ensures.steps) in
    let place = c.loop-ace.invariant.place in
    let few = c.requires.few in
    omega (arith, below, place, few)

pub loop-ace-preserved : goal.loop-ace-preserved
loop-ace-preserved c =
    let g = c.args.self.giver in
    let plan = c.args.self.plan.now in
    let ys = c.loop-ace.yielded in
    let a = c.in-Some.ace in
    let is = these (goal.at.loop-ace-preserved c).After-given_by in
    record {
      parts = parts_one (gives g plan) ys a _ _ _ c.loop-ace.invariant.parts c.in-Some.ensures.steps;
      place = let e = c.loop-ace.invariant.place in let more = length-append ys (a ∷ []) in omega (arith, e, more);
      writes = rw (origins_one g plan ys a)
          (writes_then _ _ c.args.at _ _ c.args.cells.now _ _ c.loop-ace.invariant.writes
          (rw (is, c.loop-ace.invariant.place) at c.put_copies-end.ensures));
    }

pub returns : goal.returns
returns c =
    rw (all_yielded c.loop-ace.yielded _ _ c.loop-ace.invariant.parts c.in-None.ensures.steps.0)
    c.loop-ace.invariant.writes
