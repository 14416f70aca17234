use Rattle.std.proofs.Common.{◌≡◌, refl}
use Rattle.std.specs.List.{flat_map}
use Rattle.sd_inherit.specs.Inner.Building.{listed, with_aces}
use Rattle.sd_inherit.specs.Origins.{gives}
use Rattle.sd_inherit.proofs.BuildingLaws.{full_all, full_one, parts_one, stays_open, with_one}
use Rattle.sd_inherit.proofs.inherited.AceSource.put_each.Goals as goal
use Rattle.sd_inherit.proofs.inherited.AceSource.put_each.Goals.{After-given_by}

these : (c : After-given_by) → listed c.given_by.result ≡ gives c.args.self.giver c.args.self.plan.now c.in-Some.ace
these c = c.given_by.ensures

pub put_copies-requires : goal.put_copies-requires
put_copies-requires c = let t = c.requires.0 in (
  with_aces (flat_map (gives c.args.self.giver c.args.self.plan.now) c.loop-ace.yielded) t,
  c.loop-ace.invariant.writes t c.requires.1,
  c.loop-ace.invariant.room t c.requires.1 c.requires.2,
)

pub loop-ace-preserved : goal.loop-ace-preserved
loop-ace-preserved c =
    let f = gives c.args.self.giver c.args.self.plan.now in
    let ys = c.loop-ace.yielded in
    let a = c.in-Some.ace in
    let is = these (goal.at.loop-ace-preserved c).After-given_by in
    record {
      parts = parts_one f ys a _ _ _ c.loop-ace.invariant.parts c.in-Some.ensures.steps;
      writes = λ t h. rw (← with_one f ys a t)
          (rw is at (c.in_ok-put_copies.ensures.ok (with_aces (flat_map f ys) t) (c.loop-ace.invariant.writes t h)));
      room = λ t h o. rw (← with_one f ys a t)
          (let before = with_aces (flat_map f ys) t in
          let room = c.loop-ace.invariant.room t h o in
          stays_open before (f a) room
          (rw is at (c.in_ok-put_copies.ensures.full before (c.loop-ace.invariant.writes t h) room)));
    }

pub returns-in_err-put_copies-clause-full : goal.returns-in_err-put_copies-clause-full
returns-in_err-put_copies-clause-full c = λ t h o.
    let f = gives c.args.self.giver c.args.self.plan.now in
    let ys = c.loop-ace.yielded in
    let is = these (goal.at.returns-in_err-put_copies-clause-full c).After-given_by in
    let before = with_aces (flat_map f ys) t in
    let full = full_one f ys c.in-Some.ace _ _ _ c.loop-ace.invariant.parts c.in-Some.ensures.steps t o
    (rw is at (c.in_err-put_copies.ensures.full before (c.loop-ace.invariant.writes t h)
    (c.loop-ace.invariant.room t h o))) in
    (λ _. full.0 refl, λ _. c.from_residual.ensures.0)

pub returns-clause-full : goal.returns-clause-full
returns-clause-full c = λ t h o.
    full_all (gives c.args.self.giver c.args.self.plan.now) c.loop-ace.yielded _ _ t o (c.loop-ace.invariant.room t h o)
    c.loop-ace.invariant.parts c.in-None.ensures.steps.0
