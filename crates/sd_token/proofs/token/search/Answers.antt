use Rattle.std.proofs.Common.{◌≡◌, ◌-◌, ◌∙◌, arith, false, length, sym, take, ap, true}
use Rattle.sd_token.specs.Inner.Search.{EntriesShown}
use Rattle.sd_token.specs.Token.{meets}
use Rattle.sd_token.specs.TokenWords.{nobody}
use Rattle.sd_token.proofs.LookLemmas.{Searched, none_before, none_up_to, searched_all, searched_block, searched_one}
use Rattle.sd_token.proofs.token.search.Goals as goal
use Rattle.sd_token.proofs.token.search.Goals.{After-blocks_meet, Then-blocks_meet}
use Rattle.sd_token.proofs.token.search.Given.{Over}

-- none before the last block that was compared
before : (g : Over) (c : After-blocks_meet g) → meets (g.S.Sought.sid c.args.sid.now) c.args.deny
    (take (c.blocks_meet.new.self.place - 16) c.loop-entries.entries.entries) ≡ false
before g c =
    none_before (g.S.Sought.sid c.args.sid.now) c.args.deny c.loop-entries.entries.entries c.loop-entries.entries.place
    c.blocks_meet.new.self.place c.blocks_meet.ensures.blocks c.loop-entries.invariant.none c.blocks_meet.ensures.before

-- the last has an entry that meets the SID
in_block : (g : Over) (c : Then-blocks_meet g) → meets (g.S.Sought.sid c.args.sid.now) c.args.deny
    (take (c.blocks_meet.new.self.place - 16) c.loop-entries.entries.entries) ≡ false
    → Searched (g.S.Sought.sid c.args.sid.now) c.args.deny c.args.entries.now.entries true c.blocks_meet.new.self.place
in_block g c none =
    let kept = c.loop-entries.invariant in
    rw kept.entries at (searched_block (g.S.Sought.sid c.args.sid.now) c.args.deny c.loop-entries.entries.entries
    c.loop-entries.entries.place c.blocks_meet.new.self.place c.blocks_meet.ensures.blocks kept.start
    none
    (sym c.blocks_meet.ensures.value ∙ c.if-blocks_meet.true))

pub returns-then-blocks_meet-clause-value : goal.returns-then-blocks_meet-clause-value
returns-then-blocks_meet-clause-value g c =
    (in_block g (goal.at.returns-then-blocks_meet-clause-value g c).Then-blocks_meet
    (before g (goal.at.returns-then-blocks_meet-clause-value g c).After-blocks_meet)).0

pub returns-then-blocks_meet-clause-compared : goal.returns-then-blocks_meet-clause-compared
returns-then-blocks_meet-clause-compared g c =
    let found = (in_block g (goal.at.returns-then-blocks_meet-clause-compared g c).Then-blocks_meet
    (before g (goal.at.returns-then-blocks_meet-clause-compared g c).After-blocks_meet)).1 in
    let counts = ap (λ (e : EntriesShown). e.compared) c.blocks_meet.ensures.counts in
    rw found (omega (arith, counts, c.loop-entries.invariant.compared, c.blocks_meet.ensures.blocks.some))

pub loop-entries-preserved : goal.loop-entries-preserved
loop-entries-preserved g c =
    let kept = c.loop-entries.invariant in
    let counts = c.blocks_meet.ensures.counts in
    let blocks = c.blocks_meet.ensures.blocks in
    let same = ap (λ (e : EntriesShown). e.entries) counts in
    let compared = ap (λ (e : EntriesShown). e.compared) counts in
    record {
      entries = same ∙ kept.entries;
      room = ap (λ (e : EntriesShown). e.room) counts ∙ kept.room;
      compared = omega (arith, compared, kept.compared, blocks.some);
      within = rw same blocks.within;
      start = omega (arith, kept.start, blocks.whole, blocks.some);
      none = rw same (none_up_to (g.S.Sought.sid c.args.sid.now) c.args.deny c.loop-entries.entries.entries
          c.loop-entries.entries.place c.blocks_meet.new.self.place blocks
          (before g (goal.at.loop-entries-preserved g c).After-blocks_meet)
          (sym c.blocks_meet.ensures.value ∙ c.if-blocks_meet.false));
    }

pub returns-then-next_meets-clause-compared : goal.returns-then-next_meets-clause-compared
returns-then-next_meets-clause-compared g c =
    let kept = c.loop-entries-2.invariant in
    let s = g.S.Sought.sid c.args.sid.now in
    let found = rw kept.entries at
    (searched_one s c.args.deny c.loop-entries-2.entries.entries c.loop-entries-2.entries.place nobody
    kept.behind (omega (arith, c.loop-entries-2-test.true, c.left-in-loop-entries-2.ensures.value)) kept.none
    (sym c.next_meets.ensures.value ∙ c.if-next_meets.true)).1 in
    let counts = ap (λ (e : EntriesShown). e.compared) c.next_meets.ensures.counts in
    rw (found, counts, kept.compared) (omega arith)

pub returns-clause-compared : goal.returns-clause-compared
returns-clause-compared g c =
    let kept = c.loop-entries-2.invariant in
    let end : c.loop-entries-2.entries.place ≡ length c.loop-entries-2.entries.entries =
    omega (arith, c.loop-entries-2-test.false, c.left-in-loop-entries-2.ensures.value, kept.within) in
    let none = rw kept.entries at
    (searched_all (g.S.Sought.sid c.args.sid.now) c.args.deny c.loop-entries-2.entries.entries
    c.loop-entries-2.entries.place end kept.none).1 in
    rw none kept.compared
