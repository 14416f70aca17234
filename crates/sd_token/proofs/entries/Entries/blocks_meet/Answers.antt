use Rattle.std.proofs.Common.{◌≡◌, ◌≤◌, ◌+◌, ◌-◌, ◌*◌, ◌∙◌, drop, length, ap, sym, arith, ℕ, not}
use Rattle.std.specs.Prelude.{◌==◌}
use Rattle.sd_token.specs.Inner.Search.{EntriesShown, marked_meets, same_bits}
use Rattle.sd_token.proofs.BlockLemmas.{block_met, none_marked, same_bits-lt}
use Rattle.sd_token.proofs.TokenLemmas.{as_many}
use Rattle.sd_token.proofs.entries.Entries.blocks_meet.Goals as goal
use Rattle.sd_token.proofs.entries.Entries.blocks_meet.Goals.{After-keys, then-same-ne0, else-same-ne0}
use Rattle.sd_token.proofs.entries.Entries.blocks_meet.Given.{Over}

-- there is a whole block
within : (g : Over) (c : After-keys g)
    → c.self.inside.place + 16 ≤ length (g.M.Memory.numbers c.self.inside.memory).keys
within g c =
    let numbers = g.M.Memory.numbers c.self.inside.memory in
    let place = ap (λ (e : EntriesShown). e.place) c.self.view_is in
    let many = ap (λ (e : EntriesShown). length e.entries) c.self.view_is in
    omega (arith, place, many, as_many numbers.keys numbers.words, c.requires.within)

pub next_block-at-requires : goal.next_block-at-requires
next_block-at-requires g c =
    let room = within g (goal.at.next_block-at-requires g c).After-keys in
    rw c.keys.ensures record { within = room }

pub some_is_met-requires-clause-bits : goal.some_is_met-requires-clause-bits
some_is_met-requires-clause-bits g c =
    let found = c.next_block-at.ensures in
    rw (found.same) (same_bits-lt c.keys.result.now c.args.key c.next_block-at.result.0 found.blocks.within)

pub returns-clause-blocks : goal.returns-clause-blocks
returns-clause-blocks g c =
    let numbers = g.M.Memory.numbers c.self.inside.memory in
    let place = ap (λ (e : EntriesShown). e.place) c.self.view_is in
    let many : length c.args.self.now.entries ≡ length numbers.keys =
    sym (ap (λ (e : EntriesShown). length e.entries) c.self.view_is)
    ∙ as_many numbers.keys numbers.words in
    rw (← place, many, ← c.keys.ensures) c.next_block-at.ensures.blocks

pub returns-clause-value : goal.returns-clause-value
returns-clause-value g c =
    let numbers = g.M.Memory.numbers c.self.inside.memory in
    let s = g.S.Sought.sid c.args.sid.now in
    let at = c.next_block-at.result.0 in
    let found = c.next_block-at.ensures in
    let words = drop (19 * at) numbers.words in
    let room : at + 16 ≤ length numbers.keys = rw c.keys.ensures at found.blocks.within in
    let bits : c.next_block-at.result.1 ≡ same_bits numbers.keys c.args.key at 16 = rw c.keys.ensures at found.same in
    let back : at + 16 - 16 ≡ at = omega arith in
    rw (← c.self.view_is, back)
    (elim c.if-same-ne0.branch [
      | then-same-ne0 w ↦ w.result-is ∙ rw (w.words.ensures) at w.some_is_met.ensures
          ∙ ap (λ (same : ℕ). marked_meets s c.args.deny 16 same words) bits
      | else-same-ne0 w ↦ w.result-is ∙ ap (λ (same : ℕ). not (same == 0)) w.if-same-ne0.false
          ∙ sym (none_marked s c.args.deny 16 words)
          ∙ ap (λ (same : ℕ). marked_meets s c.args.deny 16 same words) (sym w.if-same-ne0.false ∙ bits)
    ]
    ∙ block_met s c.args.deny c.args.key at numbers.keys numbers.words c.requires.limit c.requires.key room)
