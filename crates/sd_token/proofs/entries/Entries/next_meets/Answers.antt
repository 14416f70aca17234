use Rattle.std.proofs.Common.{◌≡◌, ◌<◌, ◌*◌, ◌∙◌, ℕ, length, take, drop, get_or, ap, sym, refl, arith}
use Rattle.std.specs.Prelude.{◌==◌}
use Rattle.sd_token.specs.Token.{entry_meets}
use Rattle.sd_token.specs.Inner.Search.{EntriesShown}
use Rattle.sd_token.specs.TokenWords.{entry_of, nobody}
use Rattle.sd_token.proofs.TokenLemmas.{as_many, one_met, with_key, without_key}
use Rattle.sd_token.proofs.entries.Entries.next_meets.Goals as goal
use Rattle.sd_token.proofs.entries.Entries.next_meets.Goals.{After-keys, then-keys-index, else-keys-index}
use Rattle.sd_token.proofs.entries.Entries.next_meets.Given.{Over}

-- the place is that of an entry
within : (g : Over) (c : After-keys g) → c.self.inside.place < length (g.M.Memory.numbers c.self.inside.memory).keys
within g c =
    let numbers = g.M.Memory.numbers c.self.inside.memory in
    let place = ap (λ (e : EntriesShown). e.place) c.self.view_is in
    let many = ap (λ (e : EntriesShown). length e.entries) c.self.view_is in
    omega (arith, place, many, as_many numbers.keys numbers.words, c.requires.within)

pub bounds-keys-index : goal.bounds-keys-index
bounds-keys-index g c =
    let least = within g (goal.at.bounds-keys-index g c).After-keys in
    rw c.keys.ensures least

pub one_is_met-requires : goal.one_is_met-requires
one_is_met-requires g c =
    let least = within g (goal.at.one_is_met-requires g c).After-keys in
    rw c.words.ensures (omega (arith, least, c.self.invariant))

pub invariant_of-self : goal.invariant_of-self
invariant_of-self g c =
    let least = within g (goal.at.invariant_of-self g c).After-keys in
    (omega (arith, c.self.invariant), omega (arith, least), c.self.invariant.2, c.self.invariant.3)

pub returns-clause-value : goal.returns-clause-value
returns-clause-value g c =
    let least = within g (goal.at.returns-clause-value g c).After-keys in
    let numbers = g.M.Memory.numbers c.self.inside.memory in
    let s = g.S.Sought.sid c.args.sid.now in
    let place = c.self.inside.place in
    let met = entry_meets s c.args.deny (entry_of (take 19 (drop (19 * place) numbers.words))) in
    let key_is : get_or c.keys.result.now place 0 ≡ get_or numbers.keys place 0 = rw c.keys.ensures refl in
    rw (← c.self.view_is)
    (elim c.if-keys-index.branch [
      | then-keys-index w ↦ w.result-is ∙ (rw w.words.ensures at w.one_is_met.ensures)
          ∙ with_key (get_or numbers.keys place 0) c.args.key met (sym key_is ∙ w.if-keys-index.true)
      | else-keys-index w ↦ w.result-is ∙ ap (λ (k : ℕ). k == c.args.key) key_is
          ∙ without_key (get_or numbers.keys place 0) c.args.key met (λ same. w.if-keys-index.false (key_is ∙ same))
    ]
    ∙ one_met s c.args.deny numbers.keys numbers.words place c.args.key nobody least c.requires.limit c.requires.key)
