use Rattle.std.proofs.Common.{◌≡◌, ◌+◌, ◌-◌, ◌*◌, ◌||◌, ◌∙◌, ℕ, ap, arith, drop, take, sym, refl}
use Rattle.std.proofs.lemmas.List.{drop-drop}
use Rattle.std.proofs.lemmas.Nat.{and_le_r}
use Rattle.std.specs.Int.Count.{count_trailing_zeros}
use Rattle.sd_token.specs.Token.{entry_meets}
use Rattle.sd_token.specs.TokenWords.{entry_of}
use Rattle.sd_token.specs.Inner.Search.{marked_meets}
use Rattle.sd_token.proofs.TokenLemmas.{either_first, either_second}
use Rattle.sd_token.proofs.BlockLemmas.{Looks, cleared, looks_at, none_marked}
use Rattle.sd_token.proofs.entries.some_is_met.Goals as goal
use Rattle.sd_token.proofs.entries.some_is_met.Goals.{In-loop-left}
use Rattle.sd_token.proofs.entries.some_is_met.Given.{Over}

-- the place of the lowest bit that is left
abbrev place : (g : Over) → In-loop-left g → ℕ
place g c = count_trailing_zeros 64 c.loop-left.left

first : (g : Over) (c : In-loop-left g) → Looks (g.S.Sought.sid c.args.sid.now) c.args.deny 16 c.loop-left.left
    (drop (19 * c.args.at) c.args.words.now) (place g c)
first g c =
    looks_at (g.S.Sought.sid c.args.sid.now) c.args.deny 16 64 c.loop-left.left (drop (19 * c.args.at) c.args.words.now)
    (omega arith) (omega (arith, c.loop-left-test.true)) c.loop-left.invariant.bits

pub loop-left-init : goal.loop-left-init
loop-left-init g c = record { bits = c.requires.bits; rest = refl }

pub is_met-requires : goal.is_met-requires
is_met-requires g c =
    let most = (first g (goal.at.is_met-requires g c).In-loop-left).within in
    omega (arith, most, c.requires.whole)

-- the entry that is looked at meets the SID, or one behind it
look : (g : Over) (c : In-loop-left g) → marked_meets (g.S.Sought.sid c.args.sid.now) c.args.deny 16 c.loop-left.left
    (drop (19 * c.args.at) c.args.words.now)
    ≡ (entry_meets (g.S.Sought.sid c.args.sid.now) c.args.deny
    (entry_of (take 19 (drop (19 * (c.args.at + place g c)) c.args.words.now)))
    || marked_meets (g.S.Sought.sid c.args.sid.now) c.args.deny 16 (cleared c.loop-left.left)
    (drop (19 * c.args.at) c.args.words.now))
look g c =
    let words = c.args.words.now in
    let k = place g c in
    let here : drop (19 * k) (drop (19 * c.args.at) words) ≡ drop (19 * (c.args.at + k)) words =
    drop-drop (19 * k) (19 * c.args.at) words ∙ ap (λ (m : ℕ). drop m words) (omega arith) in
    rw here at (first g c).either

pub returns-then-is_met : goal.returns-then-is_met
returns-then-is_met g c =
    let l = (goal.at.returns-then-is_met g c).In-loop-left in
    either_first _ _ (sym c.is_met.ensures ∙ c.if-is_met.true) ∙ sym (c.loop-left.invariant.rest ∙ look g l)

pub loop-left-preserved : goal.loop-left-preserved
loop-left-preserved g c =
    let l = (goal.at.loop-left-preserved g c).In-loop-left in
    record {
      bits = omega (arith, and_le_r c.loop-left.left (c.loop-left.left - 1), c.loop-left.invariant.bits);
      rest = c.loop-left.invariant.rest ∙ look g l ∙ either_second _ _ (sym c.is_met.ensures ∙ c.if-is_met.false);
    }

pub returns : goal.returns
returns g c =
    let s = g.S.Sought.sid c.args.sid.now in
    let words = drop (19 * c.args.at) c.args.words.now in
    sym (c.loop-left.invariant.rest
    ∙ ap (λ (bits : ℕ). marked_meets s c.args.deny 16 bits words) c.loop-left-test.false
    ∙ none_marked s c.args.deny 16 words)
