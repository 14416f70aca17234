use Rattle.std.proofs.Common.{◌≡◌, ◌<◌, ℕ, suc, ◌+◌, List, ◌++◌, length, take, get_or, sym, ap, ◌∙◌, arith}
use Rattle.std.proofs.Common.{length-append}
use Rattle.std.proofs.Math.Seq.{take-suc}
use Rattle.std.proofs.lemmas.List.{append-nil, flat_map_more, length-take-le, take_all}
use Rattle.std.specs.List.{flat_map}
use Rattle.byteorder.specs.Endian.{little_bytes}
use Rattle.sd_sid.proofs.laws.SidLaws.{length-word_bytes}
use Rattle.sd_builder.proofs.append.append_subs.Goals as goal

-- one more was appended
next : (b : List ℕ) (xs : List ℕ) (i : ℕ) → i < length xs
    → (b ++ flat_map (little_bytes 4) (take i xs)) ++ little_bytes 4 (get_or xs i 0)
    ≡ b ++ flat_map (little_bytes 4) (take (i + 1) xs)
next b xs i within =
    let more : suc i ≡ i + 1 = omega arith in
    flat_map_more (little_bytes 4) b (take i xs) (get_or xs i 0)
    ∙ ap (λ (ys : List ℕ). b ++ flat_map (little_bytes 4) ys)
    (sym (take-suc xs i 0 within) ∙ ap (λ (k : ℕ). take k xs) more)

pub loop-sub-init : goal.loop-sub-init
loop-sub-init c = sym (append-nil c.args.buf.now)

pub append-requires : goal.append-requires
append-requires c =
    let done = take c.loop-sub.sub-index c.args.subs.now in
    let i = c.loop-sub.sub-index in
    let count : length done ≡ i = length-take-le i c.args.subs.now (omega arith) in
    let all = ap length c.loop-sub.invariant ∙ length-append c.args.buf.now (flat_map (little_bytes 4) done) in
    let four : length c.to_le_bytes.result ≡ 4 = ap length c.to_le_bytes.ensures in
    omega (arith, count, all, four, length-word_bytes done, c.requires)

pub loop-sub-preserved : goal.loop-sub-preserved
loop-sub-preserved c =
    let here : c.append.new.self ≡ c.loop-sub.buf ++ little_bytes 4 (get_or c.args.subs.now c.loop-sub.sub-index 0) =
    c.append.ensures ∙ ap (λ (ys : List ℕ). c.loop-sub.buf ++ ys) c.to_le_bytes.ensures in
    here ∙ ap (λ (ys : List ℕ). ys ++ little_bytes 4 (get_or c.args.subs.now c.loop-sub.sub-index 0))
    c.loop-sub.invariant
    ∙ next c.args.buf.now c.args.subs.now c.loop-sub.sub-index c.loop-sub-test.true

pub returns : goal.returns
returns c = c.loop-sub.invariant
    ∙ ap (λ (xs : List ℕ). c.args.buf.now ++ flat_map (little_bytes 4) xs)
    (take_all c.loop-sub.sub-index c.args.subs.now (omega arith))
