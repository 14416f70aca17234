use Rattle.std.proofs.Common.{◌≡◌, ℕ, Bool, true, false, get_or, take, refl, sym, ap, ◌∙◌, arith}
use Rattle.std.specs.Prelude.{◌==◌, ◌&&◌, ◌||◌, nat_lt, not}
use Rattle.std.specs.List.{list_all}
use Rattle.std.proofs.lemmas.Bool.Decides.{nat_tests}
use Rattle.std.proofs.lemmas.List.Folds.{list_all_more}
use Rattle.sd_sddl_fields.specs.Inner.Blocks.{is_plain_late}
use Rattle.sd_sddl_fields.proofs.plain.are_plain.Goals as goal

both : (x y : Bool) → not (x || y) ≡ ((not (y || false) && not x) && true)
both true true = refl
both true false = refl
both false true = refl
both false false = refl

-- the tests of a byte
tests : (b : ℕ) → not ((nat_lt b 42 || b == 58) || b == 59) ≡ is_plain_late b
tests b = by_test (nat_lt b 42) refl
  where
    by_test : (low : Bool) → nat_lt b 42 ≡ low → not ((low || b == 58) || b == 59) ≡ is_plain_late b
    by_test true e =
        let early : nat_lt 41 b ≡ false = grind (arith, nat_tests) in
        rw early (grind (arith, nat_tests))
    by_test false e =
        let late : nat_lt 41 b ≡ true = grind (arith, nat_tests) in
        let opens : (b == 40) ≡ false = grind (arith, nat_tests) in
        let closes : (b == 41) ≡ false = grind (arith, nat_tests) in
        let space : (b == 32) ≡ false = grind (arith, nat_tests) in
        let tab : (b == 9) ≡ false = grind (arith, nat_tests) in
        rw (late, opens, closes, space, tab) (both (b == 58) (b == 59))

-- one byte more
more : (other : Bool) (x p : Bool) → not other ≡ x → not (other || p) ≡ (x && not p)
more true x p e = rw (← e) refl
more false x p e = rw (← e) refl

pub loop-byte-preserved : goal.loop-byte-preserved
loop-byte-preserved c =
    let text = c.args.text.now in
    let i = c.loop-byte.byte-index in
    let b = get_or text i 0 in
    more c.loop-byte.other _ ((nat_lt b 42 || b == 58) || b == 59) c.loop-byte.invariant
    ∙ ap (λ t. list_all is_plain_late (take i text) && t) (tests b)
    ∙ sym (list_all_more is_plain_late text i 0 c.loop-byte-test.true)
