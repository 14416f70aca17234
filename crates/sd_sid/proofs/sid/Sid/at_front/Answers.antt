use Rattle.std.proofs.Common.{◌≡◌, ◌+◌, ◌*◌, arith, drop, refl, sym, ap, ◌∙◌}
use Rattle.std.proofs.lemmas.List.{drop-drop, take_rest}
use Rattle.byteorder.specs.Endian.{little_number, big_number}
use Rattle.byteorder.specs.Numbers.{big_from-lt}
use Rattle.sd_sid.proofs.laws.Numbers.{AreBytes-drop}
use Rattle.sd_sid.proofs.Words.{Filled-start, Filled-more}
use Rattle.sd_sid.proofs.sid.Sid.at_front.Goals as goal

pub loop-i-init : goal.loop-i-init
loop-i-init c = record { words = Filled-start _; authority = refl; count = refl }

pub loop-i-preserved : goal.loop-i-preserved
loop-i-preserved c =
    let bytes = c.args.bytes.now in
    let i = c.loop-i.i in
    let place = take_rest bytes (8 + 4 * i) ∙ sym (drop-drop (4 * i) 8 bytes) in
    record {
      words = Filled-more i _ c.loop-i.sid-inside.subs (drop 8 bytes) (omega arith) c.read_u32.type_inv
          (c.read_u32.ensures ∙ ap (little_number 4) place) c.loop-i.invariant.words;
      authority = c.loop-i.invariant.authority;
      count = c.loop-i.invariant.count;
    }

pub invariant_of-sid : goal.invariant_of-sid
invariant_of-sid c =
    let bytes = c.args.bytes.now in
    let bound = big_from-lt 0 6 (drop 2 bytes) (AreBytes-drop 2 bytes (λ i. omega (arith, c.type_inv.bytes i))) in
    let number = c.loop-i.invariant.authority ∙ c.read_u48-authority.ensures ∙ ap (big_number 6) (take_rest bytes 2) in
    let done : c.loop-i.i ≡ c.loop-i.sid-inside.count = omega (arith, c.loop-i.invariant.count) in
    let words = c.loop-i.invariant.words in
    let back = words.back in
    (rw number bound, omega (arith, c.loop-i.invariant.count), words.full, rw done at back, words.small)
