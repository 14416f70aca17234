use Rattle.std.proofs.Common.{◌≡◌, ◌<◌, ◌++◌, ◌∷◌, [], ℕ, zero, suc, List, length, slice_index, take, drop, sym, ap}
use Rattle.std.proofs.Common.{◌∙◌, arith, take-append-drop, false}
use Rattle.std.proofs.lemmas.List.{take_rest}
use Rattle.sd_sddl_fields.specs.FieldTexts.{is_blank}
use Rattle.sd_sddl_reader.proofs.line.behind_blanks.Goals as goal

first-of : (text : List ℕ) (n b : ℕ) (more : List ℕ) → drop n text ≡ b ∷ more
    → (n < length text) × (slice_index text n ≡ b)
first-of [] zero b more e = absurd cc
first-of [] (suc n) b more e = absurd cc
first-of (x ∷ xs) zero b more e = (omega arith, cc)
first-of (x ∷ xs) (suc n) b more e = let r = first-of xs n b more e in (omega arith, r.1)

pub returns : goal.returns
returns c =
    let text = c.args.text.now in
    let n = c.blanks.result in
    record {
      blanks = take n text;
      blank = c.blanks.ensures.blank;
      stands = sym (ap (λ t. take n text ++ t) (take_rest text n) ∙ take-append-drop n text);
      ends = λ b more is.
          let first = first-of text n b more (sym (take_rest text n) ∙ is) in
          let other : is_blank b ≡ false = ap is_blank (sym first.1) ∙ c.blanks.ensures.ends first.0 in other;
    }
