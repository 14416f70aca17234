-- The front of a slice, a part of which has changed.
use Rattle.std.proofs.Common.{◌≡◌, ◌≤◌, ℕ, ◌+◌, List, ◌++◌, length, take, ap, ◌∙◌, arith}
use Rattle.std.proofs.Math.Seq.{take-add}
use Rattle.std.proofs.lemmas.List.{drop_at, length-take-le, take-append-le}
use Rattle.std.proofs.lemmas.Slice.{take-put_mid_below}
use borrow.Rule.Slice.PartMut.{put_mid}

-- what is before the part, and the front of the part
pub front-of-part : (at k done : ℕ) (cells part : List ℕ) → at ≤ length cells → done ≤ length part
    → take (at + done) (put_mid at k cells part) ≡ take at cells ++ take done part
front-of-part at k done cells part within few =
    let size = length-take-le at cells within in
    take-add at done (put_mid at k cells part)
    ∙ rw (take-put_mid_below at k cells part at (omega arith) within) (
    ap (λ (xs : List ℕ). take at cells ++ take done xs) (drop_at (take at cells) _ at size)
    ∙ ap (λ (xs : List ℕ). take at cells ++ xs) (take-append-le done part _ few))
