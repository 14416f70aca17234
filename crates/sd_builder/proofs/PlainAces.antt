-- The bytes of SIDs and of ACEs without object types, piece by piece.
use Rattle.std.proofs.Common.{◌≡◌, ℕ, List, [], ◌∷◌, ◌++◌, length, take, drop, false, refl, ap, ◌∙◌, arith}
use Rattle.std.proofs.lemmas.List.{append-nil, drop_all, drop_at, take_at}
use borrow.Rule.Slice.PartMut.{put_mid}
use Rattle.byteorder.specs.Endian.{little_bytes}
use Rattle.sd_ace.specs.Ace.{ace_size}
use Rattle.sd_ace.specs.AceHead.{PlainHead, plain_ace}
use Rattle.sd_ace.specs.AceLayout.{ace_bytes}
use Rattle.sd_kinds.specs.Kinds.{is_object, kind_code}
use Rattle.sd_sid.specs.Sid.{SecurityId, sid_bytes}

-- eight bytes, and as many behind them as there is room for
pub behind : (k : ℕ) (front zs sid xs ys : List ℕ) → length front ≡ 8 → length zs ≡ k → xs ≡ front → ys ≡ sid
    → put_mid 8 k (xs ++ zs) ys ≡ front ++ sid
behind k front zs sid xs ys eight size one two =
    let p : take 8 (front ++ zs) ≡ front = take_at front zs 8 eight in
    let q : drop k (drop 8 (front ++ zs)) ≡ [] =
    ap (λ (l : List ℕ). drop k l) (drop_at front zs 8 eight) ∙ drop_all k zs (omega (arith, size)) in
    rw (one, two, p, q) (ap (λ (l : List ℕ). front ++ l) (append-nil sid))

-- what stands before the SID, and the SID
pub front-sid : (h : PlainHead) (s : SecurityId) (size : ℕ) (b front : List ℕ) → is_object h.kind ≡ false
    → size ≡ ace_size (plain_ace h s)
    → front ≡ kind_code h.kind ∷ h.flags ∷ little_bytes 2 size ++ little_bytes 4 h.mask
    → b ++ (front ++ sid_bytes s) ≡ b ++ ace_bytes (plain_ace h s)
front-sid h s size b front plain is shape = rw (shape, is, plain) refl
