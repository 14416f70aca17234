use Rattle.std.proofs.Common.{◌≡◌, ◌≤◌, ℕ, ◌+◌, ◌-◌, List, ◌++◌, length, take, drop, sym, ap, ◌∙◌, append_assoc, arith}
use Rattle.std.proofs.Math.Seq.{take-add}
use Rattle.std.proofs.lemmas.List.{drop-take, length-take-le, take-take, with_items_is}
use Rattle.sd_buffer.proofs.buffer.ByteBuf.patch.Goals as goal

-- the first k bytes that follow the offset stay
patched : (at n k : ℕ) (old new bytes : List ℕ) → take (at + n) new ≡ take at old ++ bytes
    → drop (at + n) new ≡ drop (at + n) old
    → take ((at + n) + k) new ≡ take at (take ((at + n) + k) old) ++ (bytes ++ drop (at + n) (take ((at + n) + k) old))
patched at n k old new bytes front rest =
    let before : at ≤ (at + n) + k = omega arith in
    take-add (at + n) k new
    ∙ rw (front, rest, ← drop-take (at + n) k old, ← take-take at ((at + n) + k) old before)
    (append_assoc (take at (take ((at + n) + k) old)) bytes _)

-- the same where the bytes that count are held
held : (at n m : ℕ) (old new bytes : List ℕ) → at + n ≤ m → take (at + n) new ≡ take at old ++ bytes
    → drop (at + n) new ≡ drop (at + n) old
    → take m new ≡ take at (take m old) ++ (bytes ++ drop (at + n) (take m old))
held at n m old new bytes room front rest =
    let e : (at + n) + (m - (at + n)) ≡ m = omega arith in
    rw e at (patched at n (m - (at + n)) old new bytes front rest)

pub returns : goal.returns
returns g c =
    let cells = c.self.inside.cells in
    let long : length c.args.self.now ≡ c.self.inside.held = ap length (sym c.self.view_is)
    ∙ length-take-le _ cells.items (omega arith) in
    let all : length c.write_at.new.cells ≡ cells.len = c.write_at.auto.cells ∙ ap length c.deref_mut.ensures.value
    ∙ sym cells.ok.0 in
    let same = with_items_is cells c.write_at.new.cells all in
    ap (λ (xs : List ℕ). take c.self.inside.held xs) same
    ∙ rw c.self.view_is at (held c.args.at (length c.args.bytes.now) c.self.inside.held cells.items c.write_at.new.cells
    c.args.bytes.now (omega arith) (rw c.deref_mut.ensures.value at c.write_at.ensures.front)
    (rw c.deref_mut.ensures.value at c.write_at.ensures.rest))
