-- How many ACEs stand before a place in a part.
use Rattle.std.specs.Prelude.{ℕ}
use Rattle.sd_fault_places.specs.declared.shape.Front.{Front}
use Rattle.sd_fault_places.specs.declared.shape.Stand.{Stand}
use Rattle.sd_fault_places.specs.declared.shape.Stand.TheVariants as stand

abbrev pub aces_at : Stand → ℕ
aces_at stand.Before = 0
aces_at (stand.Sid p) = 0
aces_at (stand.Flags w) = 0
aces_at (stand.Behind w n) = n
aces_at (stand.Ace w n f) = n

abbrev pub aces_before : Front → ℕ
aces_before m = aces_at m.stand
