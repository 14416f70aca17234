-- Letters that were there before.
use Rattle.std.proofs.Common.{◌≡◌, Bool, true, false, ◌||◌, List, [], ◌∷◌, refl}
use Rattle.std.proofs.Math.Bool.{or-true, or-false}
use Rattle.sd_parts.specs.Parts.{each_part, get_part, same_part, set_part}
use Rattle.sd_parts.specs.declared.part.Part.{Part}
use Rattle.sd_parts.specs.declared.part.Part.TheVariants as part
use Rattle.sd_parts.specs.declared.part.Parts.{Parts}
use Rattle.sd_sddl_builder.specs.Line.{Section, has_head, has_seen, part_of_head, same_head}
use Rattle.sd_sddl_builder.specs.declared.slot.Head.{Head}

pub set-seen : (seen : Parts Bool) (p q : Part) → get_part q (set_part p true seen) ≡ (get_part q seen || same_part p q)
set-seen seen part.Owner part.Owner = rw or-true refl
set-seen seen part.Group part.Group = rw or-true refl
set-seen seen part.Sacl part.Sacl = rw or-true refl
set-seen seen part.Dacl part.Dacl = rw or-true refl
set-seen seen p q = rw or-false refl

four : (a b c d : Bool) → ((a || b) || (c || d)) ≡ ((a || c) || (b || d))
four true b c d = refl
four false b true d = or-true b
four false true false d = refl
four false false false d = refl

pub has-seen-with : (seen : Parts Bool) (p : Head) (ss : List Section)
    → has_seen (set_part (part_of_head p) true seen) ss ≡ (has_seen seen ss || has_head p ss)
has-seen-with seen p [] = refl
has-seen-with seen p (s ∷ ss) = rw (set-seen seen (part_of_head p) (part_of_head s.head), has-seen-with seen p ss)
    (four (get_part (part_of_head s.head) seen) (same_head p s.head) (has_seen seen ss) (has_head p ss))

pub none-seen : (ss : List Section) → has_seen (each_part false) ss ≡ false
none-seen [] = refl
none-seen (s ∷ ss) = rw (none (part_of_head s.head), none-seen ss) refl
  where
    none : (p : Part) → get_part p (each_part false) ≡ false
    none part.Owner = refl
    none _ = refl
