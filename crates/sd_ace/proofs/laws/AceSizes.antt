-- How many bytes an ACE has at least.
use Rattle.std.proofs.Common.{◌≤◌, ℕ, ◌+◌, Bool, true, false, cond, List, Option, Some, None, arith}
use Rattle.sd_ace.specs.Ace.{GuidsFit, guid_size}

-- before the SID stand eight bytes and those of the GUIDs
pub offset-low : (b : Bool) (o i : Option (List ℕ)) → GuidsFit b o i
    → 8 + guid_size o + guid_size i ≤ cond b (12 + guid_size o + guid_size i) 8
offset-low true o i h = omega arith
offset-low false None None h = omega arith
offset-low false (Some g) i h = absurd h
offset-low false None (Some g) h = absurd h
