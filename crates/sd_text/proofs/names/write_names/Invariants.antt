use Rattle.std.proofs.Common.{◌≡◌, ◌*◌, ◌≤◌, ◌++◌, length, take, drop}
use Rattle.sd_text.specs.Names.{names_of}
use Rattle.sd_text.proofs.names.write_names.Given as goal

abbrev pub invariant-loop-name : goal.invariant-loop-name
invariant-loop-name l = record {
  size : length l.buffer ≡ 34;
  within : l.end ≤ 2 * l.name-index;
  so_far : take l.end l.buffer ++ names_of (drop l.name-index l.table) l.mask ≡ names_of l.table l.mask;
}
