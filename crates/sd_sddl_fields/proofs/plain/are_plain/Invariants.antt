use Rattle.std.proofs.Common.{◌≡◌, take}
use Rattle.std.specs.List.{list_all}
use Rattle.std.specs.Prelude.{not}
use Rattle.sd_sddl_fields.specs.Inner.Blocks.{is_plain_late}
use Rattle.sd_sddl_fields.proofs.plain.are_plain.Given as goal

abbrev pub invariant-loop-byte : goal.invariant-loop-byte
invariant-loop-byte l = not l.other ≡ list_all is_plain_late (take l.byte-index l.text)
