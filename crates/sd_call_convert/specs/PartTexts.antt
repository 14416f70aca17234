-- What is put as the text of an ACE or of a part of one.
use Rattle.std.specs.Prelude.{ℕ, List}
use Rattle.sd_ace.specs.GuidText.{guid_text}
use Rattle.sd_kinds.specs.Flags.{flags_text}
use Rattle.sd_rights.specs.Rights.{rights_text}
use Rattle.sd_sddl_printer.specs.Printed.{ace_text}
use Rattle.sd_call_convert.specs.declared.part_text.PartText.{PartText}
use Rattle.sd_call_convert.specs.declared.part_text.PartText.TheVariants as parts

abbrev pub part_text : PartText → List ℕ
part_text (parts.Rights kind mask) = rights_text kind mask
part_text (parts.Flags flags) = flags_text flags
part_text (parts.Guid guid) = guid_text guid
part_text (parts.Ace named) = ace_text named.naming named.ace
