-- No text of an ACE is longer than 312 characters.
use Rattle.std.proofs.Common.{◌≤◌, ℕ, List, ◌++◌, length, Option, Some, None, arith, length-append}
use Rattle.std.specs.Prelude.{codes}
use Rattle.sd_ace.specs.Ace.{AccessControlEntry, IsAce}
use Rattle.sd_ace.proofs.laws.GuidTexts.{guid_text-length}
use Rattle.sd_kinds.specs.Flags.{flags_text}
use Rattle.sd_kinds.proofs.laws.FlagLaws.{flags_text-length}
use Rattle.sd_rights.specs.Rights.{rights_text}
use Rattle.sd_rights.proofs.laws.RightsLaws.{rights_text-length}
use Rattle.sd_sid.specs.declared.naming.Naming.{Naming}
use Rattle.sd_sddl_printer.specs.Printed.{ace_text, flags_field, kind_field, kind_text, object_field, object_text}
use Rattle.sd_sddl_printer.specs.Printed.{rights_field, trustee_field, trustee_text}
use Rattle.sd_sddl_printer.proofs.laws.SizeLaws.{kind-length, trustee-length}

object-short : (o : Option (List ℕ)) → length (object_text o) ≤ 36
object-short None = omega arith
object-short (Some g) = omega (arith, guid_text-length g)

pub ace_short : (naming : Naming) (a : AccessControlEntry) → IsAce a → length (ace_text naming a) ≤ 312
unfolding ace_text kind_field flags_field rights_field object_field trustee_field
ace_short naming a h =
    let kind = kind_text a.kind in
    let flags = flags_text a.flags in
    let rights = rights_text a.kind a.mask in
    let object = object_text a.object in
    let inherited = object_text a.inherited in
    let trustee = trustee_text naming a.sid in
    let count = h.sid.count in
    omega (
      arith,
      count,
      length-append kind (codes ";"),
      length-append (codes "(") (kind ++ codes ";"),
      length-append flags (codes ";"),
      length-append rights (codes ";"),
      length-append object (codes ";"),
      length-append inherited (codes ";"),
      length-append trustee (codes ")"),
      length-append (codes "(" ++ (kind ++ codes ";")) (flags ++ codes ";"),
      length-append (rights ++ codes ";") (object ++ codes ";"),
      length-append (inherited ++ codes ";") (trustee ++ codes ")"),
      length-append ((rights ++ codes ";") ++ (object ++ codes ";"))
          ((inherited ++ codes ";") ++ (trustee ++ codes ")")),
      length-append ((codes "(" ++ (kind ++ codes ";")) ++ (flags ++ codes ";"))
          (((rights ++ codes ";") ++ (object ++ codes ";")) ++ ((inherited ++ codes ";") ++ (trustee ++ codes ")"))),
      kind-length a.kind,
      flags_text-length a.flags,
      rights_text-length a.kind a.mask h.mask,
      object-short a.object,
      object-short a.inherited,
      trustee-length naming a.sid h.sid,
    )
