-- The end of an ACE that stands whole in what comes of a line: its SID, and object types before it.
use Rattle.std.specs.Prelude.{◌≡◌, ℕ, List, Option, Ok}
use Rattle.std.specs.Str.{byte as char}
use Rattle.sd_sid.specs.Sid.{SecurityId}
use Rattle.sd_sid.specs.SidText.{sid_reads}
use Rattle.sd_sddl_builder.specs.FieldReading.{HasReadFields}
use Rattle.sd_sddl_builder.specs.FoldedReading.{FieldsRead, with_trustee}
use Rattle.sd_sddl_fields.specs.FieldFronts.{FieldAt, ObjectsAt}
use Rattle.sd_ace.specs.declared.ace_parts.AceFields.{AceFields}
use Rattle.sd_sddl_builder.specs.declared.reading.FieldReader.{FieldReader}

-- a SID ends the ACE of these fields, which was read
pub record EndsAce (old : FieldReader) (before : List ℕ) (f : AceFields) (text : List ℕ) (new : FieldReader)
    (after rest : List ℕ) : Type 0 where
  pub trustee : SecurityId
  pub sid : FieldAt (λ t. sid_reads t old.domain ≡ Ok trustee) (char ")") text rest
  pub held : (t : FieldsRead) → HasReadFields old before t
      → HasReadFields new after (with_trustee (record t { ace = f }) trustee)

-- the same, with object types before it
pub record EndsWithObjects (old : FieldReader) (before : List ℕ) (f : AceFields) (text : List ℕ) (new : FieldReader)
    (after rest : List ℕ) : Type 0 where
  pub object : Option (List ℕ)
  pub inherited : Option (List ℕ)
  pub between : List ℕ
  pub objects : ObjectsAt f.kind object inherited text between
  pub ends : EndsAce old before (record f { object = object; inherited = inherited }) between new after rest
