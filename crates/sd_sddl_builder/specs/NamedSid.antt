-- A SID that two letters name everywhere, at the front of a text.
use Rattle.std.specs.Prelude.{◌≡◌, ◌≤◌, ℕ, true, List, ◌++◌, length, Option, Ok}
use Rattle.std.specs.List.{list_all}
use Rattle.sd_alias.specs.declared.table.WellKnown.{WellKnown}
use Rattle.sd_sid.specs.Sid.{SecurityId}
use Rattle.sd_sid.specs.SidText.{is_sid_byte, known_sid, sid_reads}

-- a text that reads as the SID of the name under any domain, and a rest
pub record NameAt (text : List ℕ) (name : WellKnown) (rest : List ℕ) : Type 0 where
  pub field : List ℕ
  pub stands : text ≡ field ++ rest
  pub reads : (domain : Option SecurityId) → sid_reads field domain ≡ Ok (known_sid name)
  pub plain : list_all is_sid_byte field ≡ true
  pub short : length field ≤ 2
