-- Worked texts of GUIDs, computed.
use Rattle.std.proofs.Common.{◌≡◌, Some, None, codes, rules}
use Rattle.uuid.specs.Text.{by_index}
use Rattle.sd_ace.specs.GuidText.{guid_reads, guid_text}
use Rattle.sd_ace.proofs.laws.WorkedGuids.{user_class}

-- `unfolding computed` lets `refl` compute a row
computed : Unit {0}
unfolding by_index guid_reads guid_text
computed = tt

guid_rows : record {
  guid_put : guid_text user_class ≡ codes "bf967aba-0de6-11d0-a285-00aa003049e2";
  guid_in_upper_case : guid_reads (codes "BF967ABA-0DE6-11D0-A285-00AA003049E2") ≡ Some user_class;
  guid_in_braces : guid_reads (codes "{bf967aba-0de6-11d0-a285-00aa003049e2}") ≡ None;
  guid_without_hyphens : guid_reads (codes "bf967aba0de611d0a28500aa003049e2") ≡ None;
}
unfolding computed user_class
guid_rows = search rules
