use Rattle.std.proofs.Common.{◌≡◌, ◌≤◌, ◌+◌, length}
use Rattle.std.specs.Option.{option_copied}
use Rattle.sd_sddl_builder.specs.Line.{cut_at_semicolons}
use Rattle.sd_fault_places.specs.Fields.{cuts_from, fields_in_ace}
use Rattle.sd_fault_places.specs.SddlPlaces.{first_faulty}
use Rattle.sd_fault_places.proofs.sddl_aces.ace_fault.Given as goal

abbrev pub invariant-fields : goal.invariant-fields
invariant-fields l = record {
  same : first_faulty (option_copied l.domain) (cuts_from l.part l.ace.number l.kind l.at l.field
      (cut_at_semicolons l.rest).first (cut_at_semicolons l.rest).others)
      ≡ first_faulty (option_copied l.domain)
      (fields_in_ace l.part (record { number = l.ace.number; at = l.ace.at; text = l.ace.text.now }));
  at : l.at + length l.rest ≤ l.ace.at + 1 + length l.ace.text.now;
}

abbrev pub decreases-fields : goal.decreases-fields
decreases-fields l = length l.rest
