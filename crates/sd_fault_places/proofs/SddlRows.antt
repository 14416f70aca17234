-- Faults whose places were counted by hand (MS-DTYP 2.5.1).
use Rattle.std.proofs.Common.{◌≡◌, Some, None, codes, refl, rules}
use Rattle.std.proofs.Math.Utf8.{encode}
use Rattle.std.specs.Prelude.{◌++◌, ◌∷◌, ℕ, Option}
use Rattle.std.specs.Str.{chars, is_utf8}
use Rattle.std.specs.Str.Lossy.{utf8_valid_len}
use Rattle.sd_ace.specs.GuidText.{guid_reads}
use Rattle.sd_kinds.specs.Flags.{flags_reads}
use Rattle.sd_kinds.specs.Kinds.{kind_entry, kind_letters, kind_named}
use Rattle.sd_parts.specs.declared.part.Part.{Part}
use Rattle.sd_parts.specs.declared.part.Part.TheVariants.{Dacl, Group, Owner, Sacl}
use Rattle.sd_rights.specs.Rights.{rights_reads}
use Rattle.sd_sid.specs.SidText.{has_form, letters_read, numbers_read, sid_reads}
use Rattle.sd_sid.specs.declared.sid_text.SidFault.TheVariants as sids
use Rattle.sd_text.specs.Names.{run_of}
use Rattle.sd_sddl_fields.specs.FieldTexts.{front_reads, kind_reads, object_reads}
use Rattle.sd_sddl_builder.specs.declared.fault.SddlFault.{SddlFault}
use Rattle.sd_sddl_builder.specs.declared.fault.SddlFault.TheVariants as fault
use Rattle.sd_fault_places.specs.declared.place.FaultPlace.{FaultPlace}
use Rattle.sd_fault_places.specs.declared.place.Field.{Field}
use Rattle.sd_fault_places.specs.declared.place.Field.TheVariants as named
use Rattle.sd_fault_places.specs.SddlPlaces.{place_of_sddl_fault}

-- `unfolding computed` lets `refl` compute a row
computed : Unit {0}
unfolding kind_entry kind_letters kind_named front_reads kind_reads object_reads flags_reads rights_reads run_of
    sid_reads
    has_form letters_read numbers_read guid_reads utf8_valid_len is_utf8 chars encode
computed = tt

-- a fault, with its part, ACE and field, and its range
abbrev at : SddlFault → Option Part → Option ℕ → Option Field → ℕ → ℕ → Option (SddlFault × FaultPlace)
at f part ace name offset size =
    Some (f, record { part = part; ace = ace; field = name; range = record { offset = offset; size = size } })

-- 1. The shape: at the end of the text, a byte more is wanted.

lone_letter_and_more : record {
  lone_letter : place_of_sddl_fault (codes " O") None ≡ at fault.Shape None None None 2 0;
  open_ace : place_of_sddl_fault (codes "D:(A;;FA;;;WD") None
      ≡ at fault.Shape (Some Dacl) (Some 0) (Some named.Sid) 13 0;
  behind_ace : place_of_sddl_fault (codes "D:(A;;FA;;;WD)S") None ≡ at fault.Shape (Some Dacl) None None 15 0;
  second_open : place_of_sddl_fault (codes "O:BAS:(;;;;;)(;;") None
      ≡ at fault.Shape (Some Sacl) (Some 1) (Some named.Rights) 16 0;
}
unfolding computed
lone_letter_and_more = search rules

-- before the end: a byte that cannot stand there

before_the_end : record {
  open_owner : place_of_sddl_fault (codes "O:(A") None ≡ at fault.Shape (Some Owner) None (Some named.Sid) 2 1;
  open_twice : place_of_sddl_fault (codes "D:(A;;FA;;;WD)(A;;(") None
      ≡ at fault.Shape (Some Dacl) (Some 1) (Some named.Rights) 18 1;
  beside_ace : place_of_sddl_fault (codes "D:(A;;FA;;;WD) x") None ≡ at fault.Shape (Some Dacl) None None 15 1;
  -- a character of three bytes, whole
  euro_sign : place_of_sddl_fault (codes "D:(A;;FA;;;WD)" ++ (226 ∷ 130 ∷ 172 ∷ codes "S")) None
      ≡ at fault.Shape (Some Dacl) None None 14 3;
}
unfolding computed
before_the_end = search rules

-- 2. Two parts with one letter.

second_owner : place_of_sddl_fault (codes "O:ZZ o:BA") None ≡ at fault.PartTwice (Some Owner) None None 5 2
unfolding computed
second_owner = refl

-- 3. Fields.

owner_and_more : record {
  owner : place_of_sddl_fault (codes "O:  ZZ G:BA") None
      ≡ at (fault.Sid sids.Alias) (Some Owner) None (Some named.Sid) 4 2;
  blank_owner : place_of_sddl_fault (codes "O:  D:") None ≡ at (fault.Sid sids.SidForm) (Some Owner) None
      (Some named.Sid) 2 0;
  needs_domain : place_of_sddl_fault (codes "G:DA") None
      ≡ at (fault.Sid sids.NeedsDomain) (Some Group) None (Some named.Sid) 2 2;
  number : place_of_sddl_fault (codes "O:S-1-5-4294967296") None
      ≡ at (fault.Sid sids.Number) (Some Owner) None (Some named.Sid) 2 16;
  acl_flags : place_of_sddl_fault (codes "S: PX D:") None ≡ at fault.Flags (Some Sacl) None (Some named.Flags) 3 2;
  null_with_aces : place_of_sddl_fault (codes "D:NO_ACCESS_CONTROL (A;;FA;;;WD)") None
      ≡ at fault.Flags (Some Dacl) None (Some named.Flags) 2 17;
  kind : place_of_sddl_fault (codes "D:(XA;;;;;)") None ≡ at fault.Kind (Some Dacl) (Some 0) (Some named.Kind) 3 2;
  ace_flags : place_of_sddl_fault (codes "D:(A;;FA;;;WD)S:(AU;XX;FA;;;WD)") None
      ≡ at fault.Flags (Some Sacl) (Some 0) (Some named.Flags) 20 2;
  second_rights : place_of_sddl_fault (codes "D:(A;;FA;;;WD) (A;CI; FA;;;WD)") None
      ≡ at fault.Rights (Some Dacl) (Some 1) (Some named.Rights) 21 3;
  object : place_of_sddl_fault (codes "D:(OA;;FA;x;y;WD)") None
      ≡ at fault.Guid (Some Dacl) (Some 0) (Some named.ObjectType) 10 1;
  inherited : place_of_sddl_fault (codes "D:(OA;;FA;;y;ZZ)") None
      ≡ at fault.Guid (Some Dacl) (Some 0) (Some named.InheritedObjectType) 11 1;
  -- of two faults the first
  first_of_two : place_of_sddl_fault (codes "D:(A;;FA;;;ZZ)(B;;;;;)") None
      ≡ at (fault.Sid sids.Alias) (Some Dacl) (Some 0) (Some named.Sid) 11 2;
}
unfolding computed
owner_and_more = search rules
