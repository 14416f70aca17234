-- What is found in a descriptor (MS-DTYP 2.4.6): its header, and where its parts lie.
use Rattle.std.specs.Prelude.{ℕ, ◌-◌, List, length, Some, None, Result, Ok, Err}
use Rattle.sd_parts.specs.declared.part.Parts.{Parts}
use Rattle.sd_call.specs.Arguments.{descriptor_in}
use Rattle.sd_call.specs.Outcomes.{done, failed}
use Rattle.sd_call.specs.declared.outcome.CallFault.{CallFault}
use Rattle.sd_view.specs.Descriptor.{Descriptor, Extent, extents_of}
use Rattle.sd_view.specs.declared.acl_part.AclPart.{AclPart}
use Rattle.sd_view.specs.declared.acl_part.AclPart.TheVariants as acl
use Rattle.sd_call.specs.Places.{nowhere}
use Rattle.sd_call.specs.declared.contents.AclPlace.{AclPlace}
use Rattle.sd_call.specs.declared.contents.Contents.{Contents}
use Rattle.sd_call.specs.declared.place.Place.{Place}

-- the place of a part that may be there
abbrev pub place_of : Extent → Place
place_of None = nowhere
place_of (Some e) = record { offset = e.0; size = e.1 - e.0 }

abbrev pub acl_state : AclPart → ℕ
acl_state acl.Absent = 0
acl_state acl.Null = 1
acl_state (acl.List aces) = 2

abbrev pub ace_count : AclPart → ℕ
ace_count acl.Absent = 0
ace_count acl.Null = 0
ace_count (acl.List aces) = length aces

abbrev pub acl_place : Extent → AclPart → AclPlace
acl_place extent part = record { state = acl_state part; ace_count = ace_count part; place = place_of extent }

-- a descriptor whose parts lie there
abbrev pub contents_of : Parts Extent → Descriptor → Contents
contents_of extents d = record {
  outcome = done 0;
  control = d.control;
  resource_manager = d.rm;
  owner = place_of extents.owner;
  group = place_of extents.group;
  sacl = acl_place extents.sacl d.sacl;
  dacl = acl_place extents.dacl d.dacl;
}

-- the bytes show no descriptor
abbrev pub refused : CallFault → Contents
refused fault = record {
  outcome = failed fault;
  control = 0;
  resource_manager = 0;
  owner = nowhere;
  group = nowhere;
  sacl = acl_place None acl.Absent;
  dacl = acl_place None acl.Absent;
}

abbrev pub contents_told : List ℕ → Result Descriptor CallFault → Contents
contents_told bytes (Ok d) = contents_of (extents_of bytes d) d
contents_told bytes (Err fault) = refused fault

-- what is found in the descriptor that some bytes show
abbrev pub contents_in : List ℕ → Contents
contents_in bytes = contents_told bytes (descriptor_in bytes)
