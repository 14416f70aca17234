-- Places in the bytes of the caller.
use Rattle.sd_call.specs.declared.place.Place.{Place}

-- the place of what is not there
abbrev pub nowhere : Place
nowhere = record { offset = 0; size = 0 }
