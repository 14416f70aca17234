use Rattle.std.proofs.Common.{[], ◌∷◌, arith, refl}
use Rattle.sd_sddl_fields.specs.FieldTexts.{front_reads}
use Rattle.sd_sddl_reader.proofs.line.usual_front.Goals as goal

pub returns-in-Some : goal.returns-in-Some
unfolding front_reads
returns-in-Some c = record {
  field = 65 ∷ 73 ∷ [];
  whole = record { plain = refl; fits = omega arith };
  stands = c.in-Some.ensures;
  reads = rw c.list.ensures refl;
  list = rw c.list.ensures refl;
}

pub returns-in-Some-after : goal.returns-in-Some-after
unfolding front_reads
returns-in-Some-after c = record {
  field = 80 ∷ 65 ∷ 73 ∷ [];
  whole = record { plain = refl; fits = omega arith };
  stands = c.in-Some-after.ensures;
  reads = rw c.list-in-Some-after.ensures refl;
  list = rw c.list-in-Some-after.ensures refl;
}

pub returns-in-Some-after-2 : goal.returns-in-Some-after-2
unfolding front_reads
returns-in-Some-after-2 c = record {
  field = 80 ∷ [];
  whole = record { plain = refl; fits = omega arith };
  stands = c.in-Some-after-2.ensures;
  reads = rw c.list-in-Some-after-2.ensures refl;
  list = rw c.list-in-Some-after-2.ensures refl;
}

pub returns : goal.returns
unfolding front_reads
returns c = record {
  field = [];
  whole = record { plain = refl; fits = omega arith };
  stands = c.in_ok-rest.ensures;
  reads = rw c.list-2.ensures refl;
  list = rw c.list-2.ensures refl;
}
