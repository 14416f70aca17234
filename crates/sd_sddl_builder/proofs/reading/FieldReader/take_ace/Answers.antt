use Rattle.std.proofs.Common.{◌≡◌, ℕ, List, [], ◌∷◌, Option, Some, None, MatchOption, refl, subst, arith}
use Rattle.sd_ace.specs.AceHead.{PlainHead}
use Rattle.sd_kinds.specs.declared.kinds.AceKind.{AceKind}
use Rattle.sd_sddl_fields.specs.FieldFronts.{ObjectsAt}
use Rattle.sd_sddl_fields.specs.FieldTexts.{object_reads}
use Rattle.sd_sddl_builder.specs.FoldedReading.{plain_fields}
use Rattle.sd_sddl_builder.specs.Inner.AceEnds.{EndsAce}
use Rattle.sd_sddl_builder.specs.declared.reading.FieldReader.{FieldReader}
use Rattle.sd_sddl_builder.proofs.WholeFields.{takes-ace}
use Rattle.sd_sddl_builder.proofs.reading.FieldReader.take_ace.Goals as goal

no-objects : (kind : AceKind) (text rest : List ℕ) → text ≡ 59 ∷ 59 ∷ rest → ObjectsAt kind None None text rest
unfolding object_reads
no-objects kind text rest stands = record {
  between = 59 ∷ rest;
  first = record {
    field = [];
    whole = record { plain = refl; fits = omega arith };
    stands = stands;
    reads = refl;
  };
  second = record {
    field = [];
    whole = record { plain = refl; fits = omega arith };
    stands = refl;
    reads = refl;
  };
}

-- a SID ends the ACE of its head, so it has one
of-head : (old new : FieldReader) (before after text rest : List ℕ) (o : Option PlainHead) (h : PlainHead)
    (plain : Type 0) → MatchOption o plain (λ x. x ≡ h)
    → MatchOption o ⊥ (λ x. EndsAce old before (plain_fields x) text new after rest)
    → EndsAce old before (plain_fields h) text new after rest
of-head old new before after text rest None h plain is ends = absurd ends
of-head old new before after text rest (Some x) h plain is ends =
    subst (λ y. EndsAce old before (plain_fields y) text new after rest) is ends

pub returns-in-Some-end_usual-clause-read : goal.returns-in-Some-end_usual-clause-read
returns-in-Some-end_usual-clause-read c =
    takes-ace _ _ _ _ _ _ _ _ (record {
      kind_rest = c.in_ok-kind.rest.now;
      flags_rest = c.in_ok-flags.rest.now;
      rights_rest = c.in_ok-mask.rest.now;
      kind = c.in_ok-kind.ensures;
      flags = c.in_ok-flags.ensures.found;
      rights = c.in_ok-mask.ensures;
      objects = no-objects c.in_ok-kind.kind c.in_ok-mask.rest.now c.in-Some.rest.now c.in-Some.ensures;
    })
    (of-head _ _ _ _ _ _ c.new.result _ _ c.new.ensures c.in-Some-end_usual.ensures.read)

pub returns-in-Some-clause-read : goal.returns-in-Some-clause-read
returns-in-Some-clause-read c =
    let same = c.in_default-end_usual.ensures.read in
    takes-ace _ _ _ _ _ _ _ _ (record {
      kind_rest = c.in_ok-kind.rest.now;
      flags_rest = c.in_ok-flags.rest.now;
      rights_rest = c.in_ok-mask.rest.now;
      kind = c.in_ok-kind.ensures;
      flags = c.in_ok-flags.ensures.found;
      rights = c.in_ok-mask.ensures;
      objects = no-objects c.in_ok-kind.kind c.in_ok-mask.rest.now c.in-Some.rest.now c.in-Some.ensures;
    })
    (rw (c.no_fields.ensures, same.0, same.1) at c.in_ok-after.ensures.read)

pub returns-clause-read : goal.returns-clause-read
returns-clause-read c =
    let e = rw (c.no_fields.ensures) at c.in_ok-after-2.ensures.read in
    takes-ace _ _ _ _ _ _ _ _ (record {
      kind_rest = c.in_ok-kind.rest.now;
      flags_rest = c.in_ok-flags.rest.now;
      rights_rest = c.in_ok-mask.rest.now;
      kind = c.in_ok-kind.ensures;
      flags = c.in_ok-flags.ensures.found;
      rights = c.in_ok-mask.ensures;
      objects = e.objects;
    })
    e.ends
