use Rattle.sd_call_columns.specs.Answered.{most_small}
use Rattle.sd_call_access.specs.DerivedMany.{asked}
use Rattle.sd_call_access.proofs.DerivedLemmas.{front_derived}
use Rattle.sd_call_access.proofs.derived_many.derive_many.Goals as goal

pub returns : goal.returns
returns c =
    front_derived (asked c.args.derivation.now) most_small c.min-size.result c.args.out.now c.derive_within.new.out
    c.args.out_offsets.now c.derive_within.new.out_offsets c.args.outcomes.now c.derive_within.new.outcomes
    c.derive_within.result c.min-size.ensures c.derive_within.auto.out c.derive_within.ensures
