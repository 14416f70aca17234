use Rattle.std.proofs.Common.{◌≡◌, ℕ, List, [], ◌∷◌, ◌++◌, Some, refl}
use Rattle.sd_kinds.specs.Kinds.{kind_named}
use Rattle.sd_kinds.specs.declared.kinds.AceKind.{AceKind}
use Rattle.sd_sddl_fields.specs.FieldFronts.{FieldAt}
use Rattle.sd_sddl_fields.specs.FieldTexts.{kind_reads}
use Rattle.sd_sddl_fields.proofs.laws.PlainFields.{kind-whole}
use Rattle.sd_sddl_fields.proofs.whole_ace.usual_kind.Goals as goal

kind-at : (field text rest : List ℕ) (kind : AceKind) → text ≡ field ++ 59 ∷ rest → kind_reads field ≡ Some kind
    → FieldAt (λ t. kind_reads t ≡ Some kind) 59 text rest
kind-at field text rest kind stands reads = record {
  field = field;
  whole = kind-whole field kind reads;
  stands = stands;
  reads = reads;
}

pub returns-in-Some : goal.returns-in-Some
unfolding kind_reads kind_named
returns-in-Some c =
    kind-at (65 ∷ []) _ _ _ c.in-Some.ensures refl

pub returns-in-Some-after : goal.returns-in-Some-after
unfolding kind_reads kind_named
returns-in-Some-after c =
    kind-at (79 ∷ 65 ∷ []) _ _ _ c.in-Some-after.ensures refl

pub returns-in-Some-after-2 : goal.returns-in-Some-after-2
unfolding kind_reads kind_named
returns-in-Some-after-2 c =
    kind-at (68 ∷ []) _ _ _ c.in-Some-after-2.ensures refl

pub returns : goal.returns
unfolding kind_reads kind_named
returns c =
    kind-at (65 ∷ 85 ∷ []) _ _ _ c.in_ok-rest.ensures refl
