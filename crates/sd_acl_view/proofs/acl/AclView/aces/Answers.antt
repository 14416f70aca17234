use Rattle.std.proofs.Common.{◌≡◌, ℕ, List, drop, length, sym, ap, ◌∙◌}
use Rattle.std.proofs.lemmas.List.{take_rest}
use Rattle.sd_ace.specs.Ace.{AccessControlEntry}
use Rattle.sd_acl_view.specs.AclReading.{aces_fault, aces_of}
use Rattle.sd_acl_view.specs.Bytes.{u16_at}
use Rattle.sd_acl_view.proofs.laws.AclLaws.{length-aces_of}
use Rattle.sd_acl_view.proofs.acl.AclView.aces.Goals as goal

-- the count of the ACEs that are seen stands in the extent
counted : (extent : List ℕ) (n : ℕ) (aces : List AccessControlEntry) → aces_of (u16_at 4 extent) (drop 8 extent) ≡ aces
    → n ≡ length aces → n ≡ u16_at 4 extent
counted extent n aces view e = e ∙ ap (length {A = AccessControlEntry}) (sym view)
    ∙ length-aces_of (u16_at 4 extent) (drop 8 extent)

pub invariant_of-result : goal.invariant_of-result
invariant_of-result c =
    let extent = c.self.inside.extent.now in
    let count = counted extent c.count.result c.args.self.now c.self.view_is c.count.ensures in
    ap (aces_fault c.count.result) (take_rest extent 8) ∙ ap (λ (k : ℕ). aces_fault k (drop 8 extent)) count
    ∙ c.self.invariant.0.sound

pub returns-clause-value : goal.returns-clause-value
returns-clause-value c =
    let extent = c.self.inside.extent.now in
    let count = counted extent c.count.result c.args.self.now c.self.view_is c.count.ensures in
    ap (aces_of c.count.result) (take_rest extent 8) ∙ ap (λ (k : ℕ). aces_of k (drop 8 extent)) count ∙ c.self.view_is
