use Rattle.std.proofs.Common.{◌∷◌, ◌-◌, ℕ, List, drop, arith, sym, ap, ◌∙◌, length, rules}
use Rattle.sd_ace.specs.Ace.{AccessControlEntry}
use Rattle.sd_acl_view.specs.Bytes.{u16_at}
use Rattle.sd_acl_view.specs.AclReading.{aces_fault, aces_of}
use Rattle.sd_acl_view.proofs.laws.AclLaws.{aces-front, aces_of-more, aces_of-none}
use Rattle.sd_acl_view.proofs.acl.AcesIterator.next.Goals as goal

pub returns-then-self-eq0-clause-steps : goal.returns-then-self-eq0-clause-steps
returns-then-self-eq0-clause-steps c =
    let e = sym c.self.view_is ∙ aces_of-none c.self.inside.count c.self.inside.left.now c.if-self-eq0.true in (e, e)

pub split_ace-ace-requires : goal.split_ace-ace-requires
split_ace-ace-requires c =
    (aces-front (c.self.inside.count - 1) c.self.inside.count c.self.inside.left.now (omega arith) c.self.invariant).0

pub invariant_of-self : goal.invariant_of-self
invariant_of-self c =
    let n = c.self.inside.count - 1 in
    let front = aces-front n c.self.inside.count c.self.inside.left.now (omega arith) c.self.invariant in
    ap (aces_fault n) c.split_ace-ace.ensures.rest ∙ front.1

pub returns-clause-steps : goal.returns-clause-steps
returns-clause-steps c =
    let left = c.self.inside.left.now in
    let n = c.self.inside.count - 1 in
    let more = aces_of-more n c.self.inside.count left (omega arith) in
    sym c.self.view_is ∙ more
    ∙ ap (λ (a : AccessControlEntry). a ∷ aces_of n (drop (u16_at 2 left) left)) (sym c.split_ace-ace.ensures.ace)
    ∙ ap (λ (xs : List ℕ). c.split_ace-ace.result.0 ∷ aces_of n xs) (sym c.split_ace-ace.ensures.rest)

pub returns-clause-goes : goal.returns-clause-goes
returns-clause-goes c =
    let shorter = ap (length {A = AccessControlEntry}) (returns-clause-steps c) in search rules
