use Rattle.std.proofs.Common.{◌≡◌, ◌-◌, ◌+◌, ◌||◌, Bool, true, false, ℕ, List, drop, length, arith, sym, ap, ◌∙◌, refl}
use Rattle.std.proofs.Common.{length-drop}
use Rattle.std.proofs.lemmas.List.{take_rest}
use Rattle.std.proofs.lemmas.Result.{err_from_is_err_and}
use Rattle.sd_acl_view.specs.Acl.{aces_size, has_object}
use Rattle.sd_acl_view.specs.AclReading.{aces_fault, aces_of}
use Rattle.sd_acl_view.specs.Bytes.{u16_at}
use Rattle.sd_acl_view.proofs.laws.AclLaws.{aces_fault-more, aces_fault-err, aces_fault-none, aces_of-more}
use Rattle.sd_acl_view.proofs.laws.AclLaws.{aces_of-none}
use Rattle.sd_acl_view.proofs.acl.check_aces.Goals.{then-object, else-object}
use Rattle.sd_acl_view.proofs.acl.check_aces.Goals as goal

-- an object ACE stood before, or stands here, or stands later
seen_so_far : (o p k x all : Bool) → p ≡ (o || k) → (o || (k || x)) ≡ all → (p || x) ≡ all
seen_so_far true p k x all e h = rw e h
seen_so_far false p k x all e h = rw e h

seen_before : (o p k : Bool) → o ≡ true → p ≡ o → p ≡ (o || k)
seen_before o p k e h = h ∙ rw e refl

seen_here : (o p k : Bool) → o ≡ false → p ≡ k → p ≡ (o || k)
seen_here o p k e h = rw e h

pub loop-preserved : goal.loop-preserved
loop-preserved c =
    let left = c.loop.left.now in
    let n = c.args.count - (c.loop.counter + 1) in
    let m = c.args.count - c.loop.counter in
    let ace = c.in_ok-ace.ace in
    let taken = c.in_ok-ace.ensures.taken in
    let size = c.in_ok-ace.ensures.size in
    let kind = c.in_ok-ace.ensures.object in
    let more = aces_fault-more n m left (omega arith) c.in_ok-ace.ensures.fault in
    let all = aces_of-more n m left (omega arith) in
    let rest = take_rest left ace.taken ∙ ap (λ (k : ℕ). drop k left) taken.0 in
    let long = ap (length {A = ℕ}) (take_rest left ace.taken) in
    let sizes = ap aces_size all in
    let tail = ap (λ (xs : List ℕ). aces_size (aces_of n xs)) rest in
    let object : c.if-object.object ≡ (c.loop.object || ace.object) = elim c.if-object.branch [
      | then-object w ↦ seen_before c.loop.object _ ace.object w.if-object.true w.object-is
      | else-object w ↦ seen_here c.loop.object _ ace.object w.if-object.false w.object-is
    ] in (
      ap (aces_fault n) rest ∙ sym more ∙ c.loop.invariant.0,
      omega (arith, sizes, tail, size.0, c.loop.invariant.1),
      ap (λ (xs : List ℕ). c.if-object.object || has_object (aces_of n xs)) rest
          ∙ seen_so_far c.loop.object c.if-object.object _ (has_object (aces_of n (drop (u16_at 2 left) left))) _
          (object ∙ ap (λ (k : Bool). c.loop.object || k) kind)
          (ap (λ (k : Bool). c.loop.object || k) (sym (ap has_object all)) ∙ c.loop.invariant.2),
      omega (arith, long, length-drop ace.taken left, size.1, taken.1, c.loop.invariant.3),
    )

pub returns-in_err-ace-clause-fault : goal.returns-in_err-ace-clause-fault
returns-in_err-ace-clause-fault c =
    let p = err_from_is_err_and c.from_residual.result c.from_residual.ensures.1 in
    rw (p.1, p.2) (sym c.loop.invariant.0
    ∙ aces_fault-err (c.args.count - c.loop.counter) c.loop.left.now c.in_err-ace.field-0.0 (omega arith)
    c.in_err-ace.ensures.fault)

pub returns-clause-fault : goal.returns-clause-fault
returns-clause-fault c = sym c.loop.invariant.0
    ∙ aces_fault-none (c.args.count - c.loop.counter) c.loop.left.now (omega arith)

pub returns-clause-size : goal.returns-clause-size
returns-clause-size c =
    let none = ap aces_size (aces_of-none (c.args.count - c.loop.counter) c.loop.left.now (omega arith)) in
    (omega (arith, none, c.loop.invariant.1), omega (arith, c.loop.invariant.3))

or_false : (o p all : Bool) → p ≡ false → (o || p) ≡ all → o ≡ all
or_false true p all e h = h
or_false false p all e h = sym e ∙ h

pub returns-clause-object : goal.returns-clause-object
returns-clause-object c =
    let none = ap has_object (aces_of-none (c.args.count - c.loop.counter) c.loop.left.now (omega arith)) in
    or_false c.loop.object _ _ none c.loop.invariant.2
