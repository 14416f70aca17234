use Rattle.std.proofs.Common.{◌≡◌, ◌+◌, ℕ, List, drop, ap, ◌∙◌, subst, arith}
use Rattle.std.proofs.lemmas.List.{take_rest}
use Rattle.sd_sid.specs.Sid.{BeginsWithSid, sid_of, sid_size}
use Rattle.sd_acl_view.specs.AclReading.{sid_offset_in}
use Rattle.sd_acl_view.proofs.laws.AclLaws.{read-size, sid-room}
use Rattle.sd_acl_view.proofs.ace.check_extent.Goals as goal

pub returns-clause-size : goal.returns-clause-size
returns-clause-size c =
    let extent = c.args.extent.now in
    let front = c.sid_offset-front.ensures.value in
    let place = take_rest extent c.sid_offset-front.result ∙ ap (λ (k : ℕ). drop k extent) front in
    let sid = sid_of (drop (sid_offset_in extent) extent) in
    let begins = subst (λ (xs : List ℕ). BeginsWithSid xs (sid_of xs)) place c.in-Some.ensures.found.0 in
    let size : c.in-Some.size ≡ sid_size sid = c.in-Some.ensures.found.1
    ∙ ap (λ (xs : List ℕ). sid_size (sid_of xs)) place in
    let whole = sid-room (sid_offset_in extent) extent sid begins in (
      ap (λ (k : ℕ). k + c.in-Some.size) front ∙ read-size extent c.in-Some.size size,
      omega (arith, whole, size, front),
    )
