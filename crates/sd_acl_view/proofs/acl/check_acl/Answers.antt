use Rattle.std.proofs.Common.{◌≡◌, ◌∙◌, ℕ, length, take, ap, arith, length-drop}
use Rattle.std.proofs.lemmas.List.{length-take-le, take_rest}
use Rattle.sd_acl_view.specs.Acl.{acl_size, has_object}
use Rattle.sd_acl_view.specs.AclReading.{aces_of}
use Rattle.sd_acl_view.proofs.laws.AclLaws.{acl-read}
use Rattle.sd_acl_view.proofs.acl.check_acl.Goals as goal

pub returns-clause-size : goal.returns-clause-size
returns-clause-size c =
    let bytes = c.args.bytes.now in
    let n = c.from-n.result in
    let extent = take n bytes in
    let long : length extent ≡ n = length-take-le n bytes (omega arith) in
    let rest = take_rest extent 8 in
    let aces = ap (aces_of c.u16_at-2.result) rest
    ∙ acl-read bytes n c.u16_at-2.result (c.from-n.ensures ∙ c.u16_at.ensures) c.u16_at-2.ensures (omega arith)
    (omega arith) in
    let size = c.in_ok-written.ensures.size in
    (size.0 ∙ ap acl_size aces, omega (arith, size.1, ap (length {A = ℕ}) rest, length-drop 8 extent, long))

pub returns-clause-object : goal.returns-clause-object
returns-clause-object c =
    let bytes = c.args.bytes.now in
    let n = c.from-n.result in
    let aces = ap (aces_of c.u16_at-2.result) (take_rest (take n bytes) 8)
    ∙ acl-read bytes n c.u16_at-2.result (c.from-n.ensures ∙ c.u16_at.ensures) c.u16_at-2.ensures (omega arith)
    (omega arith) in
    c.in_ok-written.ensures.object ∙ ap has_object aces
