use Rattle.std.proofs.Common.{◌<◌, ◌+◌, length, refl, ap, arith}
use Rattle.sd_ace.specs.Ace.{ace_size}
use Rattle.sd_acl_view.proofs.laws.AclLayoutSizes.{ace_size-fourth}
use Rattle.sd_builder.specs.Draft.{open_size}
use Rattle.sd_builder.proofs.Building.{ace-builds, is-open, open-fourth, open-roomy, open-size}
use Rattle.sd_builder.proofs.builder.Builder.count_ace.Goals as goal

pub unwrap-open-requires : goal.unwrap-open-requires
unwrap-open-requires c = is-open _ _ c.requires.0 c.requires.1 c.requires.2

pub overflow_sub-acl_size : goal.overflow_sub-acl_size
overflow_sub-acl_size c = let r = open-roomy _ _ c.requires.0 _ c.requires.1
    c.unwrap-open.ensures in omega (arith, r.start, ap length c.bytes.ensures.value)

pub returns-then-acl_size-gt-MOST_ACL_SIZE-clause-full : goal.returns-then-acl_size-gt-MOST_ACL_SIZE-clause-full
returns-then-acl_size-gt-MOST_ACL_SIZE-clause-full c =
    λ t h.
    let size = open-size _ _ t _ h c.unwrap-open.ensures in
    (λ e. omega (arith, size, ap length c.bytes.ensures.value), λ e. refl)

pub overflow_add-acl : goal.overflow_add-acl
overflow_add-acl c =
    let r = open-roomy _ _ c.requires.0 _ c.requires.1 c.in-Some.is in omega (arith, r.count)

pub returns-in-Some-clause-full : goal.returns-in-Some-clause-full
returns-in-Some-clause-full c =
    λ t h.
    let size = open-size _ _ t _ h c.unwrap-open.ensures in
    (λ e. absurd (cc), λ e. absurd (omega (arith, size, ap length c.bytes.ensures.value)))

pub returns-in-Some-clause-room : goal.returns-in-Some-clause-room
returns-in-Some-clause-room c =
    let r = open-roomy _ _ c.requires.0 _ c.requires.1 c.unwrap-open.ensures in
    omega (arith, r.start, r.room, ap length c.bytes.ensures.value)

pub returns-in-Some-clause-spare : goal.returns-in-Some-clause-spare
returns-in-Some-clause-spare c =
    λ a of_size.
    let t = c.requires.0 in
    let r = open-roomy _ _ t _ c.requires.1 c.unwrap-open.ensures in
    let size = open-size _ _ t _ c.requires.1 c.unwrap-open.ensures in
    let fourth = open-fourth _ _ t _ c.requires.1 c.unwrap-open.ensures in
    let four = ace_size-fourth a in
    omega (arith, r.start, r.room, size, fourth, of_size, four.0, ap length c.bytes.ensures.value)

pub returns-in-Some-clause-ok : goal.returns-in-Some-clause-ok
returns-in-Some-clause-ok c =
    λ t a h limits of_size of_kind.
    let o = c.in-Some.acl in
    let size = open-size _ _ t _ h c.unwrap-open.ensures in
    let fits : open_size t.parts + ace_size a < 65536 = omega (arith, size, of_size, ap length c.bytes.ensures.value) in
    rw of_kind (ace-builds _ _ t o a c.in-Some.is limits fits h)
