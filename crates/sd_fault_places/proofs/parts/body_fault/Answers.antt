use Rattle.std.proofs.Common.{◌+◌, arith}
use Rattle.std.specs.Option.{option_copied}
use Rattle.sd_fault_places.proofs.Steps.{acl-body, sid-body}
use Rattle.sd_fault_places.proofs.parts.body_fault.Goals as goal

pub returns-in-Some : goal.returns-in-Some
returns-in-Some c =
    let all = acl-body (option_copied c.args.domain) (c.args.part.at + 2) c.args.part.body.now c.in-Acl.which in
    let front = rw c.in-Acl.is at c.front_fault-in-Acl.ensures in
    grind (arith, all, front, c.in-Acl.is, c.first_ace.ensures.some, c.is_some.ensures, c.in-Some.is)

pub returns-in-Sid : goal.returns-in-Sid
returns-in-Sid c =
    let all = sid-body (option_copied c.args.domain) (c.args.part.at + 2) c.args.part.body.now c.in-Sid.sid in
    let front = rw c.in-Sid.is at c.front_fault.ensures in
    grind (arith, all, c.in-Sid.is, front)

pub returns-in_default : goal.returns-in_default
returns-in_default c =
    let all = acl-body (option_copied c.args.domain) (c.args.part.at + 2) c.args.part.body.now c.in-Acl.which in
    let front = rw c.in-Acl.is at c.front_fault-in-Acl.ensures in
    grind (
      arith,
      all,
      front,
      c.in-Acl.is,
      c.first_ace.ensures.some,
      c.is_some.ensures,
      c.in_default.is,
      c.from.ensures,
      c.aces_of.ensures,
      c.aces_fault.ensures,
    )
