-- ACLs that are lists.
use Rattle.std.proofs.Common.{◌≡◌, ◌≤◌, eqb, false, map, refl, arith}
use Rattle.std.proofs.lemmas.Bool.Decides.{nat_tests}
use Rattle.sd_view.specs.declared.acl_part.AclPart.TheVariants as acl
use Rattle.sd_call_build.specs.New.{acl_shown, shown_ace}
use Rattle.sd_call_build.specs.declared.new.NewAcl.{NewAcl}

-- from state 2 on
pub list_shown : (new : NewAcl) → 2 ≤ new.state → acl_shown new ≡ acl.List (map shown_ace new.aces.now)
list_shown new h =
    let absent : eqb new.state 0 ≡ false = grind (arith, nat_tests) in
    let null : eqb new.state 1 ≡ false = grind (arith, nat_tests) in
    rw (absent, null) refl
