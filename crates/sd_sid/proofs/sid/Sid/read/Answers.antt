use Rattle.std.proofs.Common.{ℕ, Option, Some, subst, sym, ap, ◌∙◌}
use Rattle.std.specs.Option.{option_map}
use Rattle.sd_sid.specs.Sid.{SecurityId, BeginsWithSid, sid_of, sid_size}
use Rattle.sd_sid.proofs.laws.SidLaws.{sid_at-bytes, begins-Stands}
use Rattle.sd_sid.proofs.sid.Sid.read.Goals as goal

pub at_front-requires-clause-whole : goal.at_front-requires-clause-whole
at_front-requires-clause-whole c =
    let bytes = c.args.bytes.now in
    (begins-Stands bytes (sid_of bytes) c.in_ok-size.ensures.found.0).whole

pub returns-in_err-size-clause-only : goal.returns-in_err-size-clause-only
returns-in_err-size-clause-only c = λ s h.
    let none = c.in_err-size.ensures.exact
    ∙ ap (λ (found : Option (SecurityId × ℕ)). option_map (λ r. r.1) found) (sid_at-bytes c.args.bytes.now s h) in
    absurd cc

pub returns-clause-found : goal.returns-clause-found
returns-clause-found c =
    let read = c.at_front.ensures.exact in
    let found = c.in_ok-size.ensures.found in
    (subst (BeginsWithSid c.args.bytes.now) (sym read) found.0, found.1 ∙ ap sid_size (sym read))

pub returns-clause-only : goal.returns-clause-only
returns-clause-only c = λ s h.
    ap (λ (t : SecurityId). Some (t, c.in_ok-size.size)) c.at_front.ensures.exact
    ∙ sym c.in_ok-size.ensures.found.2 ∙ sid_at-bytes c.args.bytes.now s h
