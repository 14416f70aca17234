use Rattle.std.proofs.Common.{◌≡◌, ap, arith, length, sym, ◌∙◌}
use Rattle.std.specs.Option.{option_copied}
use Rattle.sd_parts.specs.declared.part.Which.TheVariants.{Dacl, Sacl}
use Rattle.sd_inherit.specs.Derived.{derived}
use Rattle.sd_inherit.specs.Inner.Counting.{gathered_origins}
use Rattle.sd_inherit.specs.Origins.{aces_in, new_origins}
use Rattle.sd_inherit.specs.declared.origin.AceCounts.{AceCounts}
use Rattle.sd_inherit.proofs.CountingLaws.{Origins}
use Rattle.sd_inherit.proofs.OriginFacts.{new_origins-count}
use Rattle.sd_inherit.proofs.origin_cells.write_origins.Goals as goal

pub put_new_origins-requires : goal.put_new_origins-requires
put_new_origins-requires c =
    let d = c.args.parent.now in
    let creator = option_copied c.args.creator in
    let plan = c.args.plan.now in
    let all : length (new_origins Sacl d creator plan) ≡ length (aces_in (derived d creator plan).sacl) =
    new_origins-count Sacl d creator plan in
    let told : c.in-Ok.counts.sacl ≡ length (aces_in (derived d creator plan).sacl) =
    ap (λ (n : AceCounts). n.sacl) c.in-Ok.ensures.counts in
    let these : length (gathered_origins c.sources.result) ≡ length (new_origins Sacl d creator plan) =
    ap (λ (os : Origins). length os) c.sources.ensures.origins in
    let room = c.if-sacl-counts.false in
    omega (arith, all, told, these, room)

pub put_new_origins-requires-2 : goal.put_new_origins-requires-2
put_new_origins-requires-2 c =
    let d = c.args.parent.now in
    let creator = option_copied c.args.creator in
    let plan = c.args.plan.now in
    let all : length (new_origins Dacl d creator plan) ≡ length (aces_in (derived d creator plan).dacl) =
    new_origins-count Dacl d creator plan in
    let told : c.in-Ok.counts.dacl ≡ length (aces_in (derived d creator plan).dacl) =
    ap (λ (n : AceCounts). n.dacl) c.in-Ok.ensures.counts in
    let these : length (gathered_origins c.sources-2.result) ≡ length (new_origins Dacl d creator plan) =
    ap (λ (os : Origins). length os) c.sources-2.ensures.origins in
    let room = c.if-dacl-counts.false in
    omega (arith, all, told, these, room)

pub returns-clause-sacl : goal.returns-clause-sacl
returns-clause-sacl c =
    let d = c.args.parent.now in
    let creator = option_copied c.args.creator in
    let plan = c.args.plan.now in
    let told : c.in-Ok.counts.sacl ≡ length (aces_in (derived d creator plan).sacl) =
    ap (λ (n : AceCounts). n.sacl) c.in-Ok.ensures.counts in
    let count : c.in-Ok.counts.sacl ≡ length (new_origins Sacl d creator plan) =
    told ∙ sym (new_origins-count Sacl d creator plan) in
    rw count (rw c.sources.ensures.origins at c.put_new_origins.ensures)

pub returns-clause-dacl : goal.returns-clause-dacl
returns-clause-dacl c =
    let d = c.args.parent.now in
    let creator = option_copied c.args.creator in
    let plan = c.args.plan.now in
    let told : c.in-Ok.counts.dacl ≡ length (aces_in (derived d creator plan).dacl) =
    ap (λ (n : AceCounts). n.dacl) c.in-Ok.ensures.counts in
    let count : c.in-Ok.counts.dacl ≡ length (new_origins Dacl d creator plan) =
    told ∙ sym (new_origins-count Dacl d creator plan) in
    rw count (rw c.sources-2.ensures.origins at c.put_new_origins-2.ensures)
