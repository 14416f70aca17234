use Rattle.std.proofs.Common.{arith, rules}
use Rattle.sd_acl_view.proofs.BodyLaws.{Span, span}
use Rattle.sd_acl_view.proofs.ace.AceView.body.Goals as goal

-- before the body is cut out

cut : (c : goal.After-front_size)
    → Span c.self.inside.extent.now c.args.self.now c.front_size.result c.sid_offset-front.result c.from-count.result
cut c =
    span _ _ _ _ _ c.self.invariant c.self.view_is c.front_size.ensures c.sid_offset-front.ensures.value
    c.from-count.ensures

pub slice_bounds-result-count : goal.slice_bounds-result-count
slice_bounds-result-count c = let s = cut c in omega (arith, s.order)

pub slice_bounds-result-start : goal.slice_bounds-result-start
slice_bounds-result-start c = let s = cut c in let order = s.order in let whole = s.whole in search
    (rules, arith, order, whole)

pub slice_bounds-result-end : goal.slice_bounds-result-end
slice_bounds-result-end c = let s = cut c in let whole = s.whole in search (rules, arith, whole)

-- and after

is_cut : (c : goal.After-result-2-1)
    → Span c.self.inside.extent.now c.args.self.now c.front_size.result c.sid_offset-front.result c.from-count.result
is_cut c =
    span _ _ _ _ _ c.self.invariant c.self.view_is c.front_size.ensures c.sid_offset-front.ensures.value
    c.from-count.ensures

pub returns-clause-value : goal.returns-clause-value
returns-clause-value c = let s = is_cut c in s.value

pub returns-clause-size : goal.returns-clause-size
returns-clause-size c = let s = is_cut c in s.size

pub returns-clause-short : goal.returns-clause-short
returns-clause-short c = let s = is_cut c in s.short
