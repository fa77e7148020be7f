-- A count beyond 63 bits comes of dimensions that don't fit.
use Rattle.std.proofs.Common.{◌≡◌, sym, subst, ℕ, ◌+◌, Option, drop, rules, arith}
use Rattle.std.specs.Prelude.{slice_index_or, IfNone}
use Rattle.c_meaning.specs.Variables.{FitFrom}
use Rattle.c_meaning.proofs.Products.{Counted, count_more, count_over}
use Rattle.c_meaning.proofs.globals.element_count.Goals as goal

pub returns-in_err-count-clause-none : goal.returns-in_err-count-clause-none
returns-in_err-count-clause-none c =
    let dims = c.args.dims.now in
    let d = slice_index_or dims c.each.dim-index 0 in
    let here : d ≡ slice_index_or dims c.each.dim-index d = search rules in
    let over = count_over dims c.each.dim-index c.each.count d c.each-test.true here c.each.invariant.counted (λ less. c.in_err-count.ensures (omega arith)) in
    subst (λ (r : Option ℕ). IfNone r (FitFrom 1 dims → ⊥)) (sym c.from_residual.ensures) over

pub returns-then-count-clause-none : goal.returns-then-count-clause-none
returns-then-count-clause-none c =
    let dims = c.args.dims.now in
    let d = slice_index_or dims c.each.dim-index 0 in
    let here : d ≡ slice_index_or dims c.each.dim-index d = search rules in
    let product = c.in_ok-count.ensures in
    count_over dims c.each.dim-index c.each.count d c.each-test.true here c.each.invariant.counted (λ less. omega (arith, product.1, c.if-count.true))

pub each-preserved : goal.each-preserved
each-preserved c =
    let dims = c.args.dims.now in
    let d = slice_index_or dims c.each.dim-index 0 in
    let here : d ≡ slice_index_or dims c.each.dim-index d = search rules in
    let product = c.in_ok-count.ensures in
    record {
      small = omega (arith, c.if-count.false);
      counted = subst (λ (k : ℕ). Counted k (drop (c.each.dim-index + 1) dims) dims) (sym product.1) (count_more dims c.each.dim-index c.each.count d c.each-test.true here c.each.invariant.counted c.each.invariant.small);
    }
