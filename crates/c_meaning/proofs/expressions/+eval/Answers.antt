-- An element by its place, subscript by subscript.
use Rattle.std.proofs.Common.{◌≡◌, ◌∙◌, sym, ap, subst, ◌+◌, ◌*◌, ◌<◌, ◌≤◌, List, drop, Ok, ℤ, w64, rules, arith}
use Rattle.std.proofs.lemmas.Int.{to_z-of_z}
use Rattle.std.specs.Prelude.{slice_index_or, slice_get}
use Rattle.c_meaning.specs.Held.{HeldExpr}
use mir.Val.{SFits}
use denote.Param.Weighed.{most, at_most}
use Rattle.resolved_names.proofs.tree.Expr.TheLaws.{the_size}
use Rattle.c_tree.specs.Arithmetic.{and_then}
use Rattle.resolved_names.specs.Numbered.{number_name, numbered_expr, numbered_exprs}
use Rattle.resolved_names.specs.declared.tree.Expr.{Expr}
use Rattle.c_semantics.specs.Meaning.State.{look}
use Rattle.c_semantics.specs.Meaning.Expressions.{eval, place, dims_of, elements_of, or_unset, in_dim}
use Rattle.c_meaning.specs.Scopes.{env_of}
use Rattle.c_meaning.proofs.Lists.{well_formed_at}
use Rattle.c_meaning.proofs.Nodes.{bare_item}
use Rattle.c_meaning.proofs.Places.{within_next, within_more, mul_fits, step_fits, below_dim, place_over, place_inside}
use Rattle.c_meaning.proofs.expressions.+eval.Goals as goal

pub eval-returns-in-Item-clause-value : goal.eval-returns-in-Item-clause-value
eval-returns-in-Item-clause-value t c =
    let ds = (env_of c.args.scope.now).defines in
    let s = c.args.m.now in
    let x = number_name c.in-Item.name in
    c.element.ensures.value
    ∙ (ap (λ (es : List Expr). and_then (place ds s (dims_of (look s x)) 0 (numbered_exprs es)) (λ k. or_unset (slice_get (elements_of (look s x)) k))) c.as_slice.ensures
    ∙ sym (ap (eval ds s) (bare_item c.args.e.now c.in-Item.name c.in-Item.subs c.in-Item.is)))

pub place-returns-then-index-dims : goal.place-returns-then-index-dims
place-returns-then-index-dims t c =
    sym (place_over (env_of c.args.scope.now).defines c.args.m.now c.args.dims.now c.args.subs.now c.each.index c.each.at c.if-index-dims.true c.each-test.true) ∙ c.each.invariant.place

pub place-overflow_mul-at : goal.place-overflow_mul-at
place-overflow_mul-at t c =
    let dims = c.args.dims.now in
    let d = slice_index_or dims c.each.index 0 in
    let fits : c.each.at * d < 9223372036854775808 = mul_fits c.each.at d (drop (c.each.index + 1) dims) (within_next dims c.each.index d c.each.at c.if-index-dims.false (search rules) c.each.invariant.within) in
    record { fits = omega arith }

pub place-overflow_add-at : goal.place-overflow_add-at
place-overflow_add-at t c =
    let dims = c.args.dims.now in
    let d = slice_index_or dims c.each.index 0 in
    let z : ℤ = c.in_ok-subscript.subscript.value in
    let held : SFits w64 z = search rules in
    let inside : in_dim d z ≡ Ok c.in_ok-at.field-0 = ap (in_dim d) (sym (to_z-of_z w64 z held)) ∙ sym c.in_ok-at.ensures in
    let below : c.in_ok-at.field-0 < d = below_dim d z c.in_ok-at.field-0 inside in
    let fits : c.each.at * d + c.in_ok-at.field-0 < 9223372036854775808 = step_fits c.each.at d c.in_ok-at.field-0 (drop (c.each.index + 1) dims) (within_next dims c.each.index d c.each.at c.if-index-dims.false (search rules) c.each.invariant.within) below in
    record { fits = omega arith }

pub place-each-preserved : goal.place-each-preserved
place-each-preserved t c =
    let dims = c.args.dims.now in
    let d = slice_index_or dims c.each.index 0 in
    let z : ℤ = c.in_ok-subscript.subscript.value in
    let held : SFits w64 z = search rules in
    let inside : in_dim d z ≡ Ok c.in_ok-at.field-0 = ap (in_dim d) (sym (to_z-of_z w64 z held)) ∙ sym c.in_ok-at.ensures in
    let below : c.in_ok-at.field-0 < d = below_dim d z c.in_ok-at.field-0 inside in
    let dim : d ≡ slice_index_or dims c.each.index d = search rules in
    record {
      place = sym (place_inside (env_of c.args.scope.now).defines c.args.m.now dims c.args.subs.now c.each.index c.each.at d c.index-subs-index.result c.if-index-dims.false dim c.each-test.true c.index-subs-index.is c.in_ok-subscript.subscript.value c.in_ok-at.field-0 (sym c.in_ok-subscript.ensures.value) inside) ∙ c.each.invariant.place;
      within = within_more c.each.at d c.in_ok-at.field-0 (drop (c.each.index + 1) dims) (within_next dims c.each.index d c.each.at c.if-index-dims.false dim c.each.invariant.within) below;
    }

pub place-eval-requires : goal.place-eval-requires
place-eval-requires t c =
    let formed : HeldExpr (numbered_expr c.index-subs-index.result) = well_formed_at c.args.subs.now c.each.index c.index-subs-index.result c.each-test.true c.index-subs-index.is c.requires.well_formed in
    let less : the_size c.index-subs-index.result ≤ most the_size c.args.subs.now = subst (λ (e : Expr). the_size e ≤ most the_size c.args.subs.now) (sym c.index-subs-index.is) (at_most the_size c.args.subs.now c.each.index c.index-subs-index.result c.each-test.true) in
    (omega arith, (c.requires.known, formed))
