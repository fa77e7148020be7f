use Rattle.std.proofs.Common.{◌≡◌, ◌∙◌, sym, ap, ◌+◌, max, List, drop, rules}
use Rattle.c_tree.specs.Bare.{Name}
use Rattle.c_tree.specs.NameRules.Scopes.{after_stmt}
use Rattle.c_tree.specs.NameRules.DeclaredNames.{with_stmt, with_stmts, with_head}
use Rattle.c_tree.specs.NameRules.CallDepth.{deepest_calls}
use Rattle.c_tree.specs.NameRules.Breaches.{stmts_breaches}
use Rattle.c_tree.specs.NameRules.BreachSets.{lesser, least}
use Rattle.c_tree.specs.Placed.{Head, Stmts, for_}
use Rattle.c_tree.specs.PlacedOf.{placed_stmt, placed_stmts, placed_head}
use Rattle.c_types.proofs.Heads.{placed_for}
use Rattle.c_types.proofs.Lists.{breach_step, depth_step, names_step}
use Rattle.c_types.proofs.Scopes.{stmt_outside, stmt_print, stmt_input, left_head, known_with}
use Rattle.c_types.proofs.statements.+stmt_seen.Goals as goal

pub stmts_seen-each-preserved : goal.stmts_seen-each-preserved
stmts_seen-each-preserved t c =
    let f = c.args.within.function in
    let w = c.args.within.a_loop in
    let s = c.each.known.scope in
    let u = c.stmt_seen.new.known.scope in
    let xs = c.args.stmts.now in
    let i = c.each.stmt-index in
    let x = c.stmt-item.result in
    let said = c.in_ok-seen.ensures in
    let known_is = said.known in
    let after : u ≡ after_stmt s (placed_stmt x) = ap (λ k. k.scope) known_is in
    let names_are : c.stmt_seen.new.known.names ≡ with_stmt c.each.known.names (placed_stmt x) = ap (λ k. k.names) known_is in
    let kept = c.each.invariant in
    record {
      breach = ap (λ b. lesser b (least (stmts_breaches f w u (placed_stmts (drop (i + 1) xs))))) c.lesser-breach.ensures ∙ breach_step f w s u xs i x c.each-test.true c.stmt-item.is after _ _ _ said.breach kept.breach;
      depth = ap (λ d. max d (deepest_calls u (placed_stmts (drop (i + 1) xs)))) c.max-depth.ensures ∙ depth_step f w s u xs i x c.each-test.true c.stmt-item.is after _ _ _ said.depth kept.depth;
      names = names_step f w s u xs i x c.each-test.true c.stmt-item.is after _ _ _ names_are kept.names;
      outside = ap (λ v. v.outside) after ∙ (stmt_outside s (placed_stmt x) ∙ kept.outside);
      print_known = ap (λ v. v.print_known) after ∙ (stmt_print s (placed_stmt x) ∙ kept.print_known);
      input_known = ap (λ v. v.input_known) after ∙ (stmt_input s (placed_stmt x) ∙ kept.input_known);
      elements = ap (λ k. k.elements) known_is ∙ kept.elements;
    }

pub stmt_seen-returns-in_ok-body-in-For-clause-known : goal.stmt_seen-returns-in_ok-body-in-For-clause-known
stmt_seen-returns-in_ok-body-in-For-clause-known t c =
    let old = c.args.known.now in
    let h : Head = placed_head c.in-For.head in
    let body : Stmts = placed_stmts c.in-For.body in
    let is_for : placed_stmt c.args.stmt.now ≡ for_ h body c.in-For.span = placed_for c.args.stmt.now c.in-For.head c.in-For.body c.in-For.span c.in-For.is in
    let inside : c.list_seen-in-For.new.known ≡ record c.head_seen.new.known { names = with_stmts c.head_seen.new.known.names body } = search rules in
    let ns : List Name = with_head old.names h in
    let names_are : c.head_seen.new.known.names ≡ ns = ap (λ k. k.names) c.in_ok-head-in-For.ensures.known in
    left_head old c.head_seen.new.known c.list_seen-in-For.new.known c.leave.new.self h ns (with_stmts c.head_seen.new.known.names body) c.round-round.result c.round-round.ensures c.in_ok-head-in-For.ensures.known inside c.leave.ensures
    ∙ (ap (λ ms. known_with old.scope (with_stmts ms body) old.elements) names_are
    ∙ (λ i. known_with (after_stmt old.scope (sym is_for i)) (with_stmt old.names (sym is_for i)) old.elements))
