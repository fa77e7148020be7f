use Rattle.std.proofs.Common.{◌≡◌, max, drop}
use Rattle.c_tree.specs.PlacedOf.{placed_stmts}
use Rattle.c_tree.specs.NameRules.DeclaredNames.{with_stmts}
use Rattle.c_tree.specs.NameRules.CallDepth.{deepest_calls}
use Rattle.c_tree.specs.NameRules.Breaches.{stmts_breaches}
use Rattle.c_tree.specs.NameRules.BreachSets.{least, lesser}
use Rattle.c_types.proofs.statements.+stmt_seen.Given as goal

-- What was seen, and what is left in the scope that there is by now, make up the whole.
abbrev pub invariant-stmts_seen-each : goal.invariant-stmts_seen-each
invariant-stmts_seen-each l = record {
  breach : lesser l.breach (least (stmts_breaches l.within.function l.within.a_loop l.known.scope (placed_stmts (drop l.stmt-index l.stmts)))) ≡ least (stmts_breaches l.within.function l.within.a_loop l.initial.known.scope (placed_stmts l.stmts));
  depth : max l.depth (deepest_calls l.known.scope (placed_stmts (drop l.stmt-index l.stmts))) ≡ deepest_calls l.initial.known.scope (placed_stmts l.stmts);
  names : with_stmts l.known.names (placed_stmts (drop l.stmt-index l.stmts)) ≡ with_stmts l.initial.known.names (placed_stmts l.stmts);
  outside : l.known.scope.outside ≡ l.initial.known.scope.outside;
  print_known : l.known.scope.print_known ≡ l.initial.known.scope.print_known;
  input_known : l.known.scope.input_known ≡ l.initial.known.scope.input_known;
  elements : l.known.elements ≡ l.initial.known.elements;
}
