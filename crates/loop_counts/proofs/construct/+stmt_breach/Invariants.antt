use Rattle.std.proofs.Common.{◌≡◌, drop}
use Rattle.c_tree.specs.BareOf.{bare_stmts}
use Rattle.c_tree.specs.WellFormed.{WellFormedStmts}
use Rattle.c_tree.specs.PlacedOf.{placed_stmts}
use Rattle.canonical_nests.specs.LoopRules.BreachSets.{least, lesser}
use Rattle.canonical_nests.specs.LoopRules.Counts.{stmts_breaches}
use Rattle.loop_counts.proofs.construct.+stmt_breach.Given as goal

-- The least of what was found and of what is left is the least of all, and the same is visible.
abbrev pub invariant-stmts_breach-each : goal.invariant-stmts_breach-each
invariant-stmts_breach-each l = record {
  all : lesser l.found (least (stmts_breaches l.initial.scope.defines l.initial.scope.state l.wanted (placed_stmts (drop l.stmt-index l.stmts))))
      ≡ least (stmts_breaches l.initial.scope.defines l.initial.scope.state l.wanted (placed_stmts l.stmts));
  scope : l.scope ≡ l.initial.scope;
  formed : WellFormedStmts (bare_stmts (drop l.stmt-index l.stmts));
}
