use Rattle.std.proofs.Common.{◌≡◌, ◌≤◌, length, drop}
use Rattle.c_tree.specs.BareOf.{bare_stmts}
use Rattle.c_tree.specs.PlacedOf.{placed_stmts}
use Rattle.c_tree.specs.WellFormed.{WellFormedStmts}
use Rattle.c_semantics.specs.Meaning.State.{with_frame, keep}
use Rattle.canonical_nests.specs.LoopRules.BreachSets.{least, lesser}
use Rattle.canonical_nests.specs.LoopRules.Programs.{stmts_breaches}
use Rattle.restrictions.proofs.statements.+stmt_breach.Given as goal

-- The least of what was found and of what is left is the least of all. The variables that were visible at the start are
-- the last ones.
abbrev pub invariant-stmts_breach-each : goal.invariant-stmts_breach-each
invariant-stmts_breach-each l = record {
  all : lesser l.found (least (stmts_breaches l.initial.scope.defines l.functions l.scope.state l.wanted (placed_stmts (drop l.stmt-index l.stmts))))
      ≡ least (stmts_breaches l.initial.scope.defines l.functions l.initial.scope.state l.wanted (placed_stmts l.stmts));
  defines : l.scope.defines ≡ l.initial.scope.defines;
  outside : with_frame (keep l.round l.scope.state.frame) l.scope.state ≡ l.initial.scope.state;
  deep : l.round ≤ length l.scope.state.frame;
  formed : WellFormedStmts (bare_stmts (drop l.stmt-index l.stmts));
}
