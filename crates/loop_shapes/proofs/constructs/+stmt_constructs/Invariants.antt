use Rattle.std.proofs.Common.{◌≡◌, ◌++◌, drop}
use Rattle.c_tree.specs.BareOf.{bare_stmts}
use Rattle.c_tree.specs.PlacedOf.{placed_stmts}
use Rattle.c_tree.specs.WellFormed.{WellFormedStmts}
use Rattle.canonical_nests.specs.Constructs.{stmts_constructs}
use Rattle.loop_shapes.proofs.constructs.+stmt_constructs.Given as goal

-- What was listed and what is left are all.
abbrev pub invariant-list_stmts-each : goal.invariant-list_stmts-each
invariant-list_stmts-each l = record {
  all : l.found.items ++ stmts_constructs l.scope.defines l.wanted (placed_stmts (drop l.stmt-index l.stmts))
      ≡ l.initial.found.items ++ stmts_constructs l.scope.defines l.wanted (placed_stmts l.stmts);
  formed : WellFormedStmts (bare_stmts (drop l.stmt-index l.stmts));
}
