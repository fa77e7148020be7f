use Rattle.std.proofs.Common.{◌≡◌, drop}
use Rattle.c_tree.specs.BareOf.{bare_stmts}
use Rattle.c_tree.specs.PlacedOf.{placed_stmts}
use Rattle.c_tree.specs.WellFormed.{WellFormedStmts}
use Rattle.loop_shapes.specs.Affected.{first_among}
use Rattle.loop_shapes.proofs.affected.+first_in.Given as goal

-- The first is among those that are left.
abbrev pub invariant-first_among-each : goal.invariant-first_among-each
invariant-first_among-each l = record {
  all : first_among l.scope.defines l.wanted (placed_stmts (drop l.stmt-index l.stmts)) ≡ first_among l.scope.defines l.wanted (placed_stmts l.stmts);
  formed : WellFormedStmts (bare_stmts (drop l.stmt-index l.stmts));
}
