use Rattle.std.proofs.Common.{◌≡◌, ◌+◌, ◌++◌, length, drop}
use Rattle.c_tree.specs.BareOf.{bare_stmts}
use Rattle.c_tree.specs.WellFormed.{WellFormedStmts}
use Rattle.canonical_nests.specs.Shapes.{member_kinds}
use Rattle.loop_counts.proofs.shapes.+stmt_kinds.Given as goal

-- What was made and what is left are all, and the same is visible.
abbrev pub invariant-member_kinds-each : goal.invariant-member_kinds-each
invariant-member_kinds-each l = record {
  all : l.all.items ++ member_kinds l.initial.scope.defines l.initial.scope.state l.wanted (bare_stmts (drop l.stmt-index l.stmts))
      ≡ member_kinds l.initial.scope.defines l.initial.scope.state l.wanted (bare_stmts l.stmts);
  scope : l.scope ≡ l.initial.scope;
  formed : WellFormedStmts (bare_stmts (drop l.stmt-index l.stmts));
  counted : l.left + l.stmt-index ≡ length l.stmts;
}
