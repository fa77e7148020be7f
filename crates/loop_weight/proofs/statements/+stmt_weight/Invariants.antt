use Rattle.std.proofs.Common.{◌≡◌, ◌+◌, ◌≤◌, length, drop}
use Rattle.c_tree.specs.BareOf.{bare_stmts}
use Rattle.c_tree.specs.WellFormed.{WellFormedStmts}
use Rattle.c_semantics.specs.Meaning.State.{with_frame, keep}
use Rattle.canonical_nests.specs.Weight.{stmts_weight, capped_weight}
use Rattle.loop_weight.proofs.statements.+stmt_weight.Given as goal

-- What was seen and what is left are all. The variables that were visible at the start are the last ones.
abbrev pub invariant-stmts_weight-each : goal.invariant-stmts_weight-each
invariant-stmts_weight-each l = record {
  all : capped_weight (l.all + stmts_weight l.initial.scope.defines l.scope.state l.wanted (bare_stmts (drop l.stmt-index l.stmts)))
      ≡ capped_weight (stmts_weight l.initial.scope.defines l.initial.scope.state l.wanted (bare_stmts l.stmts));
  within : l.all ≤ 1048577;
  defines : l.scope.defines ≡ l.initial.scope.defines;
  outside : with_frame (keep l.len l.scope.state.frame) l.scope.state ≡ l.initial.scope.state;
  deep : l.len ≤ length l.scope.state.frame;
  formed : WellFormedStmts (bare_stmts (drop l.stmt-index l.stmts));
}
