use Rattle.std.proofs.Common.{◌≡◌, drop, Some}
use Rattle.c_tree.specs.BareOf.{bare_stmts}
use Rattle.c_tree.specs.WellFormed.{WellFormedStmts}
use Rattle.c_semantics.specs.Loops.StatementDepths.{joined, member_depths}
use Rattle.loop_structure.proofs.found.+stmt_depths.Given as goal

-- The depths so far and those of the members that are left are all.
abbrev pub invariant-member_depths-each : goal.invariant-member_depths-each
invariant-member_depths-each g l =
    (joined (Some l.all.items) (member_depths (g.C.Constants.defines l.constants) (bare_stmts (drop l.i l.stmts))) ≡ member_depths (g.C.Constants.defines l.constants) (bare_stmts l.stmts))
    × WellFormedStmts (bare_stmts (drop l.i l.stmts))
