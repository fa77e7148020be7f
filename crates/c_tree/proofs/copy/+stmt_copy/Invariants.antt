use Rattle.std.proofs.Common.{◌≡◌, take}
use Rattle.c_tree.proofs.copy.+stmt_copy.Given as goal

-- The copy holds what was passed.
abbrev pub invariant-copy_stmts-each : goal.invariant-copy_stmts-each
invariant-copy_stmts-each l = l.copy ≡ take l.stmt-index l.stmts
