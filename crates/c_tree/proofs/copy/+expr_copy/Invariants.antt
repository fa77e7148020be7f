use Rattle.std.proofs.Common.{◌≡◌, take}
use Rattle.c_tree.proofs.copy.+expr_copy.Given as goal

-- The copy holds what was passed.
abbrev pub invariant-copy_exprs-each : goal.invariant-copy_exprs-each
invariant-copy_exprs-each l = l.copy ≡ take l.e-index l.es
