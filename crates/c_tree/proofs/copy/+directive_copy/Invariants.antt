use Rattle.std.proofs.Common.{◌≡◌, take}
use Rattle.c_tree.proofs.copy.+directive_copy.Given as goal

-- The copy holds what was passed.
abbrev pub invariant-copy_clauses-each : goal.invariant-copy_clauses-each
invariant-copy_clauses-each l = l.copy ≡ take l.clause-index l.clauses

-- The copy holds what was passed.
abbrev pub invariant-copy_items-each : goal.invariant-copy_items-each
invariant-copy_items-each l = l.copy ≡ take l.item-index l.items
