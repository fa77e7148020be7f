use Rattle.std.proofs.Common.{◌≡◌, drop}
use Rattle.c_tree.specs.PlacedOf.{placed_stmts}
use Rattle.canonical_nests.specs.LoopRules.BreachSets.{least, lesser}
use Rattle.loop_heads.specs.Calling.{all_calls_touch}
use Rattle.loop_heads.proofs.calling.+calls_breach.Given as goal

-- The least of what was found and of what is left is the least of all.
abbrev pub invariant-calls_breach-each : goal.invariant-calls_breach-each
invariant-calls_breach-each l =
    lesser l.found (least (all_calls_touch l.functions l.var (placed_stmts (drop l.stmt-index l.stmts)))) ≡ least (all_calls_touch l.functions l.var (placed_stmts l.stmts))
