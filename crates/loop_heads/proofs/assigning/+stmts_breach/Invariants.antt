use Rattle.std.proofs.Common.{◌≡◌, drop}
use Rattle.c_tree.specs.PlacedOf.{placed_stmts}
use Rattle.canonical_nests.specs.LoopRules.BreachSets.{least, lesser}
use Rattle.loop_heads.specs.Assigning.{all_assigns}
use Rattle.loop_heads.proofs.assigning.+stmts_breach.Given as goal

-- The least of what was found and of what is left is the least of all.
abbrev pub invariant-stmts_breach-each : goal.invariant-stmts_breach-each
invariant-stmts_breach-each l =
    lesser l.found (least (all_assigns l.var l.now (placed_stmts (drop l.stmt-index l.stmts)))) ≡ least (all_assigns l.var l.hidden (placed_stmts l.stmts))
