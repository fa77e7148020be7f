use Rattle.std.proofs.Common.{◌≡◌, drop}
use Rattle.c_tree.specs.PlacedOf.{placed_stmts}
use Rattle.canonical_nests.specs.LoopRules.Accesses.{breaks_in}
use Rattle.canonical_nests.specs.LoopRules.BreachSets.{least, lesser}
use Rattle.canonical_nests.specs.LoopRules.Heads.{break_breaches}
use Rattle.loop_heads.proofs.breaking.+break_breach.Given as goal

-- The least of what was found and of what is left is the least of all.
abbrev pub invariant-break_breach-each : goal.invariant-break_breach-each
invariant-break_breach-each l =
    lesser l.found (least (break_breaches (breaks_in (placed_stmts (drop l.stmt-index l.stmts))))) ≡ least (break_breaches (breaks_in (placed_stmts l.stmts)))
