use Rattle.std.proofs.Common.{◌≡◌, drop}
use Rattle.c_tree.specs.BareOf.{bare_stmts}
use Rattle.c_tree.specs.PlacedOf.{placed_stmts}
use Rattle.c_tree.specs.WellFormed.{WellFormedStmts}
use Rattle.canonical_nests.specs.LoopRules.BreachSets.{least, lesser}
use Rattle.canonical_nests.specs.LoopRules.Structure.{stmts_breaches}
use Rattle.loop_structure.proofs.construct.+stmt_breach.Given as goal

-- What was found and what is left have the least breach of all.
abbrev pub invariant-stmts_breach-each : goal.invariant-stmts_breach-each
invariant-stmts_breach-each g l =
    (lesser l.found (least (stmts_breaches (g.C.Constants.defines l.constants) l.wanted (placed_stmts (drop l.stmt-index l.stmts))))
    ≡ least (stmts_breaches (g.C.Constants.defines l.constants) l.wanted (placed_stmts l.stmts)))
    × WellFormedStmts (bare_stmts (drop l.stmt-index l.stmts))
