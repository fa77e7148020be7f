use Rattle.std.proofs.Common.{◌≡◌, drop}
use Rattle.c_tree.specs.PlacedOf.{placed_clauses}
use Rattle.canonical_nests.specs.LoopRules.Clauses.{arguments_of}
use Rattle.loop_clauses.specs.Sorts.{is_of}
use Rattle.loop_clauses.proofs.written.arguments_of.Given as goal

-- What is left decides.
abbrev pub invariant-each : goal.invariant-each
invariant-each l = arguments_of (is_of l.sort) l.otherwise (placed_clauses (drop l.clause-index l.clauses)) ≡ arguments_of (is_of l.sort) l.otherwise (placed_clauses l.clauses)
