use Rattle.std.proofs.Common.{◌≡◌, drop}
use Rattle.c_tree.specs.PlacedOf.{placed_clauses}
use Rattle.canonical_nests.specs.LoopRules.Clauses.{has_kind}
use Rattle.loop_clauses.specs.Sorts.{is_of}
use Rattle.loop_clauses.proofs.written.has.Given as goal

-- What is left decides.
abbrev pub invariant-each : goal.invariant-each
invariant-each l = has_kind (is_of l.sort) (placed_clauses (drop l.clause-index l.clauses)) ≡ has_kind (is_of l.sort) (placed_clauses l.clauses)
