use Rattle.std.proofs.Common.{◌≡◌, drop}
use Rattle.c_tree.specs.BareOf.{bare_clauses}
use Rattle.canonical_nests.specs.Held.{ClausesAreHeld}
use Rattle.canonical_nests.specs.FirstClauses.{first_of}
use Rattle.canonical_nests.proofs.clauses.first_of.Given as goal

-- What is left has the first clause of the sort.
abbrev pub invariant-each : goal.invariant-each
invariant-each l =
    (first_of l.sort (bare_clauses (drop l.clause-index l.clauses)) ≡ first_of l.sort (bare_clauses l.clauses))
    × ClausesAreHeld (bare_clauses (drop l.clause-index l.clauses))
