use Rattle.std.proofs.Common.{◌≡◌, drop}
use Rattle.c_tree.specs.BareOf.{bare_clauses}
use Rattle.canonical_nests.specs.TallHeight.{permutation_length}
use Rattle.canonical_nests.proofs.tall_height.permutation_count.Given as goal

-- What is left has the first permutation.
abbrev pub invariant-each : goal.invariant-each
invariant-each l = permutation_length (bare_clauses (drop l.clause-index l.clauses)) ≡ permutation_length (bare_clauses l.clauses)
