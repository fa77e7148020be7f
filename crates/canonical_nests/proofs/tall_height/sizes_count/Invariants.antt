use Rattle.std.proofs.Common.{◌≡◌, length, drop}
use Rattle.c_tree.specs.BareOf.{bare_clauses}
use Rattle.c_semantics.specs.Loops.Directives.{sizes_in}
use Rattle.canonical_nests.proofs.tall_height.sizes_count.Given as goal

-- What is left has the first sizes.
abbrev pub invariant-each : goal.invariant-each
invariant-each l = length (sizes_in (bare_clauses (drop l.clause-index l.clauses))) ≡ length (sizes_in (bare_clauses l.clauses))
