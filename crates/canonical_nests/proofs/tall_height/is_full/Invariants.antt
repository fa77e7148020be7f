use Rattle.std.proofs.Common.{◌≡◌, drop}
use Rattle.c_tree.specs.BareOf.{bare_clauses}
use Rattle.c_semantics.specs.Loops.Directives.{full_in}
use Rattle.canonical_nests.proofs.tall_height.is_full.Given as goal

-- What is left decides.
abbrev pub invariant-each : goal.invariant-each
invariant-each l = full_in (bare_clauses (drop l.clause-index l.clauses)) ≡ full_in (bare_clauses l.clauses)
