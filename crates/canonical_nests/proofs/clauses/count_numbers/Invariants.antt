use Rattle.std.proofs.Common.{◌≡◌, ◌++◌, map, drop}
use Rattle.c_tree.specs.BareOf.{bare_count}
use Rattle.c_semantics.specs.Loops.Directives.{count_of}
use Rattle.canonical_nests.specs.Held.{CountsAreHeld}
use Rattle.canonical_nests.proofs.clauses.count_numbers.Given as goal

-- The numbers so far and those that are left are all.
abbrev pub invariant-each : goal.invariant-each
invariant-each g l =
    (l.values.items ++ map (count_of (g.C.Constants.defines l.constants)) (map bare_count (drop l.count-index l.counts))
    ≡ map (count_of (g.C.Constants.defines l.constants)) (map bare_count l.counts))
    × CountsAreHeld (map bare_count (drop l.count-index l.counts))
