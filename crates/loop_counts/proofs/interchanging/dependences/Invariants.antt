use Rattle.std.proofs.Common.{◌≡◌, ◌++◌, drop}
use Rattle.std.specs.Prelude.{flat_map}
use Rattle.canonical_nests.specs.Kinds as kinds
use Rattle.loop_counts.proofs.interchanging.dependences.Given as goal

-- What was made and what is left are all.
abbrev pub invariant-each : goal.invariant-each
invariant-each l = l.all.items ++ flat_map kinds.depends_on (drop l.kind-index l.part) ≡ flat_map kinds.depends_on l.part
