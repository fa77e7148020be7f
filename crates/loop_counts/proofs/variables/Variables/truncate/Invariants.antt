use Rattle.std.proofs.Common.{◌≡◌, length}
use Rattle.c_semantics.specs.Meaning.State.{keep}
use Rattle.loop_counts.proofs.variables.Variables.truncate.Given as goal

-- The first variables are still there.
abbrev pub invariant-each : goal.invariant-each
invariant-each l = keep l.len l.self ≡ keep l.len l.initial.self

abbrev pub decreases-each : goal.decreases-each
decreases-each l = length l.self
