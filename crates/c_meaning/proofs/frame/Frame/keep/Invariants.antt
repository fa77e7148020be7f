use Rattle.std.proofs.Common.{◌≡◌, length}
use Rattle.c_semantics.specs.Meaning.State.{keep}
use Rattle.c_meaning.proofs.frame.Frame.keep.Given as goal

-- The variables that are kept are still there.
abbrev pub invariant-each : goal.invariant-each
invariant-each l = keep l.len l.self ≡ keep l.len l.initial.self

abbrev pub decreases-each : goal.decreases-each
decreases-each l = length l.self
