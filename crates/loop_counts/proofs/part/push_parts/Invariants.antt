use Rattle.std.proofs.Common.{◌≡◌, ◌++◌, drop}
use Rattle.loop_counts.proofs.part.push_parts.Given as goal

-- What was made and what is left are all.
abbrev pub invariant-each : goal.invariant-each
invariant-each l = l.all.items ++ drop l.part-index l.parts ≡ l.initial.all.items ++ l.parts
