use Rattle.std.proofs.Common.{◌≡◌, ◌++◌, drop}
use Rattle.loop_counts.proofs.part.push_kinds.Given as goal

-- What was made and what is left are all.
abbrev pub invariant-each : goal.invariant-each
invariant-each l = l.all.items ++ drop l.kind-index l.part ≡ l.initial.all.items ++ l.part
