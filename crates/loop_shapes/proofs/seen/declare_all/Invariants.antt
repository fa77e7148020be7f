use Rattle.std.proofs.Common.{◌≡◌, ◌≤◌, ◌++◌, length, map, drop}
use Rattle.c_semantics.specs.Meaning.State.{with_frame}
use Rattle.loop_shapes.specs.Seen.{variable_of}
use Rattle.loop_shapes.proofs.seen.declare_all.Given as goal

-- The last variables are visible.
abbrev pub invariant-each : goal.invariant-each
invariant-each l = record {
  within : l.left ≤ length l.vars;
  visible : l.scope ≡ record l.initial.scope { state = with_frame (map variable_of (drop l.left l.vars) ++ l.initial.scope.state.frame) l.initial.scope.state };
}

abbrev pub decreases-each : goal.decreases-each
decreases-each l = l.left
