use Rattle.std.proofs.Common.{◌≡◌, ◌≤◌, ◌++◌, length, map, drop}
use Rattle.c_tree.specs.BareOf.{bare_param}
use Rattle.c_semantics.specs.Meaning.State.{with_frame}
use Rattle.c_semantics.specs.Structure.Skeleton.{params_frame}
use Rattle.loop_counts.proofs.scope.Scope.declare_params.Given as goal

-- The last parameters are visible.
abbrev pub invariant-each : goal.invariant-each
invariant-each l = record {
  within : l.left ≤ length l.params;
  visible : l.self ≡ record l.initial.self { state = with_frame (params_frame (map bare_param (drop l.left l.params)) ++ l.initial.self.state.frame) l.initial.self.state };
}

abbrev pub decreases-each : goal.decreases-each
decreases-each l = l.left
