use Rattle.std.proofs.Common.{◌≡◌, map, drop}
use Rattle.c_tree.specs.BareOf.{bare_param}
use Rattle.c_scopes.specs.Types.{with_params}
use Rattle.apply_rewrite.proofs.entering.enter_params.Given as goal

-- With the parameters that are left, all are visible.
abbrev pub invariant-each : goal.invariant-each
invariant-each l = record {
  defines : l.scope.defines ≡ l.initial.scope.defines;
  visible : with_params (map bare_param (drop l.param-index l.params)) l.scope.state ≡ with_params (map bare_param l.params) l.initial.scope.state;
}
