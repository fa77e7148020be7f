use Rattle.std.proofs.Common.{◌≡◌, drop, map}
use Rattle.c_tree.specs.PlacedOf.{placed_param}
use Rattle.c_tree.specs.NameRules.BreachSets.{least, lesser}
use Rattle.c_tree.specs.NameRules.Scopes.{with_params}
use Rattle.c_tree.specs.NameRules.DeclaredNames as names
use Rattle.c_tree.specs.NameRules.Programs.{params_breaches}
use Rattle.c_types.proofs.items.params_breach.Given as goal

-- What was seen, and what is left in the scope that there is by now, make up the whole.
abbrev pub invariant-each : goal.invariant-each
invariant-each l = record {
  breach : lesser l.breach (least (params_breaches l.known.scope (map placed_param (drop l.param-index l.params)))) ≡ least (params_breaches l.initial.known.scope (map placed_param l.params));
  scope : with_params l.known.scope (map placed_param (drop l.param-index l.params)) ≡ with_params l.initial.known.scope (map placed_param l.params);
  names : names.with_params l.known.names (map placed_param (drop l.param-index l.params)) ≡ names.with_params l.initial.known.names (map placed_param l.params);
  elements : l.known.elements ≡ l.initial.known.elements;
}
