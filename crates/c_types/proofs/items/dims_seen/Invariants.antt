use Rattle.std.proofs.Common.{◌≡◌, ◌≤◌, ◌+◌, ◌*◌, min, drop}
use Rattle.c_tree.specs.BareOf.{bare_exprs}
use Rattle.c_tree.specs.Constants.{EachLiteralIsHeld}
use Rattle.c_tree.specs.PlacedOf.{placed_exprs}
use Rattle.c_tree.specs.NameRules.BreachSets.{least, lesser}
use Rattle.c_tree.specs.NameRules.Programs.{dims_breaches, dims_product, most_elements}
use Rattle.c_types.proofs.items.dims_seen.Given as goal

-- What was seen and what is left make up the whole.
abbrev pub invariant-each : goal.invariant-each
invariant-each l = record {
  breach : lesser l.breach (least (dims_breaches l.known.scope l.index (placed_exprs (drop l.index l.dims)))) ≡ least (dims_breaches l.known.scope 0 (placed_exprs l.dims));
  product : min (l.product * dims_product l.known.scope l.index (placed_exprs (drop l.index l.dims))) (most_elements + 1) ≡ min (dims_product l.known.scope 0 (placed_exprs l.dims)) (most_elements + 1);
  small : l.product ≤ most_elements + 1;
  held : EachLiteralIsHeld (bare_exprs (drop l.index l.dims));
}
