use Rattle.std.proofs.Common.{◌≡◌, max, drop}
use Rattle.c_tree.specs.BareOf.{bare_exprs}
use Rattle.c_tree.specs.Height.{exprs_height, capped}
use Rattle.c_tree.proofs.height.+expr_height.Given as goal

-- What was seen and what is left have the height of all.
abbrev pub invariant-exprs_height-each : goal.invariant-exprs_height-each
invariant-exprs_height-each l = max l.highest (capped (exprs_height (bare_exprs (drop l.e-index l.es)))) ≡ capped (exprs_height (bare_exprs l.es))
