use Rattle.std.proofs.Common.{◌≡◌, ◌+◌, ◌≤◌, drop}
use Rattle.c_tree.specs.BareOf.{bare_exprs}
use Rattle.canonical_nests.specs.Weight.{exprs_weight, capped_weight}
use Rattle.loop_weight.proofs.expressions.+expr_weight.Given as goal

-- What was seen and what is left are all.
abbrev pub invariant-exprs_weight-each : goal.invariant-exprs_weight-each
invariant-exprs_weight-each l = (capped_weight (l.all + exprs_weight (bare_exprs (drop l.e-index l.es))) ≡ capped_weight (exprs_weight (bare_exprs l.es))) × (l.all ≤ 1048577)
