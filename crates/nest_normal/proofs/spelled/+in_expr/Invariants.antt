use Rattle.std.proofs.Common.{◌≡◌, drop}
use Rattle.c_tree.specs.BareOf.{bare_exprs}
use Rattle.nest_normal.specs.Spelled.{in_exprs}
use Rattle.nest_normal.proofs.spelled.+in_expr.Given as goal

-- What is left decides.
abbrev pub invariant-in_exprs-each : goal.invariant-in_exprs-each
invariant-in_exprs-each l = in_exprs l.name (bare_exprs (drop l.e-index l.es)) ≡ in_exprs l.name (bare_exprs l.es)
