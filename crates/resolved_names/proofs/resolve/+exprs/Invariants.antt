use Rattle.std.proofs.Common.{◌≡◌, map, take}
use Rattle.c_tree.specs.BareOf.{bare_expr}
use Rattle.resolved_names.specs.Renaming.{renamed_expr}
use Rattle.resolved_names.specs.Numbering.{numbering}
use Rattle.resolved_names.specs.Numbered.{numbered_expr}
use Rattle.resolved_names.proofs.resolve.+exprs.Given as goal

-- What was passed is resolved.
abbrev pub invariant-resolve_exprs-each : goal.invariant-resolve_exprs-each
invariant-resolve_exprs-each l = map numbered_expr l.resolved ≡ map (λ e. renamed_expr (numbering l.names) (bare_expr e)) (take l.e-index l.es)
