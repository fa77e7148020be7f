use Rattle.std.proofs.Common.{◌≡◌, map, take}
use Rattle.c_tree.specs.BareOf.{bare_param}
use Rattle.resolved_names.specs.Renaming.{renamed_param}
use Rattle.resolved_names.specs.Numbering.{numbering}
use Rattle.resolved_names.specs.Numbered.{numbered_param}
use Rattle.resolved_names.proofs.resolve.resolve_params.Given as goal

-- What was passed is resolved.
abbrev pub invariant-each : goal.invariant-each
invariant-each l = map numbered_param l.resolved ≡ map (λ p. renamed_param (numbering l.names) (bare_param p)) (take l.param-index l.params)
