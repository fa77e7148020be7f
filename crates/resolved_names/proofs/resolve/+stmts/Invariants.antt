use Rattle.std.proofs.Common.{◌≡◌, map, take}
use Rattle.c_tree.specs.BareOf.{bare_stmt}
use Rattle.resolved_names.specs.Renaming.{renamed_stmt}
use Rattle.resolved_names.specs.Numbering.{numbering}
use Rattle.resolved_names.specs.Numbered.{numbered_stmt}
use Rattle.resolved_names.proofs.resolve.+stmts.Given as goal

-- What was passed is resolved.
abbrev pub invariant-resolve_stmts-each : goal.invariant-resolve_stmts-each
invariant-resolve_stmts-each l = map numbered_stmt l.resolved ≡ map (λ s. renamed_stmt (numbering l.names) (bare_stmt s)) (take l.stmt-index l.stmts)
