use Rattle.std.proofs.Common.{◌≡◌, map, take}
use Rattle.c_tree.specs.BareOf.{bare_top}
use Rattle.resolved_names.specs.Renaming.{renamed_top}
use Rattle.resolved_names.specs.Numbering.{numbering}
use Rattle.resolved_names.specs.Numbered.{numbered_top}
use Rattle.resolved_names.proofs.resolve.resolve_items.Given as goal

-- What was passed is resolved.
abbrev pub invariant-each : goal.invariant-each
invariant-each l = map numbered_top l.resolved ≡ map (λ i. renamed_top (numbering l.names) (bare_top i)) (take l.item-index l.items)
