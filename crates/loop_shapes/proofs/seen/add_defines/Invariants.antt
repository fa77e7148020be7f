use Rattle.std.proofs.Common.{◌≡◌, ◌≤◌, ◌++◌, length, map, drop}
use Rattle.c_tree.specs.BareOf.{bare_top}
use Rattle.canonical_nests.specs.Canonical.{program_defines}
use Rattle.loop_shapes.proofs.seen.add_defines.Given as goal

-- The defines among the last items are visible.
abbrev pub invariant-each : goal.invariant-each
invariant-each l = record {
  within : l.left ≤ length l.items;
  visible : l.scope ≡ record l.initial.scope { defines = program_defines (map bare_top (drop l.left l.items)) ++ l.initial.scope.defines };
}

abbrev pub decreases-each : goal.decreases-each
decreases-each l = l.left
