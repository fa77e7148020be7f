use Rattle.std.proofs.Common.{◌≡◌, max, drop, map}
use Rattle.c_tree.specs.BareOf.{bare_top}
use Rattle.c_tree.specs.Height.{program_height, capped}
use Rattle.c_tree.proofs.height.height.Given as goal

-- What was seen and what is left have the height of all.
abbrev pub invariant-each : goal.invariant-each
invariant-each l = max l.highest (capped (program_height (map bare_top (drop l.item-index l.items)))) ≡ capped (program_height (map bare_top l.items))
