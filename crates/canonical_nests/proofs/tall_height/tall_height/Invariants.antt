use Rattle.std.proofs.Common.{◌≡◌, max, map, drop}
use Rattle.c_tree.specs.BareOf.{bare_top}
use Rattle.c_tree.specs.Height.{capped}
use Rattle.canonical_nests.specs.TallHeight.{tall_height}
use Rattle.canonical_nests.proofs.tall_height.tall_height.Given as goal

-- What was seen and what is left have the height of all.
abbrev pub invariant-each : goal.invariant-each
invariant-each l = max l.highest (capped (tall_height (map bare_top (drop l.item-index l.items)))) ≡ capped (tall_height (map bare_top l.items))
