-- The positions to which a move takes the loop at a position.
use Rattle.std.specs.Prelude.{ℕ, ◌+◌, List, [], ◌∷◌}
use Rattle.canonical_nests.specs.Kinds.{position_up_to, positions_below}
use Rattle.canonical_nests.specs.Plans.{seen_transformation}
use Rattle.loop_counts.specs.declared.moves.Move.{Move}
use Rattle.loop_counts.specs.declared.moves.Move.TheVariants.{UpTo, Below, Inward}

abbrev pub move_of : Move → ℕ → List ℕ
move_of (UpTo n) p = position_up_to n p
move_of (Below k c) p = positions_below k (seen_transformation c.now) p
move_of Inward p = (p + 1) ∷ []
