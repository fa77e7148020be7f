-- What is answered of the loops that a statement gives to a directive round it.
use Rattle.std.specs.Prelude.{◌≡◌, ℕ, List, map, Option, Some, None}
use Rattle.std.specs.Option.{option_map}
use Rattle.canonical_nests.specs.Kinds.{Part}
use Rattle.canonical_nests.specs.declared.rules.LoopBreach.{LoopBreach}
use Rattle.loop_shapes.specs.declared.shapes.PartShape.{PartShape}
use Rattle.loop_shapes.specs.declared.shapes.Shape.{Shape}
use Rattle.loop_shapes.specs.declared.shapes.ShapeFault.{ShapeFault}
use Rattle.loop_shapes.specs.declared.shapes.ShapeFault.TheVariants.{NotCanonical, NoShape, Memory}

abbrev pub loops_of : PartShape → Part
loops_of p = p.loops.items

abbrev pub kinds_of : Shape → List Part
kinds_of s = map loops_of s.parts.items

-- why there is no shape, where the least breach of structure and the first affected loop that isn't canonical are these: the
-- place of the breach, or where there is none of the loop; or there is no memory
abbrev pub IsFault : Option LoopBreach → Option ℕ → ShapeFault → Type 0
IsFault breach unlike (NoShape place) = option_map (λ b. b.place) breach ≡ Some place
IsFault breach unlike (NotCanonical place) = (breach ≡ None) × (unlike ≡ Some place)
IsFault breach unlike Memory = Unit {0}
