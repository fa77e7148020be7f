-- The parts of a shape so far, and one more; and the place of a breach.
use Rattle.std.proofs.Common.{◌≡◌, ◌∙◌, sym, ap, List, [], ◌∷◌, ◌++◌, map, Option, Some, option_map}
use Rattle.std.proofs.lemmas.List.{map-append}
use Rattle.canonical_nests.specs.Kinds.{Part}
use Rattle.canonical_nests.specs.declared.rules.LoopBreach.{LoopBreach}
use Rattle.loop_shapes.specs.Shape.{loops_of}
use Rattle.loop_shapes.specs.declared.shapes.PartShape.{PartShape}

pub part_more : (ps : List PartShape) (p : PartShape) (xs : List Part) → map loops_of ps ≡ xs → map loops_of (ps ++ p ∷ []) ≡ xs ++ p.loops.items ∷ []
part_more ps p xs is = map-append loops_of ps (p ∷ []) ∙ ap (λ ys. ys ++ p.loops.items ∷ []) is

pub ruleset parts = (part_more)

pub breach_place : (o : Option LoopBreach) (b : LoopBreach) → Some b ≡ o → option_map (λ c. c.place) o ≡ Some b.place
breach_place o b is = ap (option_map (λ c. c.place)) (sym is)

pub ruleset places = (breach_place)
