-- Parts whose first is changed where it is a nest.
use Rattle.std.proofs.Common.{◌≡◌, refl}
use Rattle.loop_normal.specs.Gens.{GenLoop, Part, Looped, Plain, Parts, more_parts}
use Rattle.loop_normal.specs.Templates.{on_first}
use Rattle.nest_normal.specs.NestTexts.{on_loop}

pub first_changed : (f : GenLoop → GenLoop) (p : Part) (ps : Parts) → on_first f (more_parts p ps) ≡ more_parts (on_loop f p) ps
first_changed f (Looped l) ps = refl
first_changed f (Plain as') ps = refl

pub ruleset changed = (first_changed)
