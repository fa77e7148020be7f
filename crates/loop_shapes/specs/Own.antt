-- A directive by itself.
use Rattle.std.specs.Prelude.{ℕ, zero, suc, List, [], ◌∷◌}
use Rattle.c_tree.specs.Placed.{Directive}
use Rattle.canonical_nests.specs.Constructs.{construct_of}
use Rattle.canonical_nests.specs.declared.nest.Construct.{Construct}

-- the construct of a directive of which a directive round it wants m loops, 0 where none does: none that another takes
abbrev pub own_constructs : ℕ → Directive → List Construct
own_constructs zero d = construct_of d ∷ []
own_constructs (suc m) d = []
