-- What is visible at a statement's place.
use Rattle.std.specs.Prelude.{List, map, None}
use Rattle.c_tree.specs.Bare.{Program}
use Rattle.c_semantics.specs.Meaning.State.{scalar, Var, nowhere, with_frame}
use Rattle.canonical_nests.specs.Canonical.{program_defines}
use Rattle.loop_counts.specs.Visible.{Visible}
use Rattle.loop_shapes.specs.declared.seen.Seen.{Seen}

abbrev pub variable_of : Seen → Var
variable_of v = record { name = v.name; cell = scalar v.ty None }

-- the defines of a program, and these variables, the innermost first
abbrev pub visible_at : Program → List Seen → Visible
visible_at p vs = record { defines = program_defines p; state = with_frame (map variable_of vs) nowhere }
