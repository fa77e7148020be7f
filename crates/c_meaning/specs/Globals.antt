-- What file-scope variables hold at the start of a run.
use Rattle.std.specs.Prelude.{ℕ, List, Option, Some, None, ℤ, pos, replicate, unwrap_or}
use Rattle.c_tree.specs.Bare.{Expr}
use Rattle.c_tree.specs.declared.tree.Ty.{Ty}
use Rattle.c_semantics.specs.Meaning.State.{Cell, array}
use Rattle.c_semantics.specs.Meaning.Expressions.{Define, constant}
use Rattle.c_semantics.specs.Meaning.Programs.{product}

-- a scalar's number
abbrev pub number_or_0 : List Define → Option Expr → ℤ
number_or_0 ds None = pos 0
number_or_0 ds (Some e) = unwrap_or (constant ds e) (pos 0)

-- an array of these dimensions
abbrev pub zeros : Ty → List ℕ → Cell
zeros t dims = array t dims (replicate (product dims) (pos 0))
