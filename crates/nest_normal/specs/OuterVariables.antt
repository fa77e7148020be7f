-- The variables of the loops round a nest, as the list below its innermost loop declares them.
use Rattle.std.specs.Prelude.{◌≡◌, List, [], ◌∷◌, Some, Ok, ℤ}
use Rattle.c_tree.specs.Bare.{Name, Expr, Stmt, decl}
use Rattle.c_tree.specs.declared.tree.Ty.{Ty}
use Rattle.c_tree.specs.Arithmetic.{and_then, convert}
use Rattle.c_semantics.specs.Meaning.State.{Cell, Var, State, find}
use Rattle.c_semantics.specs.Meaning.Expressions.{Define, eval}
use Rattle.c_semantics.specs.Loops.IterationTrees.{Tree, put}
use Rattle.loop_normal.specs.Frames.{above}
use Rattle.c_semantics.specs.Laws.Names.{Names}
use Rattle.loop_normal.specs.FreshNames.{Source, Apart}
use Rattle.loop_normal.specs.Gens.{GenLoop}
use Rattle.nest_normal.specs.NestTexts.{declare_in}

-- `ty name = value;`
pub record Outer : Type 0 where
  pub ty : Ty
  pub name : Name
  pub value : Expr

abbrev pub declaration_of : Outer → Stmt
declaration_of d = decl d.ty d.name (Some d.value)

abbrev pub typed : List Outer → List (Name × Ty)
typed [] = []
typed (d ∷ ds) = (d.name, d.ty) ∷ typed ds

-- below the innermost loop of a nest, the outermost first
abbrev pub declared : List Outer → GenLoop → GenLoop
declared [] l = l
declared (d ∷ ds) l = declare_in (declaration_of d) (declared ds l)

-- what the first has of names of a kind, the second has
abbrev pub AgreesOn : (Name → Type 0) → List Var → List Var → Type 0
AgreesOn Out p f = (x : Name) (c : Cell) → Out x → find x p ≡ Some c → find x f ≡ Some c

-- the declared values of the outer variables, wherever the fresh variables of the frame are in reach
abbrev pub Given : (Name → Type 0) → List Define → List Var → List Outer → List ℤ → Type 0
Given Out es p [] [] = Unit {0}
Given Out es p [] (z ∷ zs) = ⊥
Given Out es p (d ∷ ds) [] = ⊥
Given Out es p (d ∷ ds) (z ∷ zs) =
    Source Out d.name × ((f : List Var) (s : State) → AgreesOn Out p f → and_then (eval es (above f s) d.value) (convert d.ty) ≡ Ok z) × Given Out es p ds zs

-- their values before the values of every body, the outermost first
abbrev pub puts : List ℤ → Tree → Tree
puts [] t = t
puts (z ∷ zs) t = put z (puts zs t)

-- no value of an outer variable names one of these
abbrev pub ValuesApart : List Name → List Outer → Type 0
ValuesApart own [] = Unit {0}
ValuesApart own (d ∷ ds) = Names (λ y. Apart y own) d.value × ValuesApart own ds
