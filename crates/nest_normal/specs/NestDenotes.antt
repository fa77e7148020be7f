-- What the code of a nest denotes inside of further loops, whatever the values of their variables.
use Rattle.std.specs.Prelude.{◌≡◌, ℕ, ◌+◌, List, [], ◌∷◌, ◌++◌, None, Result, Ok, Err, ℤ}
use Rattle.c_tree.specs.Bare.{Name, Stmts}
use Rattle.c_tree.specs.declared.tree.Ty.{Ty}
use Rattle.c_tree.specs.declared.arithmetic.Trap.{Trap}
use Rattle.c_semantics.specs.Meaning.State.{Var, State, find}
use Rattle.c_semantics.specs.Meaning.Runs.{Trapped, ends}
use Rattle.c_semantics.specs.Meaning.SimpleStatements.{Env}
use Rattle.c_semantics.specs.Meaning.Statements.{exec_all}
use Rattle.c_semantics.specs.Loops.IterationTrees.{Tree}
use Rattle.c_semantics.specs.Loops.Execution.{Body}
use Rattle.loop_normal.specs.Frames.{above, AgreesBut, Foreign}
use Rattle.loop_normal.specs.Gens.{GenLoop, gen_loop, Inner, Nest, Seq, Looped}
use Rattle.loop_normal.specs.Denotes.{Value, LetsRun, Fronts, PartMeans}
use Rattle.nest_normal.specs.OuterVariables.{Outer, typed, declared, Given, ValuesApart, puts}

-- the frame has no variable of these names
abbrev pub HasNone : List Name → List Var → Type 0
HasNone [] p = Unit {0}
HasNone (x ∷ xs) p = (find x p ≡ None) × HasNone xs p

module _ (n : ℕ) (env : Env) (bs : List Body) (Out : Name → Type 0) where
  abbrev mutual
    -- the declarations and the bounds of the nest's loops have values in a frame without their counters, so they depend on
    -- none, and no end is below its begin
    pub IsSteady : GenLoop → List Var → Type 0
    IsSteady (gen_loop ls c a b inner) p =
        (q : List Var) × LetsRun n env bs Out ls p q × (first : ℕ) × (width : ℕ) × Value env.defines (AgreesBut c q) a first × Value env.defines (AgreesBut c q) b (first + width) × SteadyBelow inner q

    pub SteadyBelow : Inner → List Var → Type 0
    SteadyBelow (Nest l) = IsSteady l
    SteadyBelow (Seq ps) = λ q. Unit {0}

  -- the front traps in the entry state; or it declares its variables h. Then S is said of the frame; and for all outer
  -- variables xs and all their values M is said of their declarations, the frame and the tree with these values. The
  -- code's own fresh names are none of the frame's, and no outer variable's value names one
  abbrev pub Within : List Name → List (Name × Ty) → Stmts → (List Var → Type 0) → (List Outer → List Var → Tree → Type 0) → State → Result (List Tree) Trap → Type 0
  Within own xs front S M s (Err x) = (f : List Var) → Foreign Out f → (h : List Var) × (exec_all n env front (above f s) ≡ ends (Trapped x) (above (h ++ f) s))
  Within own xs front S M s (Ok []) = ⊥
  Within own xs front S M s (Ok (t ∷ [])) =
      (h : List Var) × Fronts n env bs Out [] s front h × ((p : List Var) → HasNone own p → S (h ++ p)) ×
      ((p : List Var) (ds : List Outer) (zs : List ℤ) → HasNone own p → typed ds ≡ xs → Given Out env.defines p ds zs → ValuesApart own ds → M ds (h ++ p) (puts zs t))
  Within own xs front S M s (Ok (t ∷ u ∷ ts)) = ⊥

  -- the nest is steady, and with the outer variables declared below its innermost loop it denotes the tree
  abbrev pub NestMeans : List Name → List (Name × Ty) → Stmts → GenLoop → State → Result (List Tree) Trap → Type 0
  NestMeans own xs front l = Within own xs front (IsSteady l) (λ ds p t. PartMeans n env bs Out (Looped (declared ds l)) p t)
