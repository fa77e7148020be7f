-- What generated code does. A Gen denotes the trees of a construct where its statements, above any frame that holds its
-- fresh variables, do exactly what the trees do: the same lines, input, variables, turns and end, in every state and at
-- every bound. No body names a fresh variable, and what generated code declares is gone after it.
use Rattle.std.specs.Prelude.{◌≡◌, ℕ, ◌+◌, ◌<◌, ◌≤◌, ◌^◌, ℤ, length, slice_get, List, [], ◌∷◌, ◌++◌, Option, Some, None, Result, Ok, Err, pos}
use Rattle.c_tree.specs.Bare.{Name, Expr, decl, Stmts, no_stmts, more_stmts}
use Rattle.c_tree.specs.declared.tree.Ty.TheVariants.{Long}
use Rattle.c_tree.specs.declared.arithmetic.Trap.{Trap}
use Rattle.c_semantics.specs.Meaning.State.{Var, State, find}
use Rattle.c_semantics.specs.Meaning.Expressions.{Define, eval, type_of}
use Rattle.c_semantics.specs.Meaning.Runs.{Next, Trapped, Meaning, ends, loop_end, turn_of}
use Rattle.c_semantics.specs.Meaning.SimpleStatements.{Env}
use Rattle.c_semantics.specs.Meaning.Statements.{exec_all}
use Rattle.c_semantics.specs.Loops.IterationTrees.{Tree, loop_of, members}
use Rattle.c_semantics.specs.Loops.Execution.{Body, run_body, run_tree}
use Rattle.c_semantics.specs.Laws.Apart.{Differ}
use Rattle.loop_normal.specs.Gens.{GenLoop, gen_loop, Inner, Nest, Seq, Part, Looped, Plain, Parts, no_parts, more_parts, Gen, parts_stmts}
use Rattle.loop_normal.specs.Frames.{above, run_above, long, Agrees, AgreesBut, Foreign}

-- an expression of type `long long` has this value above each frame of a kind, in every state
abbrev pub Value : List Define → (List Var → Type 0) → Expr → ℕ → Type 0
Value ds F e k = (k < 2 ^ 63) × ((f : List Var) (s : State) → F f → (eval ds (above f s) e ≡ Ok (pos k)) × (type_of ds (above f s) e ≡ Long))

-- what never takes a variable away
abbrev pub GrowsFrame : Meaning → Type 0
GrowsFrame f = (s : State) → length s.frame ≤ length (f s).state.frame

abbrev pub BodyGrows : Option Body → Type 0
BodyGrows None = Unit {0}
BodyGrows (Some b) = GrowsFrame b.run

-- bodies that take no variable away, and none of which ends with a `break` of its own
pub record Calm (bs : List Body) : Type 0 where
  pub grow : (b : ℕ) → BodyGrows (slice_get bs b)
  pub stays : (b : ℕ) (zs : List ℤ) (s : State) → loop_end (run_body (slice_get bs b) zs s).end ≡ (run_body (slice_get bs b) zs s).end

-- what a generated loop is made of; its bounds don't read its own counter
pub record LoopFacts (ds : List Define) (Out : Name → Type 0) (Lets : List Var → List Var → Type 0) (Below : List Var → Tree → Type 0) (c : Name) (a b : Expr) (p : List Var) (t : Tree) : Type 0 where
  pub frame : List Var
  pub lets : Lets p frame
  pub first : ℕ
  pub width : ℕ
  pub begins : Value ds (AgreesBut c frame) a first
  pub stops : Value ds (AgreesBut c frame) b (first + width)
  pub foreign : Out c
  pub child : ℕ → Tree
  pub shape : t ≡ loop_of (members width child)
  pub below : (i : ℕ) → i < width → Below (long c (first + i) ∷ frame) (child i)

-- the name isn't declared directly in the list
abbrev pub Undeclared : Name → Stmts → Type 0
Undeclared x no_stmts = Unit {0}
Undeclared x (more_stmts (decl t y e) as') = Differ x y × Undeclared x as'
Undeclared x (more_stmts a as') = Undeclared x as'

-- no declaration has the name of a variable of the frame
abbrev pub LetsApart : Stmts → List Var → Type 0
LetsApart no_stmts p = Unit {0}
LetsApart (more_stmts (decl t y e) as') p = (find y p ≡ None) × LetsApart as' p
LetsApart (more_stmts a as') p = LetsApart as' p

abbrev pub lets_of : GenLoop → Stmts
lets_of (gen_loop ls c a b inner) = ls

-- n bounds the turns of a loop; the bodies, and what their names don't satisfy
module _ (n : ℕ) (env : Env) (bs : List Body) (Out : Name → Type 0) where
  -- declarations that lead from one frame to another; a value doesn't read the variable that it is for
  abbrev pub LetsRun : Stmts → List Var → List Var → Type 0
  LetsRun no_stmts p q = q ≡ p
  LetsRun (more_stmts (decl Long x (Some e)) ls) p q = Out x × (k : ℕ) × Value env.defines (AgreesBut x p) e k × LetsRun ls (long x k ∷ p) q
  LetsRun (more_stmts a ls) p q = ⊥

  -- statements that as a loop's body do what a tree does
  abbrev pub Turns : List Var → Stmts → Tree → Type 0
  Turns p as' t = (f : List Var) (s : State) → Agrees p f → Foreign Out f → turn_of (exec_all n env as') (above f s) ≡ run_above f (run_tree n bs t s)

  abbrev mutual
    -- a generated loop denotes a tree in a frame
    pub LoopMeans : GenLoop → List Var → Tree → Type 0
    LoopMeans (gen_loop ls c a b inner) = LoopFacts env.defines Out (LetsRun ls) (InnerMeans inner) c a b

    pub InnerMeans : Inner → List Var → Tree → Type 0
    InnerMeans (Nest l) = LoopMeans l
    InnerMeans (Seq ps) = λ p t. Turns p (parts_stmts ps) t

  -- among other statements: declared variables stay, and hide nothing of the frame
  abbrev pub Acts : List Var → Stmts → Tree → Type 0
  Acts p as' t =
      (f : List Var) (s : State) → Agrees p f → Foreign Out f →
      (g : List Var) × Agrees p (g ++ f) × Foreign Out (g ++ f) × (exec_all n env as' (above f s) ≡ run_above (g ++ f) (run_tree n bs t s))

  abbrev pub PartMeans : Part → List Var → Tree → Type 0
  PartMeans (Looped l) p t = LoopMeans l p t × LetsApart (lets_of l) p
  PartMeans (Plain as') p t = Acts p as' t

  abbrev pub PartsMean : Parts → List Var → List Tree → Type 0
  PartsMean no_parts p [] = Unit {0}
  PartsMean no_parts p (t ∷ ts) = ⊥
  PartsMean (more_parts a as') p [] = ⊥
  PartsMean (more_parts a as') p (t ∷ ts) = PartMeans a p t × PartsMean as' p ts

  -- statements that only declare fresh variables, from a given state on
  abbrev pub Fronts : List Var → State → Stmts → List Var → Type 0
  Fronts p s as' g =
      Foreign Out g × ((f : List Var) → Agrees p f → Foreign Out f → exec_all n env as' (above f s) ≡ ends Next (above (g ++ f) s)) × ((x : Name) → Undeclared x as' → find x g ≡ None)

  -- a Gen denotes a forest in a frame, in an entry state: its trees, or the trap of its entry
  abbrev pub GenMeans : Gen → List Var → State → Result (List Tree) Trap → Type 0
  GenMeans g p s (Ok ts) = (h : List Var) × Fronts p s g.front h × PartsMean g.parts (h ++ p) ts
  GenMeans g p s (Err x) = (f : List Var) → Agrees p f → Foreign Out f → (h : List Var) × (exec_all n env g.front (above f s) ≡ ends (Trapped x) (above (h ++ f) s))
