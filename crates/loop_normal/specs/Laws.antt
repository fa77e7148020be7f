-- What the templates denote, and what a Gen that denotes a construct's trees does as a block.
use Rattle.std.specs.Prelude.{◌≡◌, ℕ, ◌<◌, ◌^◌, List, [], ◌∷◌, Some, true, Result, Ok, slice_get}
use Rattle.c_tree.specs.Bare.{Name, Expr, block, Stmts}
use Rattle.c_tree.specs.declared.tree.Ty.{Ty}
use Rattle.c_tree.specs.declared.arithmetic.Trap.{Trap}
use Rattle.c_tree.specs.Arithmetic.{and_then}
use Rattle.c_semantics.specs.Meaning.State.{Var, State}
use Rattle.c_semantics.specs.Meaning.SimpleStatements.{Env}
use Rattle.c_semantics.specs.Meaning.Statements.{exec, exec_all}
use Rattle.c_semantics.specs.Loops.CanonicalForm.{Canonical, is_step_for}
use Rattle.c_semantics.specs.Loops.TripCount.{loop_type, entry}
use Rattle.c_semantics.specs.Loops.IterationTrees.{Tree, body}
use Rattle.c_semantics.specs.Loops.Forest.{loop_over}
use Rattle.c_semantics.specs.Loops.Execution.{Body, run_forest}
use Rattle.c_semantics.specs.Laws.Names.{Names}
use Rattle.c_semantics.specs.Laws.Apart.{Differ}
use Rattle.loop_normal.specs.Gens.{gen_loop, Inner, Gen, emit}
use Rattle.loop_normal.specs.Templates.{LoopNames, SourceLoop, leaf, rebased, fixed}
use Rattle.loop_normal.specs.Denotes.{Calm, GrowsFrame, LoopMeans, GenMeans}
use Rattle.loop_normal.specs.FreshNames.{Among, Source, NamesNone, AreApart, NewAll}

-- the block of a Gen does what the trees do that it denotes: in every state, for every end, with the same turns
abbrev pub BlocksRun : Type 0
BlocksRun =
    (n : ℕ) (env : Env) (bs : List Body) (names : List Name) → Calm bs → (g : Gen) (s : State) (r : Result (List Tree) Trap) →
    GenMeans n env bs (Among names) g [] s r → exec n env (block (emit g)) s ≡ run_forest n r bs s

-- a canonical loop with its variable's type
abbrev pub source_loop : Canonical → Ty → SourceLoop
source_loop c T = record { var = c.var; ty = T; lb = c.lb; ub = c.ub; test = c.test; step = c.step }

-- the normal form of a canonical loop denotes the loop over its body, or the trap of its entry
abbrev pub LeafDenotes : Type 0
LeafDenotes =
    (n : ℕ) (env : Env) (names : List Name) (bs : List Body) (c : Canonical) (T : Ty) (m : LoopNames) (as' : Stmts) (b : ℕ) → is_step_for c.test c.step ≡ true →
    AreApart m → Among names m.begin × Among names m.end × Among names m.count × Among names m.counter → Source (Among names) c.var → Names (Source (Among names)) c.lb → Names (Source (Among names)) c.ub → NamesNone (Among names) as' →
    GrowsFrame (exec_all n env as') → slice_get bs b ≡ Some (record { vars = (c.var, T) ∷ []; run = exec_all n env as' }) →
    (p : List Var) (s : State) → loop_type env.defines s c ≡ T →
    GenMeans n env bs (Among names) (leaf m (source_loop c T) as') p s (and_then (entry env.defines s c) (λ r. Ok (loop_over r (body b [] ∷ []))))

-- a loop that is brought to begin at 0 denotes what it denoted
abbrev pub RebasedDenotes : Type 0
RebasedDenotes =
    (n : ℕ) (env : Env) (bs : List Body) (names : List Name) → Calm bs → (x y r : Name) (ls : Stmts) (c : Name) (a b : Expr) (inner : Inner) (p : List Var) (t : Tree) →
    Among names x × Among names y × Among names r → Differ x c × Differ r c × Differ x r × Differ y r × Differ x y → NewAll (x ∷ y ∷ r ∷ []) ls p →
    LoopMeans n env bs (Among names) (gen_loop ls c a b inner) p t → LoopMeans n env bs (Among names) (rebased x y r (gen_loop ls c a b inner)) p t

-- so does a loop whose count is known, with that count as its end
abbrev pub FixedDenotes : Type 0
FixedDenotes =
    (n : ℕ) (env : Env) (bs : List Body) (names : List Name) → Calm bs → (k : ℕ) (r : Name) (ls : Stmts) (c : Name) (a b : Expr) (inner : Inner) (p : List Var) (t : Tree) →
    Among names r → Differ r c → NewAll (r ∷ []) ls p → k < 2 ^ 63 → (h : LoopMeans n env bs (Among names) (gen_loop ls c a b inner) p t) → h.width ≡ k →
    LoopMeans n env bs (Among names) (fixed k r (gen_loop ls c a b inner)) p t
