-- How the iterations of a construct run (OpenMP 6.0, 11: execution of the generated loops).
use Rattle.std.specs.Prelude.{ℕ, zero, suc, List, [], ◌∷◌, Option, Some, None, Result, ℤ, slice_get}
use Rattle.c_tree.specs.Bare.{Name}
use Rattle.c_tree.specs.declared.tree.Ty.{Ty}
use Rattle.c_semantics.specs.Meaning.State.{scalar, State, push, count_turn}
use Rattle.c_tree.specs.declared.arithmetic.Trap.{Trap}
use Rattle.c_semantics.specs.Meaning.Expressions.{Define}
use Rattle.c_semantics.specs.Meaning.Runs.{Next, Cut, Meaning, ends, then_do, with_value, leave, turn_end, with_end}
use Rattle.c_semantics.specs.Loops.CanonicalForm.{Canonical}
use Rattle.c_semantics.specs.Loops.TripCount.{loop_type}
use Rattle.c_semantics.specs.Loops.IterationTrees.{Tree, body, do_all, loop, Trees, no_trees, more_trees, of_list}

-- a body: its affected variables with their types, outermost first, and what its statements do
pub record Body : Type 0 where
  pub vars : List (Name × Ty)
  pub run : Meaning

-- private copies of the variables with their values, the outermost first; one without a value is unset
abbrev pub push_copies : List (Name × Ty) → List ℤ → State → State
push_copies [] zs s = s
push_copies (x ∷ xs) [] s = push_copies xs [] (push x.0 (scalar x.1 None) s)
push_copies (x ∷ xs) (z ∷ zs) s = push_copies xs zs (push x.0 (scalar x.1 (Some z)) s)

-- the copies, the statements as a block, where `continue` ends this iteration, and the copies are dropped
abbrev pub run_body : Option Body → List ℤ → Meaning
run_body None zs s = ends Next s
run_body (Some b) zs s = with_end turn_end (leave s (b.run (push_copies b.vars zs s)))

abbrev mutual
  -- a loop has at most n turns, and each counts as a turn of a `for`
  pub run_tree : ℕ → List Body → Tree → Meaning
  run_tree n bs (body b zs) s = run_body (slice_get bs b) zs s
  run_tree n bs (do_all ts) s = run_all n bs ts s
  run_tree n bs (loop ts) s = run_turns n bs ts n s

  pub run_all : ℕ → List Body → Trees → Meaning
  run_all n bs no_trees s = ends Next s
  run_all n bs (more_trees t ts) s = then_do (run_tree n bs t s) (run_all n bs ts)

  -- k more turns at most
  pub run_turns : ℕ → List Body → Trees → ℕ → Meaning
  run_turns n bs no_trees k s = ends Next s
  run_turns n bs (more_trees t ts) zero s = ends Cut s
  run_turns n bs (more_trees t ts) (suc k) s = then_do (run_tree n bs t (count_turn s)) (run_turns n bs ts k)

-- the trap of the entry, or the trees in order
abbrev pub run_forest : ℕ → Result (List Tree) Trap → List Body → Meaning
run_forest n f bs s = with_value f s (λ ts. run_all n bs (of_list ts) s)

abbrev pub loop_var : List Define → State → Option Canonical → List (Name × Ty)
loop_var ds s None = []
loop_var ds s (Some c) = (c.var, loop_type ds s c) ∷ []

-- where no loop is left to look for, this is a body
abbrev pub one_body : ℕ → List (Name × Ty) → Meaning → List Body → List Body
one_body zero xs f bs = record { vars = xs; run = f } ∷ []
one_body (suc m) xs f bs = bs
