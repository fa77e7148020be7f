-- What a reversed loop denotes.
use Rattle.std.specs.Prelude.{◌≡◌, ℕ, List, reverse, None}
use Rattle.c_tree.specs.Bare.{Name, Expr, Stmts}
use Rattle.c_semantics.specs.Meaning.State.{Var, find}
use Rattle.c_semantics.specs.Meaning.SimpleStatements.{Env}
use Rattle.c_semantics.specs.Loops.IterationTrees.{Tree, loop_of, children}
use Rattle.c_semantics.specs.Loops.Execution.{Body}
use Rattle.c_semantics.specs.Laws.Apart.{Differ}
use Rattle.loop_normal.specs.Gens.{gen_loop, Inner}
use Rattle.loop_normal.specs.Templates.{ll}
use Rattle.loop_normal.specs.Denotes.{Calm, LoopMeans, Undeclared}
use Rattle.loop_normal.specs.FreshNames.{Among}
use Rattle.permute_reverse.specs.Reversed.{reversed}

-- where a loop from 0 denotes a tree, the reversed loop denotes the loop over its children in reverse
abbrev pub ReversedDenotes : Type 0
ReversedDenotes =
    (n : ℕ) (env : Env) (bs : List Body) (names : List Name) → Calm bs → (r : Name) (ls : Stmts) (c : Name) (b : Expr) (inner : Inner) (p : List Var) (t : Tree) →
    Among names r → Undeclared r ls → find r p ≡ None → Differ r c →
    LoopMeans n env bs (Among names) (gen_loop ls c (ll 0) b inner) p t → LoopMeans n env bs (Among names) (reversed r (gen_loop ls c (ll 0) b inner)) p (loop_of (reverse (children t)))
