-- The constructs of a program: the directives that no other directive takes, in the order of the text, those in the bodies
-- of others included.
use Rattle.std.specs.Prelude.{ℕ, zero, suc, List, [], ◌∷◌, ◌++◌}
use Rattle.c_tree.specs.Placed.{Stmt, if_, if_else, while_, do_, for_, block, omp, Stmts, no_stmts, more_stmts, Directive, directive, Top, function, main, Program}
use Rattle.c_tree.specs.Forget.{forget_directive, forget_top}
use Rattle.c_semantics.specs.Meaning.Expressions.{Define}
use Rattle.c_semantics.specs.Meaning.FileVariables.{defines_with}
use Rattle.c_semantics.specs.Loops.Directives.{plan_of}
use Rattle.c_semantics.specs.Loops.Need.{loops_asked}
use Rattle.canonical_nests.specs.Weight.{asked_below}
use Rattle.canonical_nests.specs.declared.nest.Construct.{Construct}

abbrev pub construct_of : Directive → Construct
construct_of (directive k cs s) = record { kind = k; place = s.start }

module _ (ds : List Define) where
  abbrev mutual
    -- in a statement of which a directive round it wants m loops, 0 where none does
    pub stmt_constructs : ℕ → Stmt → List Construct
    stmt_constructs m (if_ e a s) = stmts_constructs 0 a
    stmt_constructs m (if_else e a b s) = stmts_constructs 0 a ++ stmts_constructs 0 b
    stmt_constructs m (while_ e a s) = stmts_constructs 0 a
    stmt_constructs m (do_ a e s) = stmts_constructs 0 a
    stmt_constructs m (for_ h a s) = stmts_constructs (asked_below m) a
    stmt_constructs m (block a s) = stmts_constructs m a
    stmt_constructs zero (omp d a s) = construct_of d ∷ stmts_constructs (loops_asked (plan_of ds (forget_directive d)) 0) a
    stmt_constructs (suc m) (omp d a s) = stmts_constructs (loops_asked (plan_of ds (forget_directive d)) (suc m)) a
    stmt_constructs m _ = []

    pub stmts_constructs : ℕ → Stmts → List Construct
    stmts_constructs m no_stmts = []
    stmts_constructs m (more_stmts a as') = stmt_constructs m a ++ stmts_constructs m as'

abbrev pub top_constructs : List Define → Top → List Construct
top_constructs ds (function x at ps a s) = stmts_constructs ds 0 a
top_constructs ds (main a s) = stmts_constructs ds 0 a
top_constructs ds _ = []

abbrev pub constructs_from : List Define → Program → List Construct
constructs_from ds [] = []
constructs_from ds (top ∷ tops) = top_constructs ds top ++ constructs_from (defines_with ds (forget_top top)) tops

abbrev pub constructs : Program → List Construct
constructs = constructs_from []
