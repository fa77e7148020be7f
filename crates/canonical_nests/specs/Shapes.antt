-- The loops that a `for` or a directive gives to a directive round it, with the kind of each count (OpenMP 6.0, 6.4:
-- canonical loop nests and canonical loop sequences). A list that holds only one block is read as that block's list.
use Rattle.std.specs.Prelude.{ℕ, zero, suc, ◌+◌, List, [], ◌∷◌, ◌++◌, map}
use Rattle.c_tree.specs.Bare.{Directive, Stmt, for_, block, omp, Stmts, no_stmts, more_stmts, Head, head}
use Rattle.c_tree.specs.declared.tree.Kind.{Kind}
use Rattle.c_tree.specs.declared.tree.Kind.TheVariants.{Fuse}
use Rattle.c_semantics.specs.Meaning.State.{State}
use Rattle.c_semantics.specs.Meaning.Expressions.{Define}
use Rattle.c_semantics.specs.Loops.CanonicalForm.{canonical}
use Rattle.c_semantics.specs.Loops.Directives.{plan_of}
use Rattle.c_semantics.specs.Loops.Need.{loops_asked}
use Rattle.c_semantics.specs.Loops.StatementDepths.{kind_of}
use Rattle.c_semantics.specs.Structure.Skeleton.{source_count, scope_in}
use Rattle.canonical_nests.specs.declared.nest.CountKind.{CountKind}
use Rattle.canonical_nests.specs.declared.nest.CountKind.TheVariants.{Entry}
use Rattle.canonical_nests.specs.Kinds.{Part, same_kind, moved, plan_kinds}

-- known where the bounds are constants and the entry doesn't trap
abbrev pub source_kind : List Define → State → Head → CountKind
source_kind ds s h = same_kind Entry (source_count ds s (canonical ds h))

-- the loops below a source loop: those of the one part of its body
abbrev pub one_further_in : Part → Part
one_further_in ks = map (moved (λ p. (p + 1) ∷ [])) ks

abbrev pub below_source : List Part → Part
below_source (ks ∷ []) = one_further_in ks
below_source _ = []

-- what a directive finds in its body: `fuse` the parts of all members, any other those of the one statement
abbrev pub found_by : Kind → List Part → List Part → List Part
found_by Fuse one all = all
found_by _ one all = one

module _ (ds : List Define) where
  abbrev mutual
    -- the parts of a statement where m loops are wanted of it
    pub stmt_kinds : State → ℕ → Stmt → List Part
    stmt_kinds s zero _ = []
    stmt_kinds s (suc m) (for_ (head i o next) a) =
        (source_kind ds s (head i o next) ∷ below_source (single_kinds (scope_in i s) m a)) ∷ []
    stmt_kinds s (suc m) (block a) = single_kinds s (suc m) a
    stmt_kinds s (suc m) (omp d a) =
        let n = loops_asked (plan_of ds d) (suc m) in
        plan_kinds (plan_of ds d) 0 (found_by (kind_of d) (single_kinds s n a) (member_kinds s n a))
    stmt_kinds s (suc m) _ = []

    -- of a list with one statement
    pub single_kinds : State → ℕ → Stmts → List Part
    single_kinds s m (more_stmts a no_stmts) = stmt_kinds s m a
    single_kinds s m _ = []

    -- of all members of a sequence
    pub member_kinds : State → ℕ → Stmts → List Part
    member_kinds s m no_stmts = []
    member_kinds s m (more_stmts (block a) no_stmts) = member_kinds s m a
    member_kinds s m (more_stmts a as') = stmt_kinds s m a ++ member_kinds s m as'

-- of what stands in a directive's body, where m loops are wanted of each part
abbrev pub body_kinds : List Define → State → ℕ → Directive → Stmts → List Part
body_kinds ds s m d a = found_by (kind_of d) (single_kinds ds s m a) (member_kinds ds s m a)
