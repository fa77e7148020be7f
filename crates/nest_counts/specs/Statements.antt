-- When the loops of a statement are what its scope says of them, and each directive in it finds the loops that it takes
-- (OpenMP 6.0, 6.4: canonical loop nests and canonical loop sequences).
use Rattle.std.specs.Prelude.{ℕ, zero, suc, ◌≡◌, ◌<◌, List, length, Some, true}
use Rattle.c_tree.specs.Bare.{Name, Directive, Stmt, for_, block, omp, Stmts, no_stmts, more_stmts, Head, head}
use Rattle.c_tree.specs.declared.tree.Kind.{Kind}
use Rattle.c_tree.specs.declared.tree.Kind.TheVariants.{Fuse}
use Rattle.c_semantics.specs.Meaning.State.{State, look}
use Rattle.c_semantics.specs.Meaning.Expressions.{Define, is_define}
use Rattle.c_semantics.specs.Loops.CanonicalForm.{Canonical, canonical}
use Rattle.c_semantics.specs.Loops.TripCount.{loop_type}
use Rattle.c_semantics.specs.Loops.Directives.{plan_of}
use Rattle.c_semantics.specs.Loops.Need.{loops_asked}
use Rattle.c_semantics.specs.Loops.StatementDepths.{kind_of}
use Rattle.c_semantics.specs.Structure.Skeleton.{scope_in}
use Rattle.canonical_nests.specs.Shapes.{single_kinds, body_kinds}
use Rattle.nest_counts.specs.Plans.{Finds}

-- a scope and the state of an entry say the same of the defines, and of the type of the loop's variable
pub record SaysAlike (ds : List Define) (scope s : State) (h : Head) : Type 0 where
  pub defines : (x : Name) → is_define ds x ≡ true → look scope x ≡ look s x
  pub types : (c : Canonical) → canonical ds h ≡ Some c → loop_type ds scope c ≡ loop_type ds s c

-- what `fuse` finds in its body, and what any other directive finds
abbrev pub FoundBy : Kind → Type 0 → Type 0 → Type 0
FoundBy Fuse one all = all
FoundBy _ one all = one

-- a directive that wants n loops of its body, where One says what the one statement there finds, and All what all members do
abbrev pub DirectiveFinds : List Define → State → ℕ → Directive → Stmts → Type 0 → Type 0 → Type 0
DirectiveFinds ds scope n d a One All =
    FoundBy (kind_of d) (One × (0 < length (single_kinds ds scope n a))) All × Finds (plan_of ds d) 0 (body_kinds ds scope n d a)

abbrev pub IsLoopStmt : Stmt → Type 0
IsLoopStmt (for_ h a) = Unit {0}
IsLoopStmt (omp d a) = Unit {0}
IsLoopStmt _ = ⊥

-- of a statement in a scope, where m loops are wanted of it, and the construct is entered in the state s
module _ (ds : List Define) (s : State) where
  abbrev mutual
    pub StmtFinds : State → ℕ → Stmt → Type 0
    StmtFinds scope zero _ = Unit {0}
    StmtFinds scope (suc m) (for_ (head i o next) a) =
        SaysAlike ds scope s (head i o next) × SingleFinds (scope_in i scope) m a
    StmtFinds scope (suc m) (block a) = SingleFinds scope (suc m) a
    StmtFinds scope (suc m) (omp d a) =
        let n = loops_asked (plan_of ds d) (suc m) in DirectiveFinds ds scope n d a (SingleFinds scope n a) (MembersFind scope n a)
    StmtFinds scope (suc m) _ = Unit {0}

    pub SingleFinds : State → ℕ → Stmts → Type 0
    SingleFinds scope m (more_stmts a no_stmts) = StmtFinds scope m a
    SingleFinds scope m _ = Unit {0}

    pub MembersFind : State → ℕ → Stmts → Type 0
    MembersFind scope m no_stmts = Unit {0}
    MembersFind scope m (more_stmts (block a) no_stmts) = MembersFind scope m a
    MembersFind scope m (more_stmts a as') = IsLoopStmt a × StmtFinds scope m a × MembersFind scope m as'

-- of a construct
abbrev pub ConstructFinds : List Define → State → State → Directive → Stmts → Type 0
ConstructFinds ds s scope d a =
    let n = loops_asked (plan_of ds d) 0 in DirectiveFinds ds scope n d a (SingleFinds ds s scope n a) (MembersFind ds s scope n a)

-- ---- the types alone

-- the heads of the loops of a statement of which m loops are wanted
module _ (ds : List Define) (s : State) where
  abbrev mutual
    pub StmtSaysAlike : State → ℕ → Stmt → Type 0
    StmtSaysAlike scope zero _ = Unit {0}
    StmtSaysAlike scope (suc m) (for_ (head i o next) a) =
        SaysAlike ds scope s (head i o next) × StmtsSayAlike (scope_in i scope) m a
    StmtSaysAlike scope (suc m) (block a) = StmtsSayAlike scope (suc m) a
    StmtSaysAlike scope (suc m) (omp d a) = StmtsSayAlike scope (loops_asked (plan_of ds d) (suc m)) a
    StmtSaysAlike scope (suc m) _ = Unit {0}

    pub StmtsSayAlike : State → ℕ → Stmts → Type 0
    StmtsSayAlike scope m no_stmts = Unit {0}
    StmtsSayAlike scope m (more_stmts a as') = StmtSaysAlike scope m a × StmtsSayAlike scope m as'

-- of a construct
abbrev pub ConstructSaysAlike : List Define → State → State → Directive → Stmts → Type 0
ConstructSaysAlike ds s scope d a = StmtsSayAlike ds s scope (loops_asked (plan_of ds d) 0) a
