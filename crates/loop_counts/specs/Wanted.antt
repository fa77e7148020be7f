-- The parts of a statement where at least one loop is wanted of it, and those of the last member of a sequence.
use Rattle.std.specs.Prelude.{ℕ, ◌-◌, List, [], ◌∷◌, Bool, true, false}
use Rattle.c_tree.specs.Bare.{Stmt, for_, block, omp, Head, head}
use Rattle.c_semantics.specs.Meaning.State.{State}
use Rattle.c_semantics.specs.Meaning.Expressions.{Define}
use Rattle.c_semantics.specs.Loops.Directives.{plan_of}
use Rattle.c_semantics.specs.Loops.Need.{loops_asked}
use Rattle.c_semantics.specs.Loops.StatementDepths.{kind_of}
use Rattle.c_semantics.specs.Structure.Skeleton.{scope_in}
use Rattle.canonical_nests.specs.Kinds.{Part, plan_kinds}
use Rattle.canonical_nests.specs.Shapes.{source_kind, below_source, found_by, stmt_kinds, single_kinds, member_kinds}

abbrev pub in_head : Head → State → State
in_head (head i e next) s = scope_in i s

module _ (ds : List Define) (s : State) (m : ℕ) where
  abbrev pub wanted_kinds : Stmt → List Part
  wanted_kinds (for_ h a) = (source_kind ds s h ∷ below_source (single_kinds ds (in_head h s) (m - 1) a)) ∷ []
  wanted_kinds (block a) = single_kinds ds s m a
  wanted_kinds (omp d a) =
      let n = loops_asked (plan_of ds d) m in
      plan_kinds (plan_of ds d) 0 (found_by (kind_of d) (single_kinds ds s n a) (member_kinds ds s n a))
  wanted_kinds _ = []

  abbrev pub last_kinds : Stmt → List Part
  last_kinds (block a) = member_kinds ds s m a
  last_kinds (for_ h a) = stmt_kinds ds s m (for_ h a)
  last_kinds (omp d a) = stmt_kinds ds s m (omp d a)
  last_kinds _ = []

-- of a member of a sequence, which may be the last
abbrev pub member_of : Bool → List Define → State → ℕ → Stmt → List Part
member_of true ds s m a = last_kinds ds s m a
member_of false ds s m a = stmt_kinds ds s m a
