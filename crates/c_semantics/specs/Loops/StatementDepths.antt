-- How many nested loops a statement gives to a directive round it (OpenMP 6.0, 6.4: canonical loop nests, and for `fuse`
-- canonical loop sequences). A list that holds only one block is read as that block's list, wherever a loop is looked
-- for.
use Rattle.std.specs.Prelude.{ℕ, suc, List, [], ◌∷◌, ◌++◌, Option, Some, None}
use Rattle.c_tree.specs.Bare.{Directive, directive, Stmt, for_, block, omp, Stmts, no_stmts, more_stmts}
use Rattle.c_tree.specs.declared.tree.Kind.{Kind}
use Rattle.c_tree.specs.declared.tree.Kind.TheVariants.{Fuse}
use Rattle.c_semantics.specs.Meaning.Expressions.{Define}
use Rattle.c_semantics.specs.Loops.Directives.{plan_of}
use Rattle.c_semantics.specs.Loops.Need.{if_some, depths}

abbrev pub kind_of : Directive → Kind
kind_of (directive k cs) = k

-- the depth of a loop's body: of the one part in it, else 0
abbrev pub body_depth : Option (List ℕ) → ℕ
body_depth (Some (k ∷ [])) = k
body_depth _ = 0

abbrev pub joined : Option (List ℕ) → Option (List ℕ) → Option (List ℕ)
joined (Some ks) (Some ls) = Some (ks ++ ls)
joined _ _ = None

-- what a directive finds in its body: `fuse` all members, any other the one statement
abbrev pub found_by : Kind → Option (List ℕ) → Option (List ℕ) → Option (List ℕ)
found_by Fuse one all = all
found_by _ one all = one

abbrev mutual
  -- the parts of a `for` or a directive, as the depth of each; None for any other statement, and where a directive or
  -- an item doesn't find the loops that it takes
  pub stmt_depths : List Define → Stmt → Option (List ℕ)
  stmt_depths ds (for_ h a) = Some (suc (body_depth (single_depths ds a)) ∷ [])
  stmt_depths ds (block a) = single_depths ds a
  stmt_depths ds (omp d a) = if_some (found_by (kind_of d) (single_depths ds a) (member_depths ds a)) (depths (plan_of ds d))
  stmt_depths ds _ = None

  -- of a list with one statement
  pub single_depths : List Define → Stmts → Option (List ℕ)
  single_depths ds (more_stmts a no_stmts) = stmt_depths ds a
  single_depths ds _ = None

  -- of each member of a sequence
  pub member_depths : List Define → Stmts → Option (List ℕ)
  member_depths ds no_stmts = Some []
  member_depths ds (more_stmts (block a) no_stmts) = member_depths ds a
  member_depths ds (more_stmts (block a) as') = None
  member_depths ds (more_stmts a as') = joined (stmt_depths ds a) (member_depths ds as')
