-- Where statements assign one variable, without lists of names: of a scope it only matters whether it hides the variable.
use Rattle.std.specs.Prelude.{Bool, true, not, ◌&&◌, if◌then◌else◌, bytes_eq}
use Rattle.c_tree.specs.Bare.{Name}
use Rattle.c_tree.specs.Placed.{Target, target, Stmt, decl, set, step, input, if_, if_else, while_, do_, for_, block, omp, Stmts, no_stmts, more_stmts, MaybeStmt, no_stmt, a_stmt, Head, head}
use Rattle.canonical_nests.specs.declared.rules.LoopRule.TheVariants.{L5}
use Rattle.canonical_nests.specs.LoopRules.BreachSets.{BreachSet, none, ◌&◌, breach_if}

abbrev pub target_assigns : Name → Bool → Target → BreachSet
target_assigns x hidden (target y es s) = breach_if (not hidden && bytes_eq x y) L5 s.start

-- whether the variable is hidden after a statement
abbrev pub hides : Name → Bool → Stmt → Bool
hides x hidden (decl t y at e s) = if bytes_eq x y then true else hidden
hides x hidden _ = hidden

abbrev pub part_hides : Name → Bool → MaybeStmt → Bool
part_hides x hidden no_stmt = hidden
part_hides x hidden (a_stmt a) = hides x hidden a

abbrev pub head_hides : Name → Bool → Head → Bool
head_hides x hidden (head i i_at e e_at next next_at) = part_hides x hidden i

abbrev mutual
  pub assigns : Name → Bool → Stmt → BreachSet
  assigns x hidden (set t o e s) = target_assigns x hidden t
  assigns x hidden (step t up s) = target_assigns x hidden t
  assigns x hidden (input t at s) = target_assigns x hidden t
  assigns x hidden (if_ e a s) = all_assigns x hidden a
  assigns x hidden (if_else e a b s) = all_assigns x hidden a & all_assigns x hidden b
  assigns x hidden (while_ e a s) = all_assigns x hidden a
  assigns x hidden (do_ a e s) = all_assigns x hidden a
  assigns x hidden (for_ h a s) = head_assigns x hidden h & all_assigns x (head_hides x hidden h) a
  assigns x hidden (block a s) = all_assigns x hidden a
  assigns x hidden (omp d a s) = all_assigns x hidden a
  assigns x hidden _ = none

  pub head_assigns : Name → Bool → Head → BreachSet
  head_assigns x hidden (head i i_at e e_at next next_at) = part_assigns x hidden i & part_assigns x (part_hides x hidden i) next

  pub all_assigns : Name → Bool → Stmts → BreachSet
  all_assigns x hidden no_stmts = none
  all_assigns x hidden (more_stmts a as') = assigns x hidden a & all_assigns x (hides x hidden a) as'

  pub part_assigns : Name → Bool → MaybeStmt → BreachSet
  part_assigns x hidden no_stmt = none
  part_assigns x hidden (a_stmt a) = assigns x hidden a
