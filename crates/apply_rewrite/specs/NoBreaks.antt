-- Statements without a `break` of their own: none that would leave a loop round them (C11 6.8.6.3).
use Rattle.c_tree.specs.Bare.{Stmt, if_, if_else, for_, block, break_, omp, Stmts, no_stmts, more_stmts, head, MaybeStmt, no_stmt, a_stmt}

abbrev mutual
  -- a construct is taken to have one
  pub NoBreak : Stmt → Type 0
  NoBreak break_ = ⊥
  NoBreak (if_ e a) = NoBreaks a
  NoBreak (if_else e a b) = NoBreaks a × NoBreaks b
  NoBreak (for_ (head i e next) a) = NoBreakIf i
  NoBreak (block a) = NoBreaks a
  NoBreak (omp d a) = ⊥
  NoBreak _ = Unit {0}

  pub NoBreakIf : MaybeStmt → Type 0
  NoBreakIf no_stmt = Unit {0}
  NoBreakIf (a_stmt a) = NoBreak a

  pub NoBreaks : Stmts → Type 0
  NoBreaks no_stmts = Unit {0}
  NoBreaks (more_stmts a as') = NoBreak a × NoBreaks as'
