-- Trees without a directive.
use Rattle.c_tree.specs.Bare.{Stmt, if_, if_else, while_, do_, for_, block, omp, Stmts, no_stmts, more_stmts, head, MaybeStmt, no_stmt, a_stmt, function, main, Program}
use Rattle.std.specs.Prelude.{[], ◌∷◌}

abbrev mutual
  pub NoDirective : Stmt → Type 0
  NoDirective (if_ e a) = NoDirectives a
  NoDirective (if_else e a b) = NoDirectives a × NoDirectives b
  NoDirective (while_ e a) = NoDirectives a
  NoDirective (do_ a e) = NoDirectives a
  NoDirective (for_ (head i e next) a) = NoDirectiveIf i × NoDirectiveIf next × NoDirectives a
  NoDirective (block a) = NoDirectives a
  NoDirective (omp d a) = ⊥
  NoDirective _ = Unit {0}

  pub NoDirectives : Stmts → Type 0
  NoDirectives no_stmts = Unit {0}
  NoDirectives (more_stmts a as') = NoDirective a × NoDirectives as'

  pub NoDirectiveIf : MaybeStmt → Type 0
  NoDirectiveIf no_stmt = Unit {0}
  NoDirectiveIf (a_stmt a) = NoDirective a

abbrev pub HoldsNoDirective : Program → Type 0
HoldsNoDirective [] = Unit {0}
HoldsNoDirective (function x ps a ∷ is) = NoDirectives a × HoldsNoDirective is
HoldsNoDirective (main a ∷ is) = NoDirectives a × HoldsNoDirective is
HoldsNoDirective (_ ∷ is) = HoldsNoDirective is
