-- What holds of each name that statements declare.
use Rattle.c_tree.specs.Bare.{Name, Stmt, decl, if_, if_else, while_, do_, for_, block, omp, Stmts, no_stmts, more_stmts, Head, head, MaybeStmt, no_stmt, a_stmt}

module _ (P : Name → Type 0) where
  abbrev mutual
    pub Declares : Stmt → Type 0
    Declares (decl t x e) = P x
    Declares (if_ e a) = DeclareAll a
    Declares (if_else e a b) = DeclareAll a × DeclareAll b
    Declares (while_ e a) = DeclareAll a
    Declares (do_ a e) = DeclareAll a
    Declares (for_ h a) = DeclaresIn h × DeclareAll a
    Declares (block a) = DeclareAll a
    Declares (omp d a) = DeclareAll a
    Declares _ = Unit {0}

    pub DeclareAll : Stmts → Type 0
    DeclareAll no_stmts = Unit {0}
    DeclareAll (more_stmts a as') = Declares a × DeclareAll as'

    pub DeclaresIf : MaybeStmt → Type 0
    DeclaresIf no_stmt = Unit {0}
    DeclaresIf (a_stmt a) = Declares a

    -- the last part of a head declares nothing
    pub DeclaresIn : Head → Type 0
    DeclaresIn (head i e next) = DeclaresIf i
