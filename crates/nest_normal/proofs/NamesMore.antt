-- What holds of each variable and each function that statements name holds of it by whatever follows.
use Rattle.std.proofs.Common.{Option, Some, None}
use Rattle.c_tree.specs.Bare.{Name, Expr, num, read, item, un, bin, cond, cast, Exprs, no_exprs, more_exprs, Target, target, Stmt, decl, set, step, print, input, if_, if_else, while_, do_, for_, block, break_, continue_, empty, omp, call, Stmts, no_stmts, more_stmts, head, MaybeStmt, no_stmt, a_stmt}
use Rattle.c_semantics.specs.Laws.Names.{Names, NamesEach, NamesIf, NamesIn, Uses, UsesAll, UsesIf}

module _ (P Q : Name → Type 0) (more : (x : Name) → P x → Q x) where
  mutual
    pub names_more : (e : Expr) → Names P e → Names Q e
    names_more (num k t) h = tt
    names_more (read x) h = more x h
    names_more (item x es) h = (more x h.0, each_more es h.1)
    names_more (un op a) h = names_more a h
    names_more (bin op a b) h = (names_more a h.0, names_more b h.1)
    names_more (cond a b c) h = (names_more a h.0, names_more b h.1, names_more c h.2)
    names_more (cast t a) h = names_more a h

    each_more : (es : Exprs) → NamesEach P es → NamesEach Q es
    each_more no_exprs h = tt
    each_more (more_exprs e es) h = (names_more e h.0, each_more es h.1)

  if_more : (e : Option Expr) → NamesIf P e → NamesIf Q e
  if_more None h = tt
  if_more (Some e) h = names_more e h

  in_more : (t : Target) → NamesIn P t → NamesIn Q t
  in_more (target x es) h = (more x h.0, each_more es h.1)

  mutual
    uses_more : (a : Stmt) → Uses P P a → Uses Q Q a
    uses_more (decl t x e) h = (more x h.0, if_more e h.1)
    uses_more (set t op e) h = (in_more t h.0, names_more e h.1)
    uses_more (step t up) h = in_more t h
    uses_more (print e) h = names_more e h
    uses_more (input t) h = in_more t h
    uses_more (if_ e a) h = (names_more e h.0, all_more a h.1)
    uses_more (if_else e a b) h = (names_more e h.0, all_more a h.1, all_more b h.2)
    uses_more (while_ e a) h = (names_more e h.0, all_more a h.1)
    uses_more (do_ a e) h = (all_more a h.0, names_more e h.1)
    uses_more (for_ (head i e next) a) h = (part_more i h.0, if_more e h.1, part_more next h.2, all_more a h.3)
    uses_more (block a) h = all_more a h
    uses_more break_ h = tt
    uses_more continue_ h = tt
    uses_more empty h = tt
    uses_more (omp d a) h = all_more a h
    uses_more (call f es) h = (more f h.0, each_more es h.1)

    pub all_more : (as' : Stmts) → UsesAll P P as' → UsesAll Q Q as'
    all_more no_stmts h = tt
    all_more (more_stmts a as') h = (uses_more a h.0, all_more as' h.1)

    part_more : (a : MaybeStmt) → UsesIf P P a → UsesIf Q Q a
    part_more no_stmt h = tt
    part_more (a_stmt a) h = uses_more a h
