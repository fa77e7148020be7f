-- The tree with places: a program as the bare tree has it, with the span of each node, that of each declared, defined
-- or called name, the three places of a `for` head and that of the word `input`. Rules that name a place go over it.
-- The span of a node comes last, and that of a name beside the name.
use Rattle.std.specs.Prelude.{ℕ, List, [], ◌∷◌, Option, Bool}
use Rattle.c_tree.specs.declared.tree.Span.{Span}
use Rattle.c_tree.specs.declared.tree.Ty.{Ty}
use Rattle.c_tree.specs.declared.tree.UnOp.{UnOp}
use Rattle.c_tree.specs.declared.tree.BinOp.{BinOp}
use Rattle.c_tree.specs.declared.tree.SetOp.{SetOp}
use Rattle.c_tree.specs.declared.tree.Kind.{Kind}
use Rattle.c_tree.specs.declared.tree.Port.{Port}
use Rattle.c_tree.specs.Bare.{Name}

mutual
  pub data Expr : Type 0 where
    num : ℕ → Ty → Span → Expr
    read : Name → Span → Expr
    item : Name → Exprs → Span → Expr
    un : UnOp → Expr → Span → Expr
    bin : BinOp → Expr → Expr → Span → Expr
    cond : Expr → Expr → Expr → Span → Expr
    cast : Ty → Expr → Span → Expr

  pub data Exprs : Type 0 where
    no_exprs : Exprs
    more_exprs : Expr → Exprs → Exprs

pub data Target : Type 0 where
  target : Name → Exprs → Span → Target

pub data Count : Type 0 where
  fill : Span → Count
  given : Expr → Count

mutual
  pub data Directive : Type 0 where
    directive : Kind → Clauses → Span → Directive

  pub data Clauses : Type 0 where
    no_clauses : Clauses
    more_clauses : Clause → Clauses → Clauses

  pub data Clause : Type 0 where
    clause : ClauseKind → Span → Clause

  pub data ClauseKind : Type 0 where
    sizes : Exprs → ClauseKind
    permutation : Exprs → ClauseKind
    counts : List Count → ClauseKind
    looprange : Expr → Expr → ClauseKind
    full : ClauseKind
    partial : Option Expr → ClauseKind
    apply : Option Name → Exprs → Items → ClauseKind

  pub data Items : Type 0 where
    no_items : Items
    more_items : Item → Items → Items

  pub data Item : Type 0 where
    nothing : Span → Item
    acts : Directive → Item

mutual
  pub data Stmt : Type 0 where
    decl : Ty → Name → Span → Option Expr → Span → Stmt
    set : Target → SetOp → Expr → Span → Stmt
    step : Target → Bool → Span → Stmt
    print : Expr → Span → Stmt
    input : Target → ℕ → Span → Stmt
    if_ : Expr → Stmts → Span → Stmt
    if_else : Expr → Stmts → Stmts → Span → Stmt
    while_ : Expr → Stmts → Span → Stmt
    do_ : Stmts → Expr → Span → Stmt
    for_ : Head → Stmts → Span → Stmt
    block : Stmts → Span → Stmt
    break_ : Span → Stmt
    continue_ : Span → Stmt
    empty : Span → Stmt
    omp : Directive → Stmts → Span → Stmt
    call : Name → Span → Exprs → Span → Stmt

  pub data Stmts : Type 0 where
    no_stmts : Stmts
    more_stmts : Stmt → Stmts → Stmts

  pub data MaybeStmt : Type 0 where
    no_stmt : MaybeStmt
    a_stmt : Stmt → MaybeStmt

  -- each part with its place
  pub data Head : Type 0 where
    head : MaybeStmt → ℕ → Option Expr → ℕ → MaybeStmt → ℕ → Head

pub record Param : Type 0 where
  pub ty : Ty
  pub name : Name
  pub name_span : Span

pub data Top : Type 0 where
  define : Name → Bool → ℕ → Ty → Span → Top
  extern_ : Port → Span → Top
  global : Ty → Name → Span → Exprs → Option Expr → Top
  function : Name → Span → List Param → Stmts → Span → Top
  main : Stmts → Span → Top

abbrev pub Program : Type 0
Program = List Top

-- where a node stands
abbrev pub expr_span : Expr → Span
expr_span (num n ty s) = s
expr_span (read x s) = s
expr_span (item x es s) = s
expr_span (un op e s) = s
expr_span (bin op l r s) = s
expr_span (cond t y n s) = s
expr_span (cast ty e s) = s

abbrev pub stmt_span : Stmt → Span
stmt_span (decl ty x at init s) = s
stmt_span (set t op e s) = s
stmt_span (step t up s) = s
stmt_span (print e s) = s
stmt_span (input t at s) = s
stmt_span (if_ e ss s) = s
stmt_span (if_else e ss ts s) = s
stmt_span (while_ e ss s) = s
stmt_span (do_ ss e s) = s
stmt_span (for_ h ss s) = s
stmt_span (block ss s) = s
stmt_span (break_ s) = s
stmt_span (continue_ s) = s
stmt_span (empty s) = s
stmt_span (omp d ss s) = s
stmt_span (call x at es s) = s

-- the elements in order
abbrev pub expr_list : Exprs → List Expr
expr_list no_exprs = []
expr_list (more_exprs e es) = e ∷ expr_list es
