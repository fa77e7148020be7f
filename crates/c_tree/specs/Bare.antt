-- The bare tree: a program without spans and without the places of a `for` head. Two trees are equal where their
-- bare trees are.
use Rattle.std.specs.Prelude.{ℕ, List, [], ◌∷◌, Option, Bool}
use Rattle.c_tree.specs.declared.tree.Ty.{Ty}
use Rattle.c_tree.specs.declared.tree.UnOp.{UnOp}
use Rattle.c_tree.specs.declared.tree.BinOp.{BinOp}
use Rattle.c_tree.specs.declared.tree.SetOp.{SetOp}
use Rattle.c_tree.specs.declared.tree.Kind.{Kind}
use Rattle.c_tree.specs.declared.tree.Port.{Port}

-- a name, in bytes
abbrev pub Name : Type 0
Name = List ℕ

mutual
  pub data Expr : Type 0 where
    num : ℕ → Ty → Expr
    read : Name → Expr
    item : Name → Exprs → Expr
    un : UnOp → Expr → Expr
    bin : BinOp → Expr → Expr → Expr
    cond : Expr → Expr → Expr → Expr
    cast : Ty → Expr → Expr

  pub data Exprs : Type 0 where
    no_exprs : Exprs
    more_exprs : Expr → Exprs → Exprs

-- what is assigned: a scalar, or an array's element
pub data Target : Type 0 where
  target : Name → Exprs → Target

pub data Count : Type 0 where
  fill : Count
  given : Expr → Count

mutual
  pub data Directive : Type 0 where
    directive : Kind → Clauses → Directive

  pub data Clauses : Type 0 where
    no_clauses : Clauses
    more_clauses : Clause → Clauses → Clauses

  pub data Clause : Type 0 where
    sizes : Exprs → Clause
    permutation : Exprs → Clause
    counts : List Count → Clause
    looprange : Expr → Expr → Clause
    full : Clause
    partial : Option Expr → Clause
    apply : Option Name → Exprs → Items → Clause

  pub data Items : Type 0 where
    no_items : Items
    more_items : Item → Items → Items

  pub data Item : Type 0 where
    nothing : Item
    acts : Directive → Item

mutual
  pub data Stmt : Type 0 where
    decl : Ty → Name → Option Expr → Stmt
    set : Target → SetOp → Expr → Stmt
    step : Target → Bool → Stmt
    print : Expr → Stmt
    input : Target → Stmt
    if_ : Expr → Stmts → Stmt
    if_else : Expr → Stmts → Stmts → Stmt
    while_ : Expr → Stmts → Stmt
    do_ : Stmts → Expr → Stmt
    for_ : Head → Stmts → Stmt
    block : Stmts → Stmt
    break_ : Stmt
    continue_ : Stmt
    empty : Stmt
    omp : Directive → Stmts → Stmt
    call : Name → Exprs → Stmt

  pub data Stmts : Type 0 where
    no_stmts : Stmts
    more_stmts : Stmt → Stmts → Stmts

  pub data MaybeStmt : Type 0 where
    no_stmt : MaybeStmt
    a_stmt : Stmt → MaybeStmt

  pub data Head : Type 0 where
    head : MaybeStmt → Option Expr → MaybeStmt → Head

-- a function's parameter
pub record Param : Type 0 where
  pub ty : Ty
  pub name : Name

-- an item of a file: a define, `print` or `input` made known, a variable, a function, or `main`
pub data Top : Type 0 where
  define : Name → Bool → ℕ → Ty → Top
  extern_ : Port → Top
  global : Ty → Name → Exprs → Option Expr → Top
  function : Name → List Param → Stmts → Top
  main : Stmts → Top

abbrev pub Program : Type 0
Program = List Top

-- the elements in order
abbrev pub expr_list : Exprs → List Expr
expr_list no_exprs = []
expr_list (more_exprs e es) = e ∷ expr_list es
