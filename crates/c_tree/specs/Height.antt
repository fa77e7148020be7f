-- The height of a tree. A literal and a read of a scalar have height 1. Every other expression, statement and
-- directive, a file-scope variable, a function and `main` have height 1 plus the greatest height of the expressions,
-- statements and directives directly in it, and 1 where it has none. The elements of a list, the parts of a `for` head
-- and the expressions of a clause count as directly in the owner.
use Rattle.std.specs.Prelude.{ℕ, ◌+◌, ◌-◌, ◌^◌, max, min, List, [], ◌∷◌, Option, Some, None}
use Rattle.c_tree.specs.Bare as b

abbrev mutual
  pub expr_height : b.Expr → ℕ
  expr_height (b.num n ty) = 1
  expr_height (b.read x) = 1
  expr_height (b.item x subs) = 1 + exprs_height subs
  expr_height (b.un op e) = 1 + expr_height e
  expr_height (b.bin op l r) = 1 + max (expr_height l) (expr_height r)
  expr_height (b.cond t y n) = 1 + max (expr_height t) (max (expr_height y) (expr_height n))
  expr_height (b.cast ty e) = 1 + expr_height e

  pub exprs_height : b.Exprs → ℕ
  exprs_height b.no_exprs = 0
  exprs_height (b.more_exprs e es) = max (expr_height e) (exprs_height es)

abbrev pub option_height : Option b.Expr → ℕ
option_height None = 0
option_height (Some e) = expr_height e

abbrev pub target_height : b.Target → ℕ
target_height (b.target x subs) = exprs_height subs

abbrev pub counts_height : List b.Count → ℕ
counts_height [] = 0
counts_height (b.fill ∷ cs) = counts_height cs
counts_height (b.given e ∷ cs) = max (expr_height e) (counts_height cs)

abbrev mutual
  pub directive_height : b.Directive → ℕ
  directive_height (b.directive k cs) = 1 + clauses_height cs

  pub clauses_height : b.Clauses → ℕ
  clauses_height b.no_clauses = 0
  clauses_height (b.more_clauses c cs) = max (clause_height c) (clauses_height cs)

  pub clause_height : b.Clause → ℕ
  clause_height (b.sizes es) = exprs_height es
  clause_height (b.permutation es) = exprs_height es
  clause_height (b.counts cs) = counts_height cs
  clause_height (b.looprange first count) = max (expr_height first) (expr_height count)
  clause_height b.full = 0
  clause_height (b.partial factor) = option_height factor
  clause_height (b.apply m es is) = max (exprs_height es) (items_height is)

  pub items_height : b.Items → ℕ
  items_height b.no_items = 0
  items_height (b.more_items i is) = max (item_height i) (items_height is)

  pub item_height : b.Item → ℕ
  item_height b.nothing = 0
  item_height (b.acts d) = directive_height d

abbrev mutual
  pub stmt_height : b.Stmt → ℕ
  stmt_height (b.decl ty x init) = 1 + option_height init
  stmt_height (b.set t op e) = 1 + max (target_height t) (expr_height e)
  stmt_height (b.step t up) = 1 + target_height t
  stmt_height (b.print e) = 1 + expr_height e
  stmt_height (b.input t) = 1 + target_height t
  stmt_height (b.if_ e ss) = 1 + max (expr_height e) (stmts_height ss)
  stmt_height (b.if_else e ss ts) = 1 + max (expr_height e) (max (stmts_height ss) (stmts_height ts))
  stmt_height (b.while_ e ss) = 1 + max (expr_height e) (stmts_height ss)
  stmt_height (b.do_ ss e) = 1 + max (stmts_height ss) (expr_height e)
  stmt_height (b.for_ h ss) = 1 + max (head_height h) (stmts_height ss)
  stmt_height (b.block ss) = 1 + stmts_height ss
  stmt_height b.break_ = 1
  stmt_height b.continue_ = 1
  stmt_height b.empty = 1
  stmt_height (b.omp d ss) = 1 + max (directive_height d) (stmts_height ss)
  stmt_height (b.call x es) = 1 + exprs_height es

  pub stmts_height : b.Stmts → ℕ
  stmts_height b.no_stmts = 0
  stmts_height (b.more_stmts s ss) = max (stmt_height s) (stmts_height ss)

  pub head_height : b.Head → ℕ
  head_height (b.head init test step) = max (part_height init) (max (option_height test) (part_height step))

  pub part_height : b.MaybeStmt → ℕ
  part_height b.no_stmt = 0
  part_height (b.a_stmt s) = stmt_height s

-- a define and an `extern` item hold no expression, statement or directive; parameters add nothing
abbrev pub top_height : b.Top → ℕ
top_height (b.define x negative n ty) = 0
top_height (b.extern_ port) = 0
top_height (b.global ty x dims init) = 1 + max (exprs_height dims) (option_height init)
top_height (b.function x params ss) = 1 + stmts_height ss
top_height (b.main ss) = 1 + stmts_height ss

abbrev pub program_height : b.Program → ℕ
program_height [] = 0
program_height (top ∷ tops) = max (top_height top) (program_height tops)

-- a count that stops at 2^64 - 1
abbrev pub capped : ℕ → ℕ
capped n = min n (2 ^ 64 - 1)
