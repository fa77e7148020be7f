-- Well-formed trees: those that a text can spell (C11 A.2, and the syntax of OpenMP directives). Names are names, literals
-- have values that their types hold, lists that must not be empty aren't, each part of a `for` head is of a kind that
-- may stand there, and exactly one `main` stands last.
use Rattle.std.specs.Prelude.{ℕ, ◌≡◌, ◌≢◌, List, [], ◌∷◌, Option, Some, None, Bool, true, false, not, ◌||◌, ◌&&◌, ◌==◌, nat_le, codes, IsTrue}
use Rattle.std.specs.List.{list_all}
use Rattle.c_tree.specs.Bare.{Name, Expr, num, read, item, un, bin, cond, cast, Exprs, no_exprs, more_exprs, Target, target, Count, fill, given, Directive, directive, Clauses, no_clauses, more_clauses, Clause, sizes, permutation, counts, looprange, full, partial, apply, Items, no_items, more_items, Item, nothing, acts, Stmt, decl, set, step, print, input, if_, if_else, while_, do_, for_, block, break_, continue_, empty, omp, call, Stmts, no_stmts, more_stmts, MaybeStmt, no_stmt, a_stmt, Head, head, Param, Top, define, extern_, global, function, main, Program}
use Rattle.c_tree.specs.Constants.{IsHeld}
use Rattle.c_tree.specs.NameRules.DeclaredNames.{is_among}

-- ---- names (C11 6.4.2): a letter or `_`, then letters, digits and `_`, and no keyword (6.4.1)

abbrev pub is_letter : ℕ → Bool
is_letter c = (nat_le 65 c && nat_le c 90) || (nat_le 97 c && nat_le c 122) || c == 95

abbrev pub is_digit : ℕ → Bool
is_digit c = nat_le 48 c && nat_le c 57

-- the keywords of the profile, and those of C11 that it leaves out
abbrev pub keywords : List Name
keywords =
    codes "break" ∷ codes "continue" ∷ codes "do" ∷ codes "else" ∷ codes "extern" ∷ codes "for" ∷ codes "if"
    ∷ codes "input" ∷ codes "int" ∷ codes "long" ∷ codes "main" ∷ codes "omp_fill" ∷ codes "print" ∷ codes "return"
    ∷ codes "void" ∷ codes "while" ∷ codes "auto" ∷ codes "case" ∷ codes "char" ∷ codes "const" ∷ codes "default"
    ∷ codes "double" ∷ codes "enum" ∷ codes "float" ∷ codes "goto" ∷ codes "inline" ∷ codes "register"
    ∷ codes "restrict" ∷ codes "short" ∷ codes "signed" ∷ codes "sizeof" ∷ codes "static" ∷ codes "struct"
    ∷ codes "switch" ∷ codes "typedef" ∷ codes "union" ∷ codes "unsigned" ∷ codes "volatile" ∷ codes "_Alignas"
    ∷ codes "_Alignof" ∷ codes "_Atomic" ∷ codes "_Bool" ∷ codes "_Complex" ∷ codes "_Generic" ∷ codes "_Imaginary"
    ∷ codes "_Noreturn" ∷ codes "_Static_assert" ∷ codes "_Thread_local" ∷ []

abbrev pub is_word : Name → Bool
is_word [] = false
is_word (c ∷ cs) = is_letter c && list_all (λ d. is_letter d || is_digit d) cs

abbrev pub is_name : Name → Bool
is_name x = is_word x && not (is_among x keywords)

abbrev pub IsName : Name → Type 0
IsName x = IsTrue (is_name x)

-- ---- expressions

abbrev pub IsNotEmpty : Exprs → Type 0
IsNotEmpty no_exprs = ⊥
IsNotEmpty (more_exprs e es) = Unit {0}

abbrev mutual
  pub WellFormedExpr : Expr → Type 0
  WellFormedExpr (num k t) = IsHeld t k
  WellFormedExpr (read x) = IsName x
  WellFormedExpr (item x es) = IsName x × IsNotEmpty es × WellFormedExprs es
  WellFormedExpr (un op a) = WellFormedExpr a
  WellFormedExpr (bin op a b) = WellFormedExpr a × WellFormedExpr b
  WellFormedExpr (cond a b c) = WellFormedExpr a × WellFormedExpr b × WellFormedExpr c
  WellFormedExpr (cast t a) = WellFormedExpr a

  pub WellFormedExprs : Exprs → Type 0
  WellFormedExprs no_exprs = Unit {0}
  WellFormedExprs (more_exprs e es) = WellFormedExpr e × WellFormedExprs es

abbrev pub WellFormedOption : Option Expr → Type 0
WellFormedOption None = Unit {0}
WellFormedOption (Some e) = WellFormedExpr e

abbrev pub WellFormedTarget : Target → Type 0
WellFormedTarget (target x es) = IsName x × WellFormedExprs es

-- ---- directives

abbrev pub WellFormedCounts : List Count → Type 0
WellFormedCounts [] = Unit {0}
WellFormedCounts (fill ∷ cs) = WellFormedCounts cs
WellFormedCounts (given e ∷ cs) = WellFormedExpr e × WellFormedCounts cs

-- the indices of an `apply` stand only with a modifier
abbrev pub WellFormedModifier : Option Name → Exprs → Type 0
WellFormedModifier None es = es ≡ no_exprs
WellFormedModifier (Some x) es = IsName x

abbrev pub HasItem : Items → Type 0
HasItem no_items = ⊥
HasItem (more_items i is) = Unit {0}

abbrev mutual
  pub WellFormedDirective : Directive → Type 0
  WellFormedDirective (directive kind cs) = WellFormedClauses cs

  pub WellFormedClauses : Clauses → Type 0
  WellFormedClauses no_clauses = Unit {0}
  WellFormedClauses (more_clauses c cs) = WellFormedClause c × WellFormedClauses cs

  pub WellFormedClause : Clause → Type 0
  WellFormedClause (sizes es) = IsNotEmpty es × WellFormedExprs es
  WellFormedClause (permutation es) = IsNotEmpty es × WellFormedExprs es
  WellFormedClause (counts cs) = (cs ≢ []) × WellFormedCounts cs
  WellFormedClause (looprange first count) = WellFormedExpr first × WellFormedExpr count
  WellFormedClause full = Unit {0}
  WellFormedClause (partial factor) = WellFormedOption factor
  WellFormedClause (apply modifier indices is) =
      WellFormedModifier modifier indices × WellFormedExprs indices × HasItem is × WellFormedItems is

  pub WellFormedItems : Items → Type 0
  WellFormedItems no_items = Unit {0}
  WellFormedItems (more_items i is) = WellFormedItem i × WellFormedItems is

  pub WellFormedItem : Item → Type 0
  WellFormedItem nothing = Unit {0}
  WellFormedItem (acts d) = WellFormedDirective d

-- ---- statements

-- a head begins with a declaration that has an initial value, an assignment or a step
abbrev pub MayBegin : MaybeStmt → Type 0
MayBegin no_stmt = Unit {0}
MayBegin (a_stmt (decl t x (Some e))) = Unit {0}
MayBegin (a_stmt (set t op e)) = Unit {0}
MayBegin (a_stmt (step t up)) = Unit {0}
MayBegin (a_stmt _) = ⊥

-- and ends with an assignment or a step
abbrev pub MayEnd : MaybeStmt → Type 0
MayEnd no_stmt = Unit {0}
MayEnd (a_stmt (set t op e)) = Unit {0}
MayEnd (a_stmt (step t up)) = Unit {0}
MayEnd (a_stmt _) = ⊥

abbrev mutual
  pub WellFormedStmt : Stmt → Type 0
  WellFormedStmt (decl t x init) = IsName x × WellFormedOption init
  WellFormedStmt (set t op e) = WellFormedTarget t × WellFormedExpr e
  WellFormedStmt (step t up) = WellFormedTarget t
  WellFormedStmt (print e) = WellFormedExpr e
  WellFormedStmt (input t) = WellFormedTarget t
  WellFormedStmt (if_ e a) = WellFormedExpr e × WellFormedStmts a
  WellFormedStmt (if_else e a b) = WellFormedExpr e × WellFormedStmts a × WellFormedStmts b
  WellFormedStmt (while_ e a) = WellFormedExpr e × WellFormedStmts a
  WellFormedStmt (do_ a e) = WellFormedStmts a × WellFormedExpr e
  WellFormedStmt (for_ h a) = WellFormedHead h × WellFormedStmts a
  WellFormedStmt (block a) = WellFormedStmts a
  WellFormedStmt break_ = Unit {0}
  WellFormedStmt continue_ = Unit {0}
  WellFormedStmt empty = Unit {0}
  WellFormedStmt (omp d a) = WellFormedDirective d × WellFormedStmts a
  WellFormedStmt (call x es) = IsName x × WellFormedExprs es

  pub WellFormedStmts : Stmts → Type 0
  WellFormedStmts no_stmts = Unit {0}
  WellFormedStmts (more_stmts a as') = WellFormedStmt a × WellFormedStmts as'

  pub WellFormedPart : MaybeStmt → Type 0
  WellFormedPart no_stmt = Unit {0}
  WellFormedPart (a_stmt a) = WellFormedStmt a

  pub WellFormedHead : Head → Type 0
  WellFormedHead (head init test next) =
      MayBegin init × WellFormedPart init × WellFormedOption test × MayEnd next × WellFormedPart next

-- ---- programs

abbrev pub WellFormedParams : List Param → Type 0
WellFormedParams [] = Unit {0}
WellFormedParams (p ∷ ps) = IsName p.name × WellFormedParams ps

-- an array has no initial value
abbrev pub WellFormedInitial : Exprs → Option Expr → Type 0
WellFormedInitial no_exprs init = WellFormedOption init
WellFormedInitial (more_exprs e es) init = init ≡ None

abbrev pub WellFormedTop : Top → Type 0
WellFormedTop (define x negative k t) = IsName x × IsHeld t k
WellFormedTop (extern_ port) = Unit {0}
WellFormedTop (global t x dims init) = IsName x × WellFormedExprs dims × WellFormedInitial dims init
WellFormedTop (function x params body) = IsName x × WellFormedParams params × WellFormedStmts body
WellFormedTop (main body) = WellFormedStmts body

abbrev pub is_main : Top → Bool
is_main (main body) = true
is_main _ = false

-- exactly one `main` stands last
abbrev pub ends_in_main : Program → Bool
ends_in_main [] = false
ends_in_main (top ∷ []) = is_main top
ends_in_main (top ∷ tops) = not (is_main top) && ends_in_main tops

abbrev pub WellFormedTops : Program → Type 0
WellFormedTops [] = Unit {0}
WellFormedTops (top ∷ tops) = WellFormedTop top × WellFormedTops tops

abbrev pub WellFormed : Program → Type 0
WellFormed program = WellFormedTops program × IsTrue (ends_in_main program)
