-- Short forms in which the worked examples of the loop rules are written. A place is written as 100 times its line plus
-- its column, and each node stands at its first byte.
use Rattle.std.specs.Prelude.{ℕ, ◌≡◌, ◌+◌, List, [], ◌∷◌, Some, None, true, codes}
use Rattle.c_tree.specs.Bare.{Name}
use Rattle.c_tree.specs.Placed.{Expr, num, read, bin, Exprs, no_exprs, more_exprs, Target, target, Directive, directive, Clauses, no_clauses, more_clauses, Clause, clause, ClauseKind, sizes, apply, Items, no_items, more_items, Item, Stmt, decl, set, step, for_, block, empty, omp, Stmts, no_stmts, more_stmts, a_stmt, head, main, Program}
use Rattle.c_tree.specs.declared.tree.Span.{Span}
use Rattle.c_tree.specs.declared.tree.Ty.TheVariants.{Int}
use Rattle.c_tree.specs.declared.tree.BinOp.TheVariants.{Lt}
use Rattle.c_tree.specs.declared.tree.SetOp.TheVariants.{Plain}
use Rattle.c_tree.specs.declared.tree.Kind.{Kind}
use Rattle.canonical_nests.specs.declared.rules.LoopRule.{LoopRule}
use Rattle.canonical_nests.specs.LoopRules.BreachSets.{least}
use Rattle.canonical_nests.specs.LoopRules.Programs.{breaches}

abbrev pub at : ℕ → Span
at p = record { start = p; end = p }

abbrev pub i : Name
i = codes "i"

abbrev pub j : Name
j = codes "j"

-- ---- expressions, at a place

abbrev pub int : ℕ → ℕ → Expr
int n p = num n Int (at p)

abbrev pub name : Name → ℕ → Expr
name x p = read x (at p)

abbrev pub exprs : List Expr → Exprs
exprs [] = no_exprs
exprs (e ∷ es) = more_exprs e (exprs es)

abbrev pub scalar : Name → ℕ → Target
scalar x p = target x no_exprs (at p)

-- ---- directives

abbrev pub clauses : List Clause → Clauses
clauses [] = no_clauses
clauses (c ∷ cs) = more_clauses c (clauses cs)

abbrev pub items : List Item → Items
items [] = no_items
items (i ∷ is) = more_items i (items is)

abbrev pub named : Kind → ℕ → List Clause → Directive
named k p cs = directive k (clauses cs) (at p)

abbrev pub at_place : ClauseKind → ℕ → Clause
at_place c p = clause c (at p)

-- sizes(n), n standing 6 after the clause
abbrev pub size : ℕ → ℕ → Clause
size n p = at_place (sizes (exprs (int n (p + 6) ∷ []))) p

-- apply(name: items)
abbrev pub applied : Name → List Item → ℕ → Clause
applied x is p = at_place (apply (Some x) no_exprs (items is)) p

-- ---- statements

abbrev pub list : List Stmt → Stmts
list [] = no_stmts
list (a ∷ as') = more_stmts a (list as')

abbrev pub only : Stmt → Stmts
only a = list (a ∷ [])

abbrev pub block_at : ℕ → List Stmt → Stmt
block_at p as' = block (list as') (at p)

abbrev pub directed : Directive → Stmt → Stmt
directed d a = omp d (only a) (at 0)

abbrev pub empty_at : ℕ → Stmt
empty_at p = empty (at p)

-- x++;
abbrev pub up : Name → ℕ → Stmt
up x p = step (scalar x p) true (at p)

-- for (int x = 0; x < b; x++), where each number and name is written with one byte; the body begins 28 after it
abbrev pub for_declared : Name → (ℕ → Expr) → ℕ → Stmts → Stmt
for_declared x b p a =
    for_ (head (a_stmt (decl Int x (at (p + 9)) (Some (int 0 (p + 13))) (at (p + 5)))) (p + 5)
    (Some (bin Lt (name x (p + 16)) (b (p + 20)) (at (p + 16)))) (p + 16) (a_stmt (up x (p + 23))) (p + 23)) a (at p)

-- for (x = 0; x < b; x++); the body begins 24 after it
abbrev pub for_assigned : Name → (ℕ → Expr) → ℕ → Stmts → Stmt
for_assigned x b p a =
    for_ (head (a_stmt (set (scalar x (p + 5)) Plain (int 0 (p + 9)) (at (p + 5)))) (p + 5)
    (Some (bin Lt (name x (p + 12)) (b (p + 16)) (at (p + 12)))) (p + 12) (a_stmt (up x (p + 19))) (p + 19)) a (at p)

-- for (int i = 0; i < b; i++) ;
abbrev pub counting : ℕ → ℕ → Stmt
counting b p = for_declared i (int b) p (only (empty_at (p + 28)))

-- ---- programs

abbrev pub in_main : Stmt → Program
in_main a = main (only a) (at 0) ∷ []

abbrev pub Refuses : Program → LoopRule → ℕ → Type 0
Refuses p r place = least (breaches p) ≡ Some (record { place = place; rule = r })

abbrev pub Accepts : Program → Type 0
Accepts p = least (breaches p) ≡ None

-- a directive over a statement, in `main`
abbrev pub IsRefused : Directive → Stmt → LoopRule → ℕ → Type 0
IsRefused d a = Refuses (in_main (directed d a))

abbrev pub IsAccepted : Directive → Stmt → Type 0
IsAccepted d a = Accepts (in_main (directed d a))
