-- Short forms in which the worked examples are written.
use Rattle.std.specs.Prelude.{◌≡◌, ℕ, ◌^◌, List, [], ◌∷◌, map, Some, true, ℤ, pos}
use Rattle.c_tree.specs.Bare.{Name, Expr, num, read, bin, Exprs, no_exprs, more_exprs, target, Clauses, no_clauses, more_clauses, Clause, apply, Items, no_items, more_items, Item, acts, directive, Stmt, decl, set, step, print, for_, omp, Stmts, no_stmts, more_stmts, head, a_stmt, Param, main, Program}
use Rattle.c_tree.specs.declared.tree.Ty.{Ty}
use Rattle.c_tree.specs.declared.tree.Ty.TheVariants.{Int, Long}
use Rattle.c_tree.specs.declared.tree.BinOp.TheVariants.{Lt}
use Rattle.c_tree.specs.declared.tree.SetOp.{SetOp}
use Rattle.c_tree.specs.declared.tree.SetOp.TheVariants.{Plain}
use Rattle.c_tree.specs.declared.tree.Kind.{Kind}
use Rattle.c_tree.specs.declared.arithmetic.Trap.{Trap}
use Rattle.c_semantics.specs.Meaning.Runs.{Run}
use Rattle.c_semantics.specs.Meaning.Programs.{Finish, Ended, Stopped, finish, run_program}
use Rattle.c_semantics.specs.Structure.Parts.{Shape, round, leaf, shapes_of, For, Print}
use Rattle.c_semantics.specs.Structure.Skeleton.{skeleton}

-- ---- trees

abbrev pub int : ℕ → Expr
int n = num n Int

abbrev pub long : ℕ → Expr
long n = num n Long

abbrev pub exprs : List Expr → Exprs
exprs [] = no_exprs
exprs (e ∷ es) = more_exprs e (exprs es)

abbrev pub list : List Stmt → Stmts
list [] = no_stmts
list (a ∷ as') = more_stmts a (list as')

-- one statement as a list
abbrev pub only : Stmt → Stmts
only a = list (a ∷ [])

abbrev pub assign : Name → SetOp → Expr → Stmt
assign x o e = set (target x no_exprs) o e

-- x++
abbrev pub up : Name → Stmt
up x = step (target x no_exprs) true

-- for (t x = a; test; last) body
abbrev pub for_declared : Ty → Name → Expr → Expr → Stmt → Stmts → Stmt
for_declared t x a test last body = for_ (head (a_stmt (decl t x (Some a))) (Some test) (a_stmt last)) body

-- for (x = a; test; last) body
abbrev pub for_assigned : Name → Expr → Expr → Stmt → Stmts → Stmt
for_assigned x a test last body = for_ (head (a_stmt (assign x Plain a)) (Some test) (a_stmt last)) body

-- for (int x = a; x < b; x++) body
abbrev pub for_from : Name → ℕ → ℕ → Stmts → Stmt
for_from x a b body = for_declared Int x (int a) (bin Lt (read x) (int b)) (up x) body

-- for (int x = 0; x < b; x++) body
abbrev pub for_to : Name → ℕ → Stmts → Stmt
for_to x b body = for_from x 0 b body

abbrev pub print_all : List Expr → Stmts
print_all [] = no_stmts
print_all (e ∷ es) = more_stmts (print e) (print_all es)

abbrev pub clauses : List Clause → Clauses
clauses [] = no_clauses
clauses (c ∷ cs) = more_clauses c (clauses cs)

abbrev pub directed : Kind → List Clause → Stmt → Stmt
directed k cs a = omp (directive k (clauses cs)) (only a)

abbrev pub items : List Item → Items
items [] = no_items
items (i ∷ is) = more_items i (items is)

-- apply(name: items), of the first loop of that kind on
abbrev pub applied_to : Name → List Item → Clause
applied_to x is = apply (Some x) no_exprs (items is)

abbrev pub item_of : Kind → List Clause → Item
item_of k cs = acts (directive k (clauses cs))

abbrev pub param : Ty → Name → Param
param t x = record { ty = t; name = x }

abbrev pub in_main : Stmts → Program
in_main a = main a ∷ []

-- ---- what they do

-- more turns than any loop of these takes
abbrev pub unbounded : ℕ
unbounded = 2 ^ 63

-- the printed lines, how the run ends, and its turns
abbrev pub shown : Run → List ℤ × Finish × ℕ
shown r = (r.state.lines, finish r.end, r.state.turns)

-- under a bound, without input
abbrev pub Does : ℕ → Program → List ℤ → Finish → ℕ → Type 0
Does n p lines end turns = shown (run_program n p []) ≡ (lines, end, turns)

-- the main function ends, having printed these
abbrev pub Prints : Stmts → List ℤ → ℕ → Type 0
Prints a lines turns = Does unbounded (in_main a) lines Ended turns

-- it stops at a trap before any turn
abbrev pub Traps : Stmts → List ℤ → Trap → Type 0
Traps a lines t = Does 100 (in_main a) lines (Stopped t) 0

abbrev pub nats : List ℕ → List ℤ
nats = map pos

-- ---- loops

-- a `for` round these
abbrev pub f : List Shape → Shape
f xs = round For (shapes_of xs)

abbrev pub p : Shape
p = leaf Print

-- the loops of a main function, and the copies of its prints
abbrev pub HasLoops : Stmts → List Shape → Type 0
HasLoops a xs = skeleton (in_main a) ≡ xs ∷ []
