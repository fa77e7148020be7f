-- Worked examples: constructs whose loops call functions.
use Rattle.std.specs.Prelude.{ℕ, [], ◌∷◌, Some, None, codes}
use Rattle.c_tree.specs.Bare.{Name}
use Rattle.c_tree.specs.Placed.{no_exprs, Stmt, decl, set, print, call, Stmts, Program, global, function, main}
use Rattle.c_tree.specs.declared.tree.Ty.TheVariants.{Int}
use Rattle.c_tree.specs.declared.tree.SetOp.TheVariants.{Plain}
use Rattle.c_tree.specs.declared.tree.Kind.TheVariants.{Reverse}
use Rattle.canonical_nests.specs.declared.rules.LoopRule.TheVariants.{L5, L6, L28}
use Rattle.canonical_nests.specs.Examples.Notation.{at, i, j, int, name, scalar, named, list, only, directed, empty_at, up, for_declared, for_assigned, Refuses, Accepts}

abbrev f : Name
f = codes "f"

abbrev g : Name
g = codes "g"

abbrev n : Name
n = codes "n"

-- int i; int n = 3;
-- static void f(void) { A }
-- int main(void) {
-- #pragma omp reverse
-- B
-- }
abbrev with_function : Stmts → Stmt → Program
with_function a b =
    global Int i (at 205) no_exprs None ∷ global Int n (at 212) no_exprs (Some (int 3 216)) ∷
    function f (at 313) [] a (at 301) ∷ main (only (directed (named Reverse 513 []) b)) (at 401) ∷ []

abbrev assigns : Name → ℕ → Stmts
assigns x k = only (set (scalar x 323) Plain (int k 327) (at 323))

abbrev prints : Name → Stmts
prints x = only (print (name x 329) (at 323))

abbrev called : Name → ℕ → Stmts
called h p = only (call h (at p) no_exprs (at p))

-- for (i = 0; i < 2; i++) f();
abbrev assigned_loop : Stmt
assigned_loop = for_assigned i (int 2) 601 (called f 625)

-- for (int i = 0; i < n; i++) f();
abbrev declared_loop : Stmt
declared_loop = for_declared i (name n) 601 (called f 629)

-- for (int i = 0; i < n; i++) A
abbrev up_to_n : Stmts → Stmt
up_to_n = for_declared i (name n) 601

-- the same with a second function, static void g(void) { f(); }, which the loop calls
abbrev through_another : Stmts → Stmt → Program
through_another a b =
    global Int i (at 205) no_exprs None ∷ global Int n (at 212) no_exprs (Some (int 3 216)) ∷
    function f (at 313) [] a (at 301) ∷ function g (at 353) [] (called f 360) (at 341) ∷
    main (only (directed (named Reverse 513 []) b)) (at 401) ∷ []

-- int main(void) { int i; #pragma omp reverse .. }
abbrev with_local : Stmts → Stmt → Program
with_local a b =
    global Int i (at 205) no_exprs None ∷ function f (at 313) [] a (at 301) ∷
    main (list (decl Int i (at 420) None (at 416) ∷ directed (named Reverse 513 []) b ∷ [])) (at 401) ∷ []

-- int n = 3; int main(void) { #pragma omp reverse .. }
abbrev in_main_with_n : Stmt → Program
in_main_with_n a = global Int n (at 205) no_exprs (Some (int 3 209)) ∷ main (only (directed (named Reverse 313 []) a)) (at 301) ∷ []

-- static void f(int i) { #pragma omp reverse .. }
abbrev in_function : Stmt → Program
in_function a =
    function f (at 213) (record { ty = Int; name = i; name_span = at 219 } ∷ []) (only (directed (named Reverse 313 []) a)) (at 201) ∷
    main (list []) (at 501) ∷ []

pub record Functions : Type 0 where
  pub called_one_reads_the_variable : Refuses (with_function (prints i) assigned_loop) L28 625
  pub called_one_assigns_the_variable : Refuses (with_function (assigns i 5) assigned_loop) L5 625
  pub called_one_assigns_the_bound : Refuses (with_function (assigns n 1) declared_loop) L6 621
  pub called_one_reads_the_bound : Accepts (with_function (prints n) declared_loop)
  -- a declared variable is no file-scope one
  pub reads_another_variable : Accepts (with_function (prints i) declared_loop)
  pub through_a_call : Refuses (through_another (prints i) (for_assigned i (int 2) 601 (called g 625))) L28 625
  -- a local variable hides the file-scope one
  pub local_variable : Accepts (with_local (prints i) assigned_loop)
  -- bounds that the construct assigns
  pub bound_assigned : Refuses (in_main_with_n (up_to_n (only (up n 629)))) L6 621
  pub hidden_bound_assigned : Accepts (in_main_with_n (up_to_n (list (decl Int n (at 633) (Some (int 1 637)) (at 629) ∷ up n 640 ∷ []))))
  -- for (int i = 0; i < i; i++)
  pub own_variable : Refuses (in_main_with_n (for_declared i (name i) 601 (only (empty_at 629)))) L6 621
  -- constructs in functions
  pub construct_in_function : Accepts (in_function (for_declared j (name i) 401 (only (empty_at 429))))
  pub parameter_assigned : Refuses (in_function (for_declared j (name i) 401 (only (up i 429)))) L6 421
