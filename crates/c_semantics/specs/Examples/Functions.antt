-- Worked examples: calls, and constructs in functions.
use Rattle.std.specs.Prelude.{[], ◌∷◌, Some, None, codes}
use Rattle.c_tree.specs.Bare.{Name, no_exprs, read, bin, print, call, Stmts, Top, global, function, main, Program}
use Rattle.c_tree.specs.declared.tree.Ty.TheVariants.{Int, Long}
use Rattle.c_tree.specs.declared.tree.BinOp.TheVariants.{Add, Mul}
use Rattle.c_tree.specs.declared.tree.SetOp.TheVariants as assigned
use Rattle.c_tree.specs.declared.tree.Kind.TheVariants.{Reverse}
use Rattle.c_tree.specs.declared.arithmetic.Trap.TheVariants.{Narrow}
use Rattle.c_semantics.specs.Meaning.Programs.{Ended, Stopped}
use Rattle.c_semantics.specs.Structure.Parts.{leaf, Call}
use Rattle.c_semantics.specs.Structure.Skeleton.{skeleton}
use Rattle.std.specs.Prelude.{◌≡◌}
use Rattle.c_semantics.specs.Examples.Notation.{int, long, exprs, list, only, assign, for_to, print_all, directed, param, unbounded, Does, nats, f, p}

abbrev add : Name
add = codes "add"

abbrev row : Name
row = codes "row"

abbrev i : Name
i = codes "i"

abbrev j : Name
j = codes "j"

abbrev n : Name
n = codes "n"

abbrev s : Name
s = codes "s"

abbrev x : Name
x = codes "x"

abbrev y : Name
y = codes "y"

-- int s;
-- static void add(int x, long long y) { s += x; print(y + s); }
-- int main(void) { add(2, 40); add(3, 1); }
abbrev two_calls : Program
two_calls =
    global Int s no_exprs None ∷
    function add (param Int x ∷ param Long y ∷ []) (list (assign s assigned.Add (read x) ∷ print (bin Add (read y) (read s)) ∷ [])) ∷
    main (list (call add (exprs (int 2 ∷ int 40 ∷ [])) ∷ call add (exprs (int 3 ∷ int 1 ∷ [])) ∷ [])) ∷ []

-- static void row(int x) { print(x); }
abbrev printing_row : Top
printing_row = function row (param Int x ∷ []) (print_all (read x ∷ []))

-- #pragma omp reverse
-- for (int i = 0; i < 2; i++) row(i);
abbrev reversed_calls : Stmts
reversed_calls = only (directed Reverse [] (for_to i 2 (only (call row (exprs (read i ∷ []))))))

-- static void row(int i) {
-- #pragma omp reverse
-- for (int j = 0; j < 2; j++) print(10 * i + j);
-- }
-- int main(void) {
-- #pragma omp reverse
-- for (int i = 0; i < 2; i++) row(i);
-- }
abbrev construct_in_a_function : Program
construct_in_a_function =
    function row (param Int i ∷ []) (only (directed Reverse [] (for_to j 2 (print_all (bin Add (bin Mul (int 10) (read i)) (read j) ∷ []))))) ∷
    main reversed_calls ∷ []

-- int i; int n = 3;
-- static void row(void) { print(n); }
-- int main(void) {
-- #pragma omp reverse
-- for (int i = 0; i < 3; i++) row();
-- }
abbrev file_variable_in_a_call : Program
file_variable_in_a_call =
    global Int i no_exprs None ∷ global Int n no_exprs (Some (int 3)) ∷
    function row [] (print_all (read n ∷ [])) ∷
    main (only (directed Reverse [] (for_to i 3 (only (call row no_exprs))))) ∷ []

pub record Functions : Type 0 where
  pub parameters_of_a_call : Does unbounded two_calls (nats (42 ∷ 6 ∷ [])) Ended 0
  pub argument_does_not_fit : Does 100 (printing_row ∷ main (only (call row (exprs (long 2147483648 ∷ [])))) ∷ []) [] (Stopped Narrow) 0
  pub calls_in_a_construct : Does unbounded (printing_row ∷ main reversed_calls ∷ []) (nats (1 ∷ 0 ∷ [])) Ended 2
  pub call_does_not_see_the_private_copy : Does unbounded file_variable_in_a_call (nats (3 ∷ 3 ∷ 3 ∷ [])) Ended 3
  pub construct_in_function_and_main : Does unbounded construct_in_a_function (nats (11 ∷ 10 ∷ 1 ∷ 0 ∷ [])) Ended 6
  pub loops_of_each_body : skeleton construct_in_a_function ≡ (f (p ∷ []) ∷ []) ∷ (f (leaf Call ∷ []) ∷ []) ∷ []
