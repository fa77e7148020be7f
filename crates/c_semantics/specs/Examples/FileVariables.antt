-- Worked examples: the file-scope variables that functions may read and may assign.
use Rattle.std.specs.Prelude.{◌≡◌, [], ◌∷◌, Some, None, codes}
use Rattle.c_tree.specs.Bare.{Name, no_exprs, read, bin, decl, block, call, global, function, Program}
use Rattle.c_tree.specs.declared.tree.Ty.TheVariants.{Int}
use Rattle.c_tree.specs.declared.tree.BinOp.TheVariants.{Lt}
use Rattle.c_tree.specs.declared.tree.SetOp.TheVariants.{Plain, Add}
use Rattle.c_tree.specs.declared.tree.Kind.TheVariants.{Reverse}
use Rattle.c_semantics.specs.Meaning.FileVariables.{may_read, may_assign}
use Rattle.c_semantics.specs.Examples.Notation.{int, exprs, list, only, assign, up, for_assigned, directed, param}

abbrev i : Name
i = codes "i"

abbrev m : Name
m = codes "m"

abbrev n : Name
n = codes "n"

abbrev hidden : Name
hidden = codes "hidden"

abbrev counting : Name
counting = codes "counting"

abbrev calling : Name
calling = codes "calling"

-- int i; int m; int n;
-- static void hidden(int n) { { int m = n; m += 1; } m = 0; }
-- static void counting(void) {
-- #pragma omp reverse
-- for (i = 0; i < n; i++) i += m;
-- }
-- static void calling(void) { hidden(m); counting(); }
abbrev three_functions : Program
three_functions =
    global Int i no_exprs None ∷ global Int m no_exprs None ∷ global Int n no_exprs None ∷
    function hidden (param Int n ∷ []) (list (
    block (list (decl Int m (Some (read n)) ∷ assign m Add (int 1) ∷ [])) ∷ assign m Plain (int 0) ∷ [])) ∷
    function counting [] (only (directed Reverse []
    (for_assigned i (int 0) (bin Lt (read i) (read n)) (up i) (only (assign i Add (read m)))))) ∷
    function calling [] (list (call hidden (exprs (read m ∷ [])) ∷ call counting no_exprs ∷ [])) ∷ []

pub record FileVariables : Type 0 where
  -- a parameter and a local variable hide the file's; after the block m is the file's again
  pub reads_only_locals : may_read three_functions hidden ≡ []
  pub assigns_after_the_block : may_assign three_functions hidden ≡ m ∷ []
  -- the head reads and assigns its variable, which in the body is a private copy
  pub reads_of_a_construct : may_read three_functions counting ≡ i ∷ n ∷ m ∷ []
  pub assigns_of_a_construct : may_assign three_functions counting ≡ i ∷ []
  -- what the called functions read and assign, and the arguments
  pub reads_of_calls : may_read three_functions calling ≡ m ∷ i ∷ n ∷ m ∷ []
  pub assigns_of_calls : may_assign three_functions calling ≡ m ∷ i ∷ []
