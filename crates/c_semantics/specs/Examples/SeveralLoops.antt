-- Worked examples: constructs over several loops, and directives on directives.
use Rattle.std.specs.Prelude.{◌≡◌, ℕ, ℤ, List, [], ◌∷◌, Some, None, Result, Ok, pos, negsuc, codes}
use Rattle.c_tree.specs.Bare.{Name, Exprs, read, item, bin, target, set, print, Top, global, main, Program, fill, given, counts, sizes, permutation, looprange, Stmt, decl, block, Stmts}
use Rattle.c_tree.specs.declared.tree.Ty.TheVariants.{Int}
use Rattle.c_tree.specs.declared.tree.BinOp.TheVariants.{Mul, Div, Add, Sub, Lt}
use Rattle.c_tree.specs.declared.tree.SetOp.TheVariants as assigned
use Rattle.c_tree.specs.declared.tree.SetOp.TheVariants.{Plain}
use Rattle.c_tree.specs.declared.tree.Kind.TheVariants.{Tile, Interchange, Reverse, Split, Fuse}
use Rattle.c_tree.specs.declared.arithmetic.Trap.{Trap}
use Rattle.c_tree.specs.declared.arithmetic.Trap.TheVariants.{DivideByZero}
use Rattle.c_tree.specs.Arithmetic.{and_then}
use Rattle.c_semantics.specs.Meaning.State.{State, nowhere}
use Rattle.c_semantics.specs.Meaning.Expressions.{Define}
use Rattle.c_semantics.specs.Loops.IterationTrees.{Tree, forest_leaves}
use Rattle.c_semantics.specs.Loops.Forest.{forest, source_forest}
use Rattle.c_tree.specs.Bare.{Directive, directive, no_clauses}
use Rattle.c_tree.specs.declared.tree.Kind.{Kind}
use Rattle.c_semantics.specs.Meaning.Programs.{Ended}
use Rattle.c_semantics.specs.Examples.Notation.{int, exprs, list, only, up, for_declared, for_to, print_all, directed, unbounded, Does, Prints, Traps, nats, f, p, HasLoops}

abbrev i : Name
i = codes "i"

abbrev j : Name
j = codes "j"

abbrev k : Name
k = codes "k"

abbrev z : Name
z = codes "z"

abbrev a : Name
a = codes "a"

abbrev b : Name
b = codes "b"

abbrev c : Name
c = codes "c"

-- for (int i = 0; i < b; i++) print(i);
abbrev counting : ℕ → Stmt
counting b = for_to i b (print_all (read i ∷ []))

-- for (int i = 0; i < a; i++) for (int j = 0; j < b; j++) print(10 * i + j);
abbrev pairs : ℕ → ℕ → Stmt
pairs a b = for_to i a (only (for_to j b (print_all (bin Add (bin Mul (int 10) (read i)) (read j) ∷ []))))

-- #pragma omp tile sizes(3, 2)
-- for (int i = 0; i < 4; i++) for (int j = 0; j < 5; j++) print(10 * i + j);
abbrev tiles_of_two_loops : Stmts
tiles_of_two_loops = only (directed Tile (sizes (exprs (int 3 ∷ int 2 ∷ [])) ∷ []) (pairs 4 5))

-- #pragma omp interchange permutation(2, 3, 1)
-- for (int i = 0; i < 2; i++) for (int j = 0; j < 3; j++) for (int k = 0; k < 2; k++) print(100 * i + 10 * j + k);
abbrev permuted : Stmts
permuted = only (directed Interchange (permutation (exprs (int 2 ∷ int 3 ∷ int 1 ∷ [])) ∷ [])
    (for_to i 2 (only (for_to j 3 (only (for_to k 2 (print_all (
    bin Add (bin Add (bin Mul (int 100) (read i)) (bin Mul (int 10) (read j))) (read k) ∷ []))))))))

-- #pragma omp tile sizes(4)
-- #pragma omp reverse
-- for (int i = 0; i < 10; i++) print(i);
abbrev tiles_of_a_reversed_loop : Stmts
tiles_of_a_reversed_loop = only (directed Tile (sizes (exprs (int 4 ∷ [])) ∷ []) (directed Reverse [] (counting 10)))

-- #pragma omp reverse
-- #pragma omp tile sizes(4)
-- for (int i = 0; i < 10; i++) print(i);
abbrev reversed_grid : Stmts
reversed_grid = only (directed Reverse [] (directed Tile (sizes (exprs (int 4 ∷ [])) ∷ []) (counting 10)))

-- #pragma omp fuse looprange(1, 2)
-- { for (int i = 0; i < 3; i++) print(i); for (int i = 0; i < 5; i++) print(10 + i); for (int i = 0; i < 0; i++) print(20 + i); }
abbrev first_two_fused : Stmts
first_two_fused = only (directed Fuse (looprange (int 1) (int 2) ∷ [])
    (block (list (
    counting 3 ∷
    for_to i 5 (print_all (bin Add (int 10) (read i) ∷ [])) ∷
    for_to i 0 (print_all (bin Add (int 20) (read i) ∷ [])) ∷ []))))

-- int z = 0;
-- #pragma omp interchange
-- for (int i = 0; i < 0; i++) for (int j = 0; j < 1 / z; j++) print(j);
abbrev inner_bound_traps : Stmts
inner_bound_traps = list (
    decl Int z (Some (int 0)) ∷
    directed Interchange [] (for_to i 0 (only
    (for_declared Int j (int 0) (bin Lt (read j) (bin Div (int 1) (read z))) (up j) (print_all (read j ∷ []))))) ∷ [])

-- #pragma omp fuse
-- #pragma omp split counts(2, omp_fill)
-- for (int i = 0; i < 5; i++) print(i);
abbrev fused_parts_of_a_split : Stmts
fused_parts_of_a_split = only (directed Fuse [] (directed Split (counts (given (int 2) ∷ fill ∷ []) ∷ []) (counting 5)))

-- #pragma omp interchange
-- #pragma omp tile sizes(4)
-- for (int i = 0; i < 8; i++) print(i);
abbrev interchanged_tile_loops : Stmts
interchanged_tile_loops = only (directed Interchange [] (directed Tile (sizes (exprs (int 4 ∷ [])) ∷ []) (counting 8)))

-- int a[4][4]; int b[4][4]; int c[4][4];
-- for (int i = 0; i < 4; i++) for (int j = 0; j < 4; j++) { a[i][j] = i + j; b[i][j] = i - j; }
-- #pragma omp tile sizes(2, 2, 2)
-- for (int i = 0; i < 4; i++) for (int j = 0; j < 4; j++) for (int k = 0; k < 4; k++) c[i][j] += a[i][k] * b[k][j];
-- print(c[0][0]); print(c[3][3]);
abbrev at : Name → Name → Exprs
at x y = exprs (read x ∷ read y ∷ [])

abbrev square : Name → Top
square x = global Int x (exprs (int 4 ∷ int 4 ∷ [])) None

abbrev tiled_matrix_product : Program
tiled_matrix_product = square a ∷ square b ∷ square c ∷ main (list (
    for_to i 4 (only (for_to j 4 (list (
    set (target a (at i j)) Plain (bin Add (read i) (read j)) ∷
    set (target b (at i j)) Plain (bin Sub (read i) (read j)) ∷ [])))) ∷
    directed Tile (sizes (exprs (int 2 ∷ int 2 ∷ int 2 ∷ [])) ∷ [])
    (for_to i 4 (only (for_to j 4 (only (for_to k 4 (only (set (target c (at i j)) assigned.Add (bin Mul (item a (at i k)) (item b (at k j)))))))))) ∷
    print (item c (exprs (int 0 ∷ int 0 ∷ []))) ∷ print (item c (exprs (int 3 ∷ int 3 ∷ []))) ∷ [])) ∷ []

-- for (int i = 0; i < 2; i++) print(i); for (int i = 0; i < 3; i++) print(i);
abbrev two_members : Stmts
two_members = list (counting 2 ∷ counting 3 ∷ [])

-- the bodies that the trees of a construct without clauses run, with the values of their variables
abbrev RunsBodies : (List Define → State → Directive → Stmts → Result (List Tree) Trap) → Kind → Stmts → List (ℕ × List ℤ) → Type 0
RunsBodies order d a bs = and_then (order [] nowhere (directive d no_clauses) a) (λ ts. Ok (forest_leaves ts)) ≡ Ok bs

pub record SeveralLoops : Type 0 where
  pub tile_of_two_loops :
      Prints tiles_of_two_loops
      (nats (0 ∷ 1 ∷ 10 ∷ 11 ∷ 20 ∷ 21 ∷ 2 ∷ 3 ∷ 12 ∷ 13 ∷ 22 ∷ 23 ∷ 4 ∷ 14 ∷ 24 ∷ 30 ∷ 31 ∷ 32 ∷ 33 ∷ 34 ∷ [])) 40
  pub permutation_of_three_loops : Prints permuted (nats (0 ∷ 100 ∷ 1 ∷ 101 ∷ 10 ∷ 110 ∷ 11 ∷ 111 ∷ 20 ∷ 120 ∷ 21 ∷ 121 ∷ [])) 21
  -- #pragma omp interchange
  -- for (int i = 0; i < 3; i++) for (int j = 0; j < 0; j++) print(10 * i + j);
  pub interchange_of_an_empty_loop : Prints (only (directed Interchange [] (pairs 3 0))) [] 0
  -- #pragma omp tile sizes(2, 2)
  -- for (int i = 0; i < 3; i++) for (int j = 0; j < 0; j++) print(10 * i + j);
  pub tile_round_an_empty_loop : Prints (only (directed Tile (sizes (exprs (int 2 ∷ int 2 ∷ [])) ∷ []) (pairs 3 0))) [] 2
  pub tile_of_reverse : Prints tiles_of_a_reversed_loop (nats (9 ∷ 8 ∷ 7 ∷ 6 ∷ 5 ∷ 4 ∷ 3 ∷ 2 ∷ 1 ∷ 0 ∷ [])) 13
  pub reverse_of_tile : Prints reversed_grid (nats (8 ∷ 9 ∷ 4 ∷ 5 ∷ 6 ∷ 7 ∷ 0 ∷ 1 ∷ 2 ∷ 3 ∷ [])) 13
  pub fuse_of_the_first_two : Prints first_two_fused (nats (0 ∷ 10 ∷ 1 ∷ 11 ∷ 2 ∷ 12 ∷ 13 ∷ 14 ∷ [])) 5
  pub inner_bounds_are_taken_before_an_empty_loop : Traps inner_bound_traps [] DivideByZero
  pub fuse_of_split : Prints fused_parts_of_a_split (nats (0 ∷ 2 ∷ 1 ∷ 3 ∷ 4 ∷ [])) 3
  pub interchange_of_grid_and_tile_loop : Prints interchanged_tile_loops (nats (0 ∷ 4 ∷ 1 ∷ 5 ∷ 2 ∷ 6 ∷ 3 ∷ 7 ∷ [])) 12
  -- the bodies in the order of the text, and in that of the construct: with the number of the body, and its variable
  pub source_order_of_fuse : RunsBodies source_forest Fuse two_members ((0, nats (0 ∷ [])) ∷ (0, nats (1 ∷ [])) ∷ (1, nats (0 ∷ [])) ∷ (1, nats (1 ∷ [])) ∷ (1, nats (2 ∷ [])) ∷ [])
  pub order_of_fuse : RunsBodies forest Fuse two_members ((0, nats (0 ∷ [])) ∷ (1, nats (0 ∷ [])) ∷ (0, nats (1 ∷ [])) ∷ (1, nats (1 ∷ [])) ∷ (1, nats (2 ∷ [])) ∷ [])
  pub tile_of_a_matrix_product : Does unbounded tiled_matrix_product (pos 14 ∷ negsuc 21 ∷ []) Ended 146
  pub loops_of_tile_of_two : HasLoops tiles_of_two_loops (f (f (f (f (p ∷ []) ∷ []) ∷ []) ∷ []) ∷ [])
  pub loops_of_permutation : HasLoops permuted (f (f (f (p ∷ []) ∷ []) ∷ []) ∷ [])
  pub loops_of_tile_of_reverse : HasLoops tiles_of_a_reversed_loop (f (f (p ∷ []) ∷ []) ∷ [])
  pub loops_of_reverse_of_tile : HasLoops reversed_grid (f (f (p ∷ []) ∷ []) ∷ [])
  pub loops_of_fuse : HasLoops first_two_fused (f (p ∷ p ∷ []) ∷ f (p ∷ []) ∷ [])
  pub loops_of_fuse_of_split : HasLoops fused_parts_of_a_split (f (p ∷ p ∷ []) ∷ [])
  pub loops_of_interchange_of_tile : HasLoops interchanged_tile_loops (f (f (p ∷ []) ∷ []) ∷ [])
