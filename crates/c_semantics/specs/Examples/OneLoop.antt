-- Worked examples: constructs over one loop.
use Rattle.std.specs.Prelude.{ℕ, [], ◌∷◌, Some, pos, negsuc, codes}
use Rattle.c_tree.specs.Bare.{Name, read, bin, un, fill, given, counts, partial, sizes, Stmt, decl, print, if_, continue_, Stmts}
use Rattle.c_tree.specs.declared.tree.Ty.TheVariants.{Int, Long}
use Rattle.c_tree.specs.declared.tree.UnOp.TheVariants.{Neg}
use Rattle.c_tree.specs.declared.tree.BinOp.TheVariants.{Add, Sub, Rem, Lt, Le, Ne, Eq}
use Rattle.c_tree.specs.declared.tree.SetOp.TheVariants as assigned
use Rattle.c_tree.specs.declared.tree.Kind.TheVariants.{Tile, Unroll, Reverse, Split}
use Rattle.c_tree.specs.declared.arithmetic.Trap.TheVariants.{Overflow}
use Rattle.c_semantics.specs.Meaning.Programs.{Stopped, CutOff}
use Rattle.c_semantics.specs.Examples.Notation.{int, long, exprs, list, only, assign, up, for_declared, for_assigned, for_from, for_to, print_all, directed, in_main, unbounded, Does, Prints, nats, f, p, HasLoops}

abbrev i : Name
i = codes "i"

abbrev fresh_looking : Name
fresh_looking = codes "omp_t0"

-- for (int i = 0; i < b; i++) print(i);
abbrev counting : ℕ → Stmt
counting b = for_to i b (print_all (read i ∷ []))

-- #pragma omp reverse
-- for (int i = 0; i < 5; i++) print(i);
abbrev reversed : Stmts
reversed = only (directed Reverse [] (counting 5))

-- #pragma omp tile sizes(4)
-- for (int i = 0; i < 10; i++) print(i);
abbrev tiled_by_four : Stmts
tiled_by_four = only (directed Tile (sizes (exprs (int 4 ∷ [])) ∷ []) (counting 10))

-- #pragma omp split counts(3, omp_fill, 2)
-- for (int i = 0; i < 4; i++) print(i);
abbrev split_in_three : Stmts
split_in_three = only (directed Split (counts (given (int 3) ∷ fill ∷ given (int 2) ∷ []) ∷ []) (counting 4))

-- #pragma omp unroll partial(3)
-- for (int i = 0; i < 7; i++) { if (i % 2 == 1) continue; print(i); }
abbrev unrolled_by_three : Stmts
unrolled_by_three = only (directed Unroll (partial (Some (int 3)) ∷ [])
    (for_to i 7 (list (if_ (bin Eq (bin Rem (read i) (int 2)) (int 1)) (only continue_) ∷ print (read i) ∷ []))))

-- #pragma omp reverse
-- for (int i = -2147483647 - 1; i <= 2147483647; i += 1073741824) print(i);
abbrev whole_range_of_int : Stmts
whole_range_of_int = only (directed Reverse []
    (for_declared Int i (bin Sub (un Neg (int 2147483647)) (int 1)) (bin Le (read i) (int 2147483647)) (assign i assigned.Add (int 1073741824))
    (print_all (read i ∷ []))))

-- print(1);
-- #pragma omp tile sizes(2)
-- for (long long i = -9223372036854775807LL - 1LL; i <= 9223372036854775807LL; i++) print(i);
abbrev too_many_turns : Stmts
too_many_turns = list (
    print (int 1) ∷
    directed Tile (sizes (exprs (int 2 ∷ [])) ∷ [])
    (for_declared Long i (bin Sub (un Neg (long 9223372036854775807)) (long 1)) (bin Le (read i) (long 9223372036854775807)) (up i)
    (print_all (read i ∷ []))) ∷ [])

-- int omp_t0 = 9; int i = 9;
-- #pragma omp reverse
-- for (i = 0; i < 2; i++) print(i + omp_t0);
-- print(i);
abbrev private_variable : Stmts
private_variable = list (
    decl Int fresh_looking (Some (int 9)) ∷ decl Int i (Some (int 9)) ∷
    directed Reverse [] (for_assigned i (int 0) (bin Lt (read i) (int 2)) (up i) (print_all (bin Add (read i) (read fresh_looking) ∷ []))) ∷
    print (read i) ∷ [])

-- #pragma omp reverse
-- for (int i = 7; 3 < i; i = i - 2) print(i);
abbrev downward : Stmts
downward = only (directed Reverse []
    (for_declared Int i (int 7) (bin Lt (int 3) (read i)) (assign i assigned.Plain (bin Sub (read i) (int 2))) (print_all (read i ∷ []))))

-- #pragma omp reverse
-- for (int i = 3; i != 0; i -= 1) print(i);
abbrev until_unequal : Stmts
until_unequal = only (directed Reverse []
    (for_declared Int i (int 3) (bin Ne (read i) (int 0)) (assign i assigned.Sub (int 1)) (print_all (read i ∷ []))))

pub record OneLoop : Type 0 where
  pub reversed_loop : Prints reversed (nats (4 ∷ 3 ∷ 2 ∷ 1 ∷ 0 ∷ [])) 5
  pub reversed_loop_without_turns : Prints (only (directed Reverse [] (for_from i 5 5 (print_all (read i ∷ []))))) [] 0
  pub reversed_downward_loop : Prints downward (nats (5 ∷ 7 ∷ [])) 2
  pub reversed_loop_with_unequal : Prints until_unequal (nats (1 ∷ 2 ∷ 3 ∷ [])) 3
  pub partial_last_tile : Prints tiled_by_four (nats (0 ∷ 1 ∷ 2 ∷ 3 ∷ 4 ∷ 5 ∷ 6 ∷ 7 ∷ 8 ∷ 9 ∷ [])) 13
  pub split_clipped_at_the_count : Prints split_in_three (nats (0 ∷ 1 ∷ 2 ∷ 3 ∷ [])) 4
  pub continue_ends_one_copy : Prints unrolled_by_three (nats (0 ∷ 2 ∷ 4 ∷ 6 ∷ [])) 3
  pub variable_from_least_to_greatest_int :
      Prints whole_range_of_int (pos 1073741824 ∷ pos 0 ∷ negsuc 1073741823 ∷ negsuc 2147483647 ∷ []) 4
  pub count_beyond_the_range : Does unbounded (in_main too_many_turns) (nats (1 ∷ [])) (Stopped Overflow) 0
  pub earlier_variable_keeps_its_value : Prints private_variable (nats (10 ∷ 9 ∷ 9 ∷ [])) 2
  pub cut_at_the_fourth_turn : Does 3 (in_main reversed) (nats (4 ∷ 3 ∷ 2 ∷ [])) CutOff 3
  pub cut_in_a_tile : Does 3 (in_main tiled_by_four) (nats (0 ∷ 1 ∷ 2 ∷ [])) CutOff 4
  pub loops_of_reverse : HasLoops reversed (f (p ∷ []) ∷ [])
  pub loops_of_tile : HasLoops tiled_by_four (f (f (p ∷ []) ∷ []) ∷ [])
  pub loops_of_split : HasLoops split_in_three (f (p ∷ []) ∷ f (p ∷ []) ∷ f (p ∷ []) ∷ [])
  pub loops_of_unroll : HasLoops unrolled_by_three (f (p ∷ p ∷ p ∷ []) ∷ [])
