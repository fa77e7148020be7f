-- Worked examples: directives on directives, items at further positions, and how much a program may grow.
use Rattle.std.specs.Prelude.{ℕ, zero, suc, ◌+◌, ◌*◌, [], ◌∷◌, Some, codes}
use Rattle.c_tree.specs.Bare.{Name}
use Rattle.c_tree.specs.Placed.{given, fill, counts, full, partial, apply, Clause, Directive, acts, Stmt, decl, print, bin, num, for_, head, a_stmt}
use Rattle.c_tree.specs.declared.tree.Ty.TheVariants.{Long}
use Rattle.c_tree.specs.declared.tree.BinOp.TheVariants.{Lt}
use Rattle.c_tree.specs.declared.tree.Kind.TheVariants.{Tile, Unroll, Interchange, Reverse, Split, Fuse}
use Rattle.canonical_nests.specs.declared.rules.LoopRule.TheVariants.{L7, L8, L16, L21, L22, L26, L27}
use Rattle.canonical_nests.specs.Examples.Notation.{at, i, j, int, name, exprs, items, named, at_place, size, applied, only, list, directed, empty_at, up, for_declared, counting, IsRefused, IsAccepted}

abbrev grid : Name
grid = codes "grid"

abbrev intratile : Name
intratile = codes "intratile"

-- #pragma omp tile sizes(4)
abbrev tile_at : ℕ → Directive
tile_at p = named Tile p (size 4 (p + 5) ∷ [])

abbrev full_at : ℕ → Directive
full_at p = named Unroll p (at_place full (p + 7) ∷ [])

-- counts(2, omp_fill)
abbrev two_and_rest : ℕ → Clause
two_and_rest p = at_place (counts (given (int 2 (p + 7)) ∷ fill (at (p + 10)) ∷ [])) p

-- for (int i = 0; i < 8; i++) for (int j = 0; j < 8; j++) ;
abbrev two_loops : Stmt
two_loops = for_declared i (int 8) 501 (only (for_declared j (int 8) 529 (only (empty_at 557))))

-- for (int i = 0; i < 5; i++) print(i);
abbrev printing : ℕ → Stmt
printing p = for_declared i (int 5) p (only (print (name i (p + 34)) (at (p + 28))))

-- so many lines `#pragma omp reverse` from line 3 on
abbrev reversed_over : ℕ → ℕ → Stmt → Stmt
reversed_over zero line a = a
reversed_over (suc n) line a = directed (named Reverse (100 * line + 13) []) (reversed_over n (line + 1) a)

-- #pragma omp unroll partial(k)
abbrev unrolled_by : ℕ → ℕ → Directive
unrolled_by k p = named Unroll p (at_place (partial (Some (int k (p + 15)))) (p + 7) ∷ [])

-- for (long long i = 0; i < 1099511627776; i++) ;
abbrev long_loop : Stmt
long_loop =
    for_ (head (a_stmt (decl Long i (at 416) (Some (int 0 420)) (at 406))) 406
    (Some (bin Lt (name i 423) (num 1099511627776 Long (at 427)) (at 423))) 423 (a_stmt (up i 442)) 442) (only (empty_at 447)) (at 401)

-- tile sizes(4) apply(NAME: ITEM), the item standing at a place
abbrev tile_with : Name → (ℕ → Directive) → Directive
tile_with x d = named Tile 313 (size 4 318 ∷ applied x (acts (d 344) ∷ []) 327 ∷ [])

abbrev interchange_at : ℕ → Directive
interchange_at p = named Interchange p []

pub record Stacks : Type 0 where
  -- #pragma omp interchange, #pragma omp tile sizes(4): the tile loop depends on the grid loop where 4 doesn't divide the count
  pub interchanged_tiles : IsAccepted (interchange_at 313) (directed (tile_at 413) (counting 8 501))
  pub interchanged_part_tiles : IsRefused (interchange_at 313) (directed (tile_at 413) (counting 10 501)) L8 313
  -- the outermost one that breaks the rule comes first
  pub interchanged_twice :
      IsRefused (interchange_at 313) (directed (interchange_at 413) (directed (tile_at 513) (counting 10 601))) L8 313
  -- #pragma omp tile sizes(2), #pragma omp unroll full
  pub no_loop_left : IsRefused (named Tile 313 (size 2 318 ∷ [])) (directed (full_at 413) (counting 4 501)) L22 313
  -- #pragma omp interchange, #pragma omp unroll partial(2)
  pub one_loop_left : IsRefused (interchange_at 313) (directed (unrolled_by 2 413) two_loops) L7 313
  -- the directive that breaks a rule hides what stands round it
  pub inner_one_first : IsRefused (interchange_at 313) (directed (interchange_at 413) (counting 4 501)) L7 413
  pub several_parts : IsRefused (named Reverse 313 []) (directed (named Split 413 (two_and_rest 419 ∷ [])) (counting 8 501)) L21 313
  pub fused_parts : IsAccepted (named Fuse 313 []) (directed (named Split 413 (two_and_rest 419 ∷ [])) (counting 8 501))
  -- #pragma omp unroll full, #pragma omp tile sizes(4): the grid loop of ten iterations has three
  pub full_grid : IsAccepted (full_at 313) (directed (tile_at 413) (counting 10 501))
  -- split counts(2, omp_fill) apply(split(2): interchange), tile sizes(4)
  pub second_part_interchanged :
      IsAccepted (named Split 313 (two_and_rest 319 ∷ at_place (apply (Some (codes "split")) (exprs (int 2 351 ∷ [])) (items (acts (interchange_at 355) ∷ []))) 339 ∷ []))
      (directed (tile_at 413) (counting 8 501))
  -- ---- items at further positions
  -- tile sizes(4) apply(intratile: interchange): the tile loop and the loop below
  pub tile_loop_interchanged : IsAccepted (tile_with intratile interchange_at) two_loops
  pub below_no_loop : IsRefused (tile_with intratile interchange_at) (counting 8 401) L7 344
  -- the tile loop depends on the grid loop, which isn't among those that the item takes
  pub part_tile_interchanged :
      IsAccepted (tile_with intratile interchange_at) (for_declared i (int 9) 501 (only (for_declared j (int 8) 529 (only (empty_at 557)))))
  pub grid_and_tile_interchanged : IsRefused (tile_with grid interchange_at) (counting 9 401) L8 344
  pub whole_tiles_interchanged : IsAccepted (tile_with grid interchange_at) (counting 8 401)
  -- tile sizes(4) apply(intratile: tile sizes(2) apply(intratile: unroll full)): a tile in a tile
  pub tile_of_a_tile :
      IsAccepted (tile_with intratile (λ p. named Tile p (size 2 (p + 5) ∷ applied intratile (acts (full_at (p + 31)) ∷ []) (p + 14) ∷ []))) (counting 8 401)
  pub part_tile_of_a_tile :
      IsRefused (tile_with intratile (λ p. named Tile p (size 2 (p + 5) ∷ applied intratile (acts (full_at (p + 31)) ∷ []) (p + 14) ∷ []))) (counting 6 401) L16 375
  -- reverse apply(reversed: unroll full) below tile
  pub item_of_reverse : IsAccepted (named Reverse 313 (applied (codes "reversed") (acts (full_at 337) ∷ []) 321 ∷ [])) (counting 4 401)
  -- #pragma omp tile sizes(4), #pragma omp unroll full apply(..) is refused, and so is a loop that is gone
  pub gone_by_an_item :
      IsRefused (named Reverse 313 []) (directed (named Reverse 413 (applied (codes "reversed") (acts (full_at 437) ∷ []) 421 ∷ [])) (counting 4 501)) L22 313
  -- ---- a construct in the body of another
  pub construct_inside : IsAccepted (named Reverse 313 []) (for_declared i (int 4) 401 (only (directed (tile_at 513) (for_declared j (name i) 601 (only (empty_at 629))))))
  pub broken_inside :
      IsRefused (named Reverse 313 []) (for_declared i (int 4) 401 (list (empty_at 430 ∷ directed (full_at 513) (for_declared j (name i) 601 (only (empty_at 629))) ∷ []))) L16 513
  -- ---- how high and how heavy
  pub eighteen_lines : IsAccepted (named Reverse 313 []) (reversed_over 17 4 (printing 2101))
  pub nineteen_lines : IsRefused (named Reverse 313 []) (reversed_over 18 4 (printing 2201)) L26 313
  pub by_five_thousand : IsAccepted (unrolled_by 5000 313) (printing 401)
  pub by_twenty_thousand : IsRefused (unrolled_by 20000 313) (printing 401) L27 313
  pub by_a_thousand_twice : IsRefused (unrolled_by 1000 313) (directed (unrolled_by 1000 413) (printing 501)) L27 313
  pub full_of_many : IsRefused (full_at 313) long_loop L27 313
