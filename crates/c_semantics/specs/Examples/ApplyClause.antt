-- Worked examples: directives that the clause `apply` puts on generated loops.
use Rattle.std.specs.Prelude.{ℕ, [], ◌∷◌, Some, codes}
use Rattle.c_tree.specs.Bare.{Name, read, bin, fill, given, counts, full, partial, sizes, apply, Item, nothing, Stmt, Stmts}
use Rattle.c_tree.specs.declared.tree.BinOp.TheVariants.{Mul, Add}
use Rattle.c_tree.specs.declared.tree.Kind.TheVariants.{Tile, Unroll, Interchange, Reverse, Split}
use Rattle.c_semantics.specs.Examples.Notation.{int, exprs, only, for_to, print_all, directed, applied_to, items, item_of, Prints, nats, f, p, HasLoops}

abbrev i : Name
i = codes "i"

abbrev j : Name
j = codes "j"

abbrev grid : Name
grid = codes "grid"

abbrev intratile : Name
intratile = codes "intratile"

-- for (int i = 0; i < b; i++) print(i);
abbrev counting : ℕ → Stmt
counting b = for_to i b (print_all (read i ∷ []))

-- #pragma omp tile sizes(2, 2) apply(grid: nothing, reverse) apply(intratile: interchange)
-- for (int i = 0; i < 3; i++) for (int j = 0; j < 3; j++) print(10 * i + j);
abbrev reverse_and_interchange : Stmts
reverse_and_interchange = only (directed Tile
    (sizes (exprs (int 2 ∷ int 2 ∷ [])) ∷
    applied_to grid (nothing ∷ item_of Reverse [] ∷ []) ∷
    applied_to intratile (item_of Interchange [] ∷ []) ∷ [])
    (for_to i 3 (only (for_to j 3 (print_all (bin Add (bin Mul (int 10) (read i)) (read j) ∷ []))))))

-- #pragma omp tile sizes(4) apply(intratile: ITEM)
-- for (int i = 0; i < b; i++) print(i);
abbrev on_tile_loop : Item → ℕ → Stmts
on_tile_loop item b = only (directed Tile (sizes (exprs (int 4 ∷ [])) ∷ applied_to intratile (item ∷ []) ∷ []) (counting b))

-- apply(intratile: unroll full)
abbrev unrolled_tiles : Stmts
unrolled_tiles = on_tile_loop (item_of Unroll (full ∷ [])) 8

-- apply(intratile: unroll partial(2))
abbrev unrolled_by_two : Stmts
unrolled_by_two = on_tile_loop (item_of Unroll (partial (Some (int 2)) ∷ [])) 6

-- apply(intratile: split counts(1, omp_fill))
abbrev split_tiles : Stmts
split_tiles = on_tile_loop (item_of Split (counts (given (int 1) ∷ fill ∷ []) ∷ [])) 6

-- apply(intratile: reverse apply(reversed: unroll partial(2)))
abbrev item_of_an_item : Stmts
item_of_an_item = on_tile_loop (item_of Reverse (applied_to (codes "reversed") (item_of Unroll (partial (Some (int 2)) ∷ []) ∷ []) ∷ [])) 6

-- #pragma omp split counts(2, omp_fill) apply(split(2): interchange)
-- #pragma omp tile sizes(4)
-- for (int i = 0; i < 8; i++) print(i);
abbrev second_part_interchanged : Stmts
second_part_interchanged = only (directed Split
    (counts (given (int 2) ∷ fill ∷ []) ∷ apply (Some (codes "split")) (exprs (int 2 ∷ [])) (items (item_of Interchange [] ∷ [])) ∷ [])
    (directed Tile (sizes (exprs (int 4 ∷ [])) ∷ []) (counting 8)))

pub record ApplyClause : Type 0 where
  pub items_on_grid_and_tile_loops : Prints reverse_and_interchange (nats (2 ∷ 12 ∷ 0 ∷ 10 ∷ 1 ∷ 11 ∷ 22 ∷ 20 ∷ 21 ∷ [])) 21
  pub tile_loops_unrolled : Prints unrolled_tiles (nats (0 ∷ 1 ∷ 2 ∷ 3 ∷ 4 ∷ 5 ∷ 6 ∷ 7 ∷ [])) 2
  pub tile_loops_unrolled_by_two : Prints unrolled_by_two (nats (0 ∷ 1 ∷ 2 ∷ 3 ∷ 4 ∷ 5 ∷ [])) 5
  pub tile_loops_split : Prints split_tiles (nats (0 ∷ 1 ∷ 2 ∷ 3 ∷ 4 ∷ 5 ∷ [])) 8
  pub item_with_an_item : Prints item_of_an_item (nats (3 ∷ 2 ∷ 1 ∷ 0 ∷ 5 ∷ 4 ∷ [])) 5
  pub item_on_the_second_part : Prints second_part_interchanged (nats (0 ∷ 1 ∷ 2 ∷ 3 ∷ 4 ∷ 5 ∷ 6 ∷ 7 ∷ [])) 10
  pub loops_of_items : HasLoops reverse_and_interchange (f (f (f (f (p ∷ []) ∷ []) ∷ []) ∷ []) ∷ [])
  pub loops_of_unrolled_tiles : HasLoops unrolled_tiles (f (p ∷ p ∷ p ∷ p ∷ []) ∷ [])
  pub loops_of_tiles_unrolled_by_two : HasLoops unrolled_by_two (f (f (p ∷ p ∷ []) ∷ []) ∷ [])
  pub loops_of_split_tiles : HasLoops split_tiles (f (f (p ∷ []) ∷ f (p ∷ []) ∷ []) ∷ [])
  pub loops_of_the_second_part : HasLoops second_part_interchanged (f (f (p ∷ []) ∷ []) ∷ f (f (p ∷ []) ∷ []) ∷ [])
