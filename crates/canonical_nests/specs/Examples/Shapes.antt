-- Worked examples: the counts of the loops that directives give, the numbers of constructs, and weights.
use Rattle.std.specs.Prelude.{ℕ, ◌≡◌, List, [], ◌∷◌, Some, codes}
use Rattle.c_tree.specs.Bare.{Name, fill, given, counts, full, sizes, partial, Clause, Stmt, Stmts, block, empty, read, bin}
use Rattle.c_tree.specs.declared.tree.Ty.TheVariants.{Int}
use Rattle.c_tree.specs.declared.tree.BinOp.TheVariants.{Lt}
use Rattle.c_tree.specs.declared.tree.Kind.TheVariants.{Tile, Unroll, Interchange, Reverse, Split, Fuse}
use Rattle.c_semantics.specs.Meaning.State.{nowhere}
use Rattle.c_semantics.specs.Examples.Notation.{int, exprs, list, only, up, for_declared, for_to, directed, applied_to, item_of}
use Rattle.canonical_nests.specs.declared.nest.CountKind.TheVariants.{Known, Entry, Depends}
use Rattle.canonical_nests.specs.Kinds.{Part}
use Rattle.canonical_nests.specs.Shapes.{stmt_kinds}
use Rattle.canonical_nests.specs.Weight.{stmt_weight}
use Rattle.canonical_nests.specs.Constructs.{stmts_constructs}
use Rattle.canonical_nests.specs.Examples.Notation as placed

abbrev i : Name
i = codes "i"

abbrev j : Name
j = codes "j"

-- the parts of a statement of which m loops are wanted
abbrev parts : ℕ → Stmt → List Part
parts = stmt_kinds [] nowhere

-- for (int i = 0; i < b; i++) ;
abbrev loop : ℕ → Stmt
loop b = for_to i b (only empty)

-- for (int i = 0; i < n; i++) BODY
abbrev to_n : Stmts → Stmt
to_n = for_declared Int i (int 0) (bin Lt (read i) (read (codes "n"))) (up i)

-- for (int i = 0; i < 10; i++) for (int j = 0; j < 8; j++) ;
abbrev two_loops : Stmt
two_loops = for_to i 10 (only (for_to j 8 (only empty)))

abbrev size : ℕ → Clause
size k = sizes (exprs (int k ∷ []))

abbrev tiled : ℕ → List Clause → Stmt → Stmt
tiled k cs = directed Tile (size k ∷ cs)

abbrev intratile : Name
intratile = codes "intratile"

pub record Shapes : Type 0 where
  pub known : parts 1 (loop 8) ≡ (Known 8 ∷ []) ∷ []
  pub at_the_entry : parts 1 (to_n (only empty)) ≡ (Entry ∷ []) ∷ []
  pub as_many_as_wanted : parts 1 two_loops ≡ (Known 10 ∷ []) ∷ []
  pub nest : parts 2 two_loops ≡ (Known 10 ∷ Known 8 ∷ []) ∷ []
  -- tile sizes(4)
  pub whole_tiles : parts 2 (tiled 4 [] (loop 8)) ≡ (Known 2 ∷ Known 4 ∷ []) ∷ []
  pub part_tile : parts 2 (tiled 4 [] (loop 10)) ≡ (Known 3 ∷ Depends (1 ∷ []) ∷ []) ∷ []
  pub one_part_tile : parts 2 (tiled 4 [] (loop 3)) ≡ (Known 1 ∷ Known 3 ∷ []) ∷ []
  pub unknown_tiles : parts 2 (tiled 4 [] (to_n (only empty))) ≡ (Entry ∷ Depends (1 ∷ []) ∷ []) ∷ []
  -- tile sizes(4), tile sizes(4): the tile loops of the inner one stand behind the outer one's grid and tile loop
  pub tiles_of_tiles : parts 3 (tiled 4 [] (tiled 4 [] (loop 18))) ≡ (Known 2 ∷ Depends (1 ∷ []) ∷ Depends (1 ∷ 2 ∷ []) ∷ []) ∷ []
  -- tile sizes(4) apply(intratile: tile sizes(2)): below the grid loop
  pub item_further_in :
      parts 3 (tiled 4 (applied_to intratile (item_of Tile (size 2 ∷ []) ∷ []) ∷ []) (loop 9)) ≡ (Known 3 ∷ Depends (1 ∷ []) ∷ Depends (1 ∷ 2 ∷ []) ∷ []) ∷ []
  -- two levels of items: tile sizes(4) apply(intratile: reverse apply(reversed: tile sizes(2)))
  pub item_of_an_item :
      parts 3 (tiled 4 (applied_to intratile (item_of Reverse (applied_to (codes "reversed") (item_of Tile (size 2 ∷ []) ∷ []) ∷ []) ∷ []) ∷ []) (loop 9))
      ≡ (Known 3 ∷ Depends (1 ∷ []) ∷ Depends (1 ∷ 2 ∷ []) ∷ []) ∷ []
  -- interchange of the tile loop and the loop below it: what stands further out is what they depend on
  pub interchanged_further_in :
      parts 3 (tiled 4 (applied_to intratile (item_of Interchange [] ∷ []) ∷ []) two_loops) ≡ (Known 3 ∷ Depends (1 ∷ []) ∷ Depends (1 ∷ []) ∷ []) ∷ []
  -- interchange of known loops, and of one that has no turn
  pub interchanged : parts 2 (directed Interchange [] two_loops) ≡ (Known 8 ∷ Known 10 ∷ []) ∷ []
  pub interchanged_empty : parts 2 (directed Interchange [] (for_to i 10 (only (for_to j 0 (only empty))))) ≡ (Known 0 ∷ Known 10 ∷ []) ∷ []
  pub interchanged_empty_first : parts 2 (directed Interchange [] (for_to i 0 (only (for_to j 8 (only empty))))) ≡ (Known 0 ∷ Known 0 ∷ []) ∷ []
  pub interchanged_unknown : parts 2 (directed Interchange [] (to_n (only (for_to j 8 (only empty))))) ≡ (Entry ∷ Entry ∷ []) ∷ []
  pub reversed : parts 1 (directed Reverse [] (loop 8)) ≡ (Known 8 ∷ []) ∷ []
  -- split counts(3, omp_fill, 2)
  pub split_parts : parts 1 (directed Split (counts (given (int 3) ∷ fill ∷ given (int 2) ∷ []) ∷ []) (loop 4)) ≡ (Known 3 ∷ []) ∷ (Known 0 ∷ []) ∷ (Known 1 ∷ []) ∷ []
  pub split_unknown : parts 1 (directed Split (counts (given (int 3) ∷ fill ∷ []) ∷ []) (to_n (only empty))) ≡ (Entry ∷ []) ∷ (Entry ∷ []) ∷ []
  -- tile sizes(4) apply(intratile: split counts(1, omp_fill)): several loops end the nest
  pub split_further_in : parts 1 (tiled 4 (applied_to intratile (item_of Split (counts (given (int 1) ∷ fill ∷ []) ∷ []) ∷ []) ∷ []) (loop 9)) ≡ (Known 3 ∷ []) ∷ []
  pub by_three : parts 1 (directed Unroll (partial (Some (int 3)) ∷ []) (loop 7)) ≡ (Known 3 ∷ []) ∷ []
  pub in_full : parts 2 (for_to i 5 (only (directed Unroll (full ∷ []) (for_to j 7 (only empty))))) ≡ (Known 5 ∷ []) ∷ []
  pub fused : parts 1 (directed Fuse [] (block (list (loop 3 ∷ loop 8 ∷ [])))) ≡ (Known 8 ∷ []) ∷ []
  pub fused_unknown : parts 1 (directed Fuse [] (block (list (loop 3 ∷ to_n (only empty) ∷ [])))) ≡ (Entry ∷ []) ∷ []
  -- a loop over tiles: its directive's positions come after it
  pub loop_over_tiles : parts 3 (for_to i 5 (only (tiled 4 [] (for_to j 10 (only empty))))) ≡ (Known 5 ∷ Known 3 ∷ Depends (2 ∷ []) ∷ []) ∷ []
  -- ---- weights: 8 for a loop over an empty statement, and 40 times 1 and the generated loops
  pub weight_of_a_loop : stmt_weight [] nowhere 0 (loop 4) ≡ 8
  pub weight_of_reverse : stmt_weight [] nowhere 0 (directed Reverse [] (loop 4)) ≡ 88
  pub weight_of_copies : stmt_weight [] nowhere 0 (directed Unroll (partial (Some (int 3)) ∷ []) (loop 4)) ≡ 264
  pub weight_in_full : stmt_weight [] nowhere 0 (directed Unroll (full ∷ []) (loop 4)) ≡ 192
  pub weight_in_full_of_tiles : stmt_weight [] nowhere 0 (directed Unroll (full ∷ []) (tiled 4 [] (loop 10))) ≡ 504
  pub weight_of_an_item : stmt_weight [] nowhere 0 (tiled 4 (applied_to intratile (item_of Unroll (full ∷ []) ∷ []) ∷ []) (loop 8)) ≡ 672
  -- ---- constructs: a directive that another takes is none
  pub one_construct :
      stmts_constructs [] 0 (placed.only (placed.directed (placed.named Reverse 313 []) (placed.directed (placed.named Reverse 413 []) (placed.counting 4 501))))
      ≡ record { kind = Reverse; place = 313 } ∷ []
  pub construct_in_a_body :
      stmts_constructs [] 0 (placed.only (placed.directed (placed.named Reverse 313 [])
      (placed.for_declared i (placed.int 4) 401 (placed.only (placed.directed (placed.named Unroll 513 []) (placed.counting 4 601))))))
      ≡ record { kind = Reverse; place = 313 } ∷ record { kind = Unroll; place = 513 } ∷ []
