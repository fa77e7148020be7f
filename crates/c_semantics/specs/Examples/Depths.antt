-- Worked examples: how many loops directives need of their bodies, and how deep the nests are that they give.
use Rattle.std.specs.Prelude.{◌≡◌, ℕ, List, [], ◌∷◌, Option, Some, None, codes}
use Rattle.c_tree.specs.Bare.{fill, given, counts, full, sizes, permutation, Item, directive, Clause, Stmt, block}
use Rattle.c_tree.specs.Bare.{empty}
use Rattle.c_tree.specs.declared.tree.Kind.{Kind}
use Rattle.c_tree.specs.declared.tree.Kind.TheVariants.{Tile, Unroll, Interchange, Split, Fuse}
use Rattle.c_semantics.specs.Loops.Directives.{plan_of}
use Rattle.c_semantics.specs.Loops.Need.{need}
use Rattle.c_semantics.specs.Loops.StatementDepths.{stmt_depths}
use Rattle.c_semantics.specs.Examples.Notation.{int, exprs, list, only, for_to, directed, clauses, applied_to, item_of}

-- of a directive without defines, where each part is to have depth d
abbrev needed : Kind → List Clause → ℕ → Option ℕ
needed k cs d = need (plan_of [] (directive k (clauses cs))) d

-- sizes(4)
abbrev by_four : Clause
by_four = sizes (exprs (int 4 ∷ []))

-- apply(intratile: ITEM)
abbrev on_tile_loop : Item → Clause
on_tile_loop i = applied_to (codes "intratile") (i ∷ [])

-- for (int i = 0; i < 8; i++) for (int j = 0; j < 8; j++) ;
abbrev two_loops : Stmt
two_loops = for_to (codes "i") 8 (only (for_to (codes "j") 8 (only empty)))

-- for (int i = 0; i < 8; i++) ;
abbrev one_loop : Stmt
one_loop = for_to (codes "i") 8 (only empty)

pub record Depths : Type 0 where
  -- tile sizes(4): its grid and its tile loop are there for one loop, a third one needs another
  pub need_of_tile : needed Tile (by_four ∷ []) 2 ≡ Some 1
  pub need_of_tile_below_another : needed Tile (by_four ∷ []) 3 ≡ Some 2
  -- tile sizes(4) apply(intratile: interchange)
  pub need_of_an_item : needed Tile (by_four ∷ on_tile_loop (item_of Interchange []) ∷ []) 0 ≡ Some 2
  -- tile sizes(4) apply(intratile: unroll full)
  pub need_of_a_loop_that_is_gone : needed Tile (by_four ∷ on_tile_loop (item_of Unroll (full ∷ [])) ∷ []) 2 ≡ None
  -- interchange permutation(3, 1, 2)
  pub need_of_interchange : needed Interchange (permutation (exprs (int 3 ∷ int 1 ∷ int 2 ∷ [])) ∷ []) 1 ≡ Some 3
  -- split counts(1, omp_fill) apply(split: tile sizes(4)): the second part is as deep as the loop
  pub need_of_split :
      needed Split (counts (given (int 1) ∷ fill ∷ []) ∷ applied_to (codes "split") (item_of Tile (by_four ∷ []) ∷ []) ∷ []) 2 ≡ Some 2
  pub need_of_fuse : needed Fuse [] 1 ≡ Some 1
  pub need_of_two_loops_of_fuse : needed Fuse [] 2 ≡ None
  -- tile sizes(4) over two loops gives three
  pub depth_of_tile : stmt_depths [] (directed Tile (by_four ∷ []) two_loops) ≡ Some (3 ∷ [])
  -- split counts(1, omp_fill) over two loops gives two parts
  pub depths_of_split : stmt_depths [] (directed Split (counts (given (int 1) ∷ fill ∷ []) ∷ []) two_loops) ≡ Some (2 ∷ 2 ∷ [])
  -- fuse of a loop and the two parts of a split
  pub depth_of_fuse :
      stmt_depths [] (directed Fuse [] (block (list (one_loop ∷ directed Split (counts (given (int 1) ∷ fill ∷ []) ∷ []) one_loop ∷ [])))) ≡ Some (1 ∷ [])
  -- interchange of one loop
  pub too_shallow : stmt_depths [] (directed Interchange [] one_loop) ≡ None
