-- Worked examples: a directive over a loop that breaks a rule, beside one that is accepted.
use Rattle.std.specs.Prelude.{ℕ, ◌+◌, [], ◌∷◌, Some, None, codes}
use Rattle.c_tree.specs.Bare.{Name}
use Rattle.c_tree.specs.Placed.{no_exprs, given, fill, sizes, permutation, counts, looprange, full, partial, apply, Clause, Directive, nothing, acts, Stmt, decl, set, bin, while_, if_, break_, for_, head, a_stmt}
use Rattle.c_tree.specs.declared.tree.Ty.TheVariants.{Int}
use Rattle.c_tree.specs.declared.tree.SetOp.TheVariants.{Add}
use Rattle.c_tree.specs.declared.tree.BinOp.TheVariants as op
use Rattle.c_tree.specs.declared.tree.Kind.TheVariants.{Tile, Unroll, Interchange, Reverse, Split, Fuse}
use Rattle.canonical_nests.specs.declared.rules.LoopRule.TheVariants.{L1, L4, L5, L7, L8, L9, L10, L11, L12, L13, L14, L15, L16, L17, L19, L20, L21, L23, L24, L25}
use Rattle.canonical_nests.specs.Examples.Notation.{at, i, j, int, name, exprs, scalar, items, named, at_place, size, applied, only, block_at, empty_at, up, for_declared, counting, IsRefused, IsAccepted}

abbrev reverse : Directive
reverse = named Reverse 313 []

abbrev loop : Stmt
loop = counting 4 401

-- for (int i = 0; i < 4; i++) for (int j = 0; j < b; j++) ;
abbrev two_loops : Stmt
two_loops = for_declared i (int 4) 401 (only (for_declared j (int 4) 429 (only (empty_at 457))))

-- for (int i = 0; i < 4; i++) for (int j = 0; j < i; j++) ;
abbrev triangle : Stmt
triangle = for_declared i (int 4) 401 (only (for_declared j (name i) 429 (only (empty_at 457))))

-- sizes(2, 2)
abbrev sizes_two_two : ℕ → Clause
sizes_two_two p = at_place (sizes (exprs (int 2 (p + 6) ∷ int 2 (p + 9) ∷ []))) p

-- counts(a, b)
abbrev counts_two : ℕ → ℕ → ℕ → Clause
counts_two a b p = at_place (counts (given (int a (p + 7)) ∷ given (int b (p + 10)) ∷ [])) p

-- counts(a, omp_fill)
abbrev counts_fill : ℕ → ℕ → Clause
counts_fill a p = at_place (counts (given (int a (p + 7)) ∷ fill (at (p + 10)) ∷ [])) p

abbrev grid : Name
grid = codes "grid"

abbrev intratile : Name
intratile = codes "intratile"

-- tile sizes(4) apply(intratile: unroll full)
abbrev unrolled_tiles : Directive
unrolled_tiles = named Tile 313 (size 4 318 ∷ applied intratile (acts (named Unroll 344 (at_place full 351 ∷ [])) ∷ []) 327 ∷ [])

-- for (int i = 0; i < 4; i += 0) { if (i) break; }
abbrev stays_and_breaks : Stmt
stays_and_breaks =
    for_ (head (a_stmt (decl Int i (at 410) (Some (int 0 414)) (at 406))) 406 (Some (bin op.Lt (name i 417) (int 4 421) (at 417))) 417
    (a_stmt (set (scalar i 424) Add (int 0 429) (at 424))) 424)
    (only (if_ (name i 438) (only (break_ (at 441))) (at 434))) (at 401)

pub record OneDirective : Type 0 where
  pub reversed : IsAccepted reverse loop
  -- #pragma omp reverse, while (1) ;
  pub no_loop : IsRefused reverse (while_ (int 1 408) (only (empty_at 411)) (at 401)) L1 401
  pub step_of_none : IsRefused reverse stays_and_breaks L4 424
  pub assigned_in_the_body : IsRefused reverse (for_declared i (int 4) 401 (only (up i 429))) L5 429
  -- #pragma omp tile sizes(2, 2)
  pub too_shallow : IsRefused (named Tile 313 (sizes_two_two 318 ∷ [])) loop L7 313
  pub deep_enough : IsAccepted (named Tile 313 (sizes_two_two 318 ∷ [])) two_loops
  pub triangular : IsRefused (named Interchange 313 []) triangle L8 449
  pub rectangular : IsAccepted (named Interchange 313 []) two_loops
  -- #pragma omp reverse, for (int i = 0; i < 4; i++) for (int j = 0; j < i; j++) ;
  pub only_the_outer_loop : IsAccepted reverse triangle
  pub break_out : IsRefused reverse (for_declared i (int 4) 401 (only (break_ (at 429)))) L9 429
  -- #pragma omp tile sizes(0): the clauses come before the head and the body
  pub clauses_first : IsRefused (named Tile 313 (size 0 318 ∷ [])) stays_and_breaks L10 324
  pub no_sizes : IsRefused (named Tile 313 []) loop L11 313
  -- #pragma omp unroll full partial(2)
  pub full_and_partial : IsRefused (named Unroll 313 (at_place full 320 ∷ at_place (partial (Some (int 2 333))) 325 ∷ [])) loop L12 325
  pub sizes_of_reverse : IsRefused (named Reverse 313 (size 2 321 ∷ [])) loop L13 321
  -- #pragma omp interchange permutation(2, 2)
  pub number_twice : IsRefused (named Interchange 313 (at_place (permutation (exprs (int 2 337 ∷ int 2 340 ∷ []))) 325 ∷ [])) two_loops L14 325
  -- #pragma omp unroll partial(0)
  pub factor_of_none : IsRefused (named Unroll 313 (at_place (partial (Some (int 0 328))) 320 ∷ [])) loop L15 328
  pub fully_unrolled : IsAccepted (named Unroll 313 (at_place full 320 ∷ [])) loop
  -- #pragma omp tile sizes(4) apply(intratile: unroll full)
  pub tiles_of_ten : IsRefused unrolled_tiles (counting 10 401) L16 344
  pub tiles_of_eight : IsAccepted unrolled_tiles (counting 8 401)
  -- #pragma omp split counts(1, 2)
  pub no_fill : IsRefused (named Split 313 (counts_two 1 2 319 ∷ [])) loop L17 319
  pub one_fill : IsAccepted (named Split 313 (counts_fill 1 319 ∷ [])) loop
  -- #pragma omp fuse looprange(2, 2)
  pub range_too_long :
      IsRefused (named Fuse 313 (at_place (looprange (int 2 328) (int 2 331)) 318 ∷ [])) (block_at 401 (counting 4 402 ∷ counting 4 501 ∷ [])) L19 318
  pub range_of_both :
      IsAccepted (named Fuse 313 (at_place (looprange (int 1 328) (int 2 331)) 318 ∷ [])) (block_at 401 (counting 4 402 ∷ counting 4 501 ∷ []))
  pub member_no_loop : IsRefused (named Fuse 313 []) (block_at 401 (counting 4 402 ∷ up i 501 ∷ [])) L20 501
  pub several_loops : IsRefused reverse (block_at 401 (counting 4 402 ∷ counting 4 501 ∷ [])) L21 313
  -- #pragma omp reverse apply(reversed: nothing, reverse)
  pub more_items_than_loops :
      IsRefused (named Reverse 313 (applied (codes "reversed") (nothing (at 337) ∷ acts (named Reverse 346 []) ∷ []) 321 ∷ [])) loop L24 321
  -- #pragma omp tile sizes(2) apply(reverse)
  pub no_modifier :
      IsRefused (named Tile 313 (size 2 318 ∷ at_place (apply None no_exprs (items (acts (named Reverse 333 []) ∷ []))) 327 ∷ [])) loop L23 327
  -- #pragma omp tile sizes(2) apply(grid(2): reverse)
  pub no_such_loop :
      IsRefused (named Tile 313 (size 2 318 ∷ at_place (apply (Some grid) (exprs (int 2 338 ∷ [])) (items (acts (named Reverse 342 []) ∷ []))) 327 ∷ [])) loop L25 327
