-- What a loop over the arguments of a clause has left.
use Rattle.std.proofs.Common.{◌≡◌, ◌∙◌, sym, ap, refl, ◌<◌, ◌≤◌, ◌+◌, ℕ, suc, List, [], ◌∷◌, map, length, drop, slice_index_or, true, ◌&&◌, None, nat_le}
use Rattle.std.specs.Prelude.{not, if◌then◌else◌}
use Rattle.c_tree.specs.Bare as b
use Rattle.c_tree.specs.BareOf.{bare_exprs}
use Rattle.c_tree.specs.Placed as p
use Rattle.c_tree.specs.Placed.{expr_list, expr_span}
use Rattle.c_tree.specs.PlacedOf.{placed_expr, placed_exprs, placed_count}
use Rattle.c_tree.specs.declared.tree.Expr.{Expr}
use Rattle.c_tree.specs.declared.tree.Count.{Count}
use Rattle.c_tree.proofs.Walks.{rest_more, rest_none}
use Rattle.c_tree.proofs.Forgotten.Exprs.{bare_expr_is}
use Rattle.c_semantics.specs.Meaning.Expressions.{Define}
use Rattle.c_semantics.specs.Loops.Directives.{number}
use Rattle.canonical_nests.specs.declared.rules.LoopRule.TheVariants.{L10}
use Rattle.canonical_nests.specs.LoopRules.BreachSets.{breach_if, lesser, least}
use Rattle.canonical_nests.specs.LoopRules.Clauses.{is_constant_from, placed_number, numbers, are_from_one_to, all_different, is_permutation_of, size_breaches, is_fill, fills, count_breaches}
use Rattle.canonical_nests.proofs.Numbers.{exprs_held, counts_held}
use Rattle.canonical_nests.proofs.Order.{lesser_joins, lesser_none}
use Rattle.loop_clauses.specs.Counts.{one_count}

pub length_of_placed : (xs : List Expr) → length (expr_list (placed_exprs xs)) ≡ length xs
length_of_placed [] = refl
length_of_placed (x ∷ xs) = ap suc (length_of_placed xs)

pub expr_count : (xs : List Expr) → length xs ≡ length (expr_list (placed_exprs xs))
expr_count xs = sym (length_of_placed xs)

pub length_of_counts : (xs : List Count) → length (map placed_count xs) ≡ length xs
length_of_counts [] = refl
length_of_counts (x ∷ xs) = ap suc (length_of_counts xs)

module _ (ds : List Define) where
  pub numbers_are : (es : List Expr) → map (number ds) (b.expr_list (bare_exprs es)) ≡ numbers ds (placed_exprs es)
  numbers_are [] = refl
  numbers_are (e ∷ es) = λ i. number ds (bare_expr_is e i) ∷ numbers_are es i

  pub from_more : (n : ℕ) (xs : List Expr) (i : ℕ) (x : Expr) → i < length xs → x ≡ slice_index_or xs i x
      → are_from_one_to ds n (placed_exprs (drop i xs)) ≡ ((is_constant_from ds 1 (placed_expr x) && nat_le (placed_number ds (placed_expr x)) n) && are_from_one_to ds n (placed_exprs (drop (i + 1) xs)))
  from_more n xs i = rest_more (λ ys. are_from_one_to ds n (placed_exprs ys)) xs i

  pub from_end : (n : ℕ) (xs : List Expr) (i : ℕ) → length xs ≤ i → are_from_one_to ds n (placed_exprs (drop i xs)) ≡ true
  from_end n xs i = rest_none (λ ys. are_from_one_to ds n (placed_exprs ys)) xs i

  pub sizes_more : (xs : List Expr) (i : ℕ) (x : Expr) → i < length xs → x ≡ slice_index_or xs i x
      → least (size_breaches ds (expr_list (placed_exprs (drop i xs))))
      ≡ lesser (least (breach_if (not (is_constant_from ds 1 (placed_expr x))) L10 (expr_span (placed_expr x)).start)) (least (size_breaches ds (expr_list (placed_exprs (drop (i + 1) xs)))))
  sizes_more xs i = rest_more (λ ys. least (size_breaches ds (expr_list (placed_exprs ys)))) xs i

  pub sizes_end : (xs : List Expr) (i : ℕ) → length xs ≤ i → least (size_breaches ds (expr_list (placed_exprs (drop i xs)))) ≡ None
  sizes_end xs i = rest_none (λ ys. least (size_breaches ds (expr_list (placed_exprs ys)))) xs i

  pub permutation_is : (xs : List Expr)
      → is_permutation_of ds (placed_exprs xs) ≡ (are_from_one_to ds (length xs) (placed_exprs xs) && (all_different (numbers ds (placed_exprs xs)) && nat_le 2 (length xs)))
  permutation_is xs = ap (λ n. are_from_one_to ds n (placed_exprs xs) && (all_different (numbers ds (placed_exprs xs)) && nat_le 2 n)) (length_of_placed xs)

  count_step : (c : p.Count) (cs : List p.Count) → least (count_breaches ds (c ∷ cs)) ≡ lesser (least (one_count ds c)) (least (count_breaches ds cs))
  count_step (p.fill s) cs = refl
  count_step (p.given e) cs = refl

  pub counts_more : (xs : List Count) (i : ℕ) (x : Count) → i < length xs → x ≡ slice_index_or xs i x
      → least (count_breaches ds (map placed_count (drop i xs))) ≡ lesser (least (one_count ds (placed_count x))) (least (count_breaches ds (map placed_count (drop (i + 1) xs))))
  counts_more xs i x within is =
      rest_more (λ ys. least (count_breaches ds (map placed_count ys))) xs i x within is ∙ count_step (placed_count x) (map placed_count (drop (i + 1) xs))

  pub counts_end : (xs : List Count) (i : ℕ) → length xs ≤ i → least (count_breaches ds (map placed_count (drop i xs))) ≡ None
  counts_end xs i = rest_none (λ ys. least (count_breaches ds (map placed_count ys))) xs i

pub fills_more : (xs : List Count) (i : ℕ) (x : Count) → i < length xs → x ≡ slice_index_or xs i x
    → fills (map placed_count (drop i xs)) ≡ (if is_fill (placed_count x) then fills (map placed_count (drop (i + 1) xs)) + 1 else fills (map placed_count (drop (i + 1) xs)))
fills_more xs i = rest_more (λ ys. fills (map placed_count ys)) xs i

pub fills_end : (xs : List Count) (i : ℕ) → length xs ≤ i → fills (map placed_count (drop i xs)) ≡ 0
fills_end xs i = rest_none (λ ys. fills (map placed_count ys)) xs i

pub ruleset bares = (bare_expr_is)

pub counts_count : (xs : List Count) → length xs ≡ length (map placed_count xs)
counts_count xs = sym (length_of_counts xs)

pub ruleset lengths = (expr_count, counts_count)

pub ruleset arguments = (numbers_are, from_more, from_end, sizes_more, sizes_end, permutation_is, exprs_held, lesser_joins, lesser_none)

pub ruleset counts = (counts_more, counts_end, fills_more, fills_end, counts_held, lesser_joins, lesser_none)
