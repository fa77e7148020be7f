-- What a written directive says (OpenMP 6.0, 11, the clauses of the loop-transforming constructs): its transformation, with
-- the values of the arguments, and the items of its `apply` clauses by position.
use Rattle.std.specs.Prelude.{ℕ, ◌+◌, List, [], ◌∷◌, map, length, Option, Some, None, Bool, true, false, pos, nat_abs, nat_lt, bytes_eq, unwrap_or, codes, if◌then◌else◌}
use Rattle.c_tree.specs.Bare.{Name, Expr, expr_list, Count, fill, given, Directive, directive, Clauses, no_clauses, more_clauses, Clause, sizes, permutation, counts, looprange, full, partial, apply, Items, no_items, more_items, Item, nothing, acts}
use Rattle.c_tree.specs.declared.tree.Kind.{Kind}
use Rattle.c_tree.specs.declared.tree.Kind.TheVariants.{Tile, Unroll, Interchange, Reverse, Split, Fuse}
use Rattle.c_semantics.specs.Meaning.Expressions.{Define, constant}
use Rattle.c_semantics.specs.Loops.Transformations.{Transformation, tile, interchange, reverse_, split, fuse, unroll_full, unroll_partial, Plan, plan, Applied, none_applied, applied_at}

-- a clause's argument, which is a constant expression
abbrev pub number : List Define → Expr → ℕ
number ds e = nat_abs (unwrap_or (constant ds e) (pos 0))

-- ---- the clauses; of one that stands twice the first counts

abbrev pub sizes_in : Clauses → List Expr
sizes_in no_clauses = []
sizes_in (more_clauses (sizes es) cs) = expr_list es
sizes_in (more_clauses _ cs) = sizes_in cs

-- without the clause 2, 1
abbrev pub permutation_in : List Define → Clauses → List ℕ
permutation_in ds no_clauses = 2 ∷ 1 ∷ []
permutation_in ds (more_clauses (permutation es) cs) = map (number ds) (expr_list es)
permutation_in ds (more_clauses _ cs) = permutation_in ds cs

abbrev pub counts_in : Clauses → List Count
counts_in no_clauses = []
counts_in (more_clauses (counts ks) cs) = ks
counts_in (more_clauses _ cs) = counts_in cs

abbrev pub range_in : List Define → Clauses → Option (ℕ × ℕ)
range_in ds no_clauses = None
range_in ds (more_clauses (looprange a b) cs) = Some (number ds a, number ds b)
range_in ds (more_clauses _ cs) = range_in ds cs

abbrev pub full_in : Clauses → Bool
full_in no_clauses = false
full_in (more_clauses full cs) = true
full_in (more_clauses _ cs) = full_in cs

-- without a factor 4
abbrev pub factor_in : List Define → Clauses → ℕ
factor_in ds no_clauses = 4
factor_in ds (more_clauses (partial (Some e)) cs) = number ds e
factor_in ds (more_clauses (partial None) cs) = 4
factor_in ds (more_clauses _ cs) = factor_in ds cs

abbrev pub count_of : List Define → Count → Option ℕ
count_of ds fill = None
count_of ds (given e) = Some (number ds e)

abbrev pub transformation_of : List Define → Kind → Clauses → Transformation
transformation_of ds Tile cs = tile (map (number ds) (sizes_in cs))
transformation_of ds Unroll cs = if full_in cs then unroll_full else unroll_partial (factor_in ds cs)
transformation_of ds Interchange cs = interchange (permutation_in ds cs)
transformation_of ds Reverse cs = reverse_
transformation_of ds Split cs = split (map (count_of ds) (counts_in cs))
transformation_of ds Fuse cs = fuse (range_in ds cs)

-- ---- the items

-- the last position first
abbrev pub insert : ℕ → Plan → Applied → Applied
insert p d none_applied = applied_at p d none_applied
insert p d (applied_at q e w) = if nat_lt q p then applied_at p d (applied_at q e w) else applied_at q e (insert p d w)

-- the loops before those that a modifier means: the tile loops stand after n grid loops
abbrev pub before : ℕ → Option Name → ℕ
before n None = 0
before n (Some x) = if bytes_eq x (codes "intratile") then n else 0

-- the positions of the items: as the indices say, else one after another from k on
abbrev pub first_place : List ℕ → ℕ → ℕ
first_place [] k = k
first_place (p ∷ ps) k = p

abbrev pub later_places : List ℕ → List ℕ
later_places [] = []
later_places (p ∷ ps) = ps

abbrev mutual
  pub plan_of : List Define → Directive → Plan
  plan_of ds (directive k cs) = plan (transformation_of ds k cs) (clauses_items ds (length (sizes_in cs)) cs none_applied)

  -- n is the number of sizes
  pub clauses_items : List Define → ℕ → Clauses → Applied → Applied
  clauses_items ds n no_clauses w = w
  clauses_items ds n (more_clauses c cs) w = clauses_items ds n cs (clause_items ds n c w)

  pub clause_items : List Define → ℕ → Clause → Applied → Applied
  clause_items ds n (apply m es is) w = put_items ds (map (λ e. before n m + number ds e) (expr_list es)) (before n m + 1) is w
  clause_items ds n _ w = w

  pub put_items : List Define → List ℕ → ℕ → Items → Applied → Applied
  put_items ds ps k no_items w = w
  put_items ds ps k (more_items i is) w = put_items ds (later_places ps) (k + 1) is (put_item ds (first_place ps k) i w)

  pub put_item : List Define → ℕ → Item → Applied → Applied
  put_item ds p nothing w = w
  put_item ds p (acts d) w = insert p (plan_of ds d) w
