-- The first clause of a sort among the clauses of a directive.
use Rattle.std.specs.Prelude.{ℕ, List, [], ◌∷◌, map, Option, Some, None, Bool, true, false, if◌then◌else◌}
use Rattle.c_tree.specs.Bare.{Expr, expr_list, Count, Clauses, no_clauses, more_clauses, Clause, sizes, permutation, counts, looprange, full, partial}
use Rattle.c_semantics.specs.Meaning.Expressions.{Define}
use Rattle.c_semantics.specs.Loops.Directives.{number}
use Rattle.canonical_nests.specs.declared.clauses.Sort.{Sort}
use Rattle.canonical_nests.specs.declared.clauses.Sort.TheVariants.{Sizes, Permutation, Counts, LoopRange, Full, Partial}

abbrev pub is_of : Sort → Clause → Bool
is_of Sizes (sizes es) = true
is_of Permutation (permutation es) = true
is_of Counts (counts cs) = true
is_of LoopRange (looprange first count) = true
is_of Full full = true
is_of Partial (partial factor) = true
is_of _ _ = false

abbrev pub first_of : Sort → Clauses → Option Clause
first_of sort no_clauses = None
first_of sort (more_clauses c cs) = if is_of sort c then Some c else first_of sort cs

-- ---- what the first clause of its sort says

abbrev pub sizes_from : Option Clause → List Expr
sizes_from (Some (sizes es)) = expr_list es
sizes_from _ = []

-- without the clause 2, 1
abbrev pub permutation_from : List Define → Option Clause → List ℕ
permutation_from ds (Some (permutation es)) = map (number ds) (expr_list es)
permutation_from ds _ = 2 ∷ 1 ∷ []

abbrev pub counts_from : Option Clause → List Count
counts_from (Some (counts cs)) = cs
counts_from _ = []

abbrev pub range_from : List Define → Option Clause → Option (ℕ × ℕ)
range_from ds (Some (looprange first count)) = Some (number ds first, number ds count)
range_from ds _ = None

-- without a factor 4
abbrev pub factor_from : List Define → Option Clause → ℕ
factor_from ds (Some (partial (Some e))) = number ds e
factor_from ds _ = 4
