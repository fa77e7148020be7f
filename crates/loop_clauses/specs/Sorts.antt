-- Which clauses are of a sort.
use Rattle.std.specs.Prelude.{Bool, true, false}
use Rattle.c_tree.specs.Placed.{ClauseKind, looprange, partial}
use Rattle.canonical_nests.specs.LoopRules.Clauses.{is_sizes, is_permutation, is_counts, is_full}
use Rattle.canonical_nests.specs.declared.clauses.Sort.{Sort}
use Rattle.canonical_nests.specs.declared.clauses.Sort.TheVariants.{Sizes, Permutation, Counts, LoopRange, Full, Partial}

abbrev pub is_range : ClauseKind → Bool
is_range (looprange first count) = true
is_range _ = false

abbrev pub is_partial : ClauseKind → Bool
is_partial (partial factor) = true
is_partial _ = false

abbrev pub is_of : Sort → ClauseKind → Bool
is_of Sizes = is_sizes
is_of Permutation = is_permutation
is_of Counts = is_counts
is_of LoopRange = is_range
is_of Full = is_full
is_of Partial = is_partial
