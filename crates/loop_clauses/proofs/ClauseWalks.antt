-- What a search among clauses has left.
use Rattle.std.proofs.Common.{◌≡◌, ◌∙◌, ap, ◌<◌, ◌≤◌, ◌+◌, ℕ, List, length, drop, slice_index_or, Bool, false, ◌||◌}
use Rattle.std.specs.Prelude.{if◌then◌else◌}
use Rattle.c_tree.specs.Placed.{ClauseKind, more_clauses}
use Rattle.c_tree.specs.PlacedOf.{placed_kind, placed_clauses}
use Rattle.c_tree.specs.declared.tree.Clause.{Clause, out-Clause}
use Rattle.c_tree.proofs.Walks.{rest_more, rest_none}
use Rattle.canonical_nests.specs.LoopRules.Clauses.{has_kind, arguments, first_some, arguments_of}
use Rattle.canonical_nests.proofs.ClauseFields.{placed_clause_out}

module _ (f : ClauseKind → Bool) where
  pub has_more : (xs : List Clause) (i : ℕ) (x : Clause) → i < length xs → x ≡ slice_index_or xs i x
      → has_kind f (placed_clauses (drop i xs)) ≡ (f (placed_kind (out-Clause x).kind) || has_kind f (placed_clauses (drop (i + 1) xs)))
  has_more xs i x within is =
      rest_more (λ ys. has_kind f (placed_clauses ys)) xs i x within is
      ∙ ap (λ c. has_kind f (more_clauses c (placed_clauses (drop (i + 1) xs)))) (placed_clause_out x)

  pub has_end : (xs : List Clause) (i : ℕ) → length xs ≤ i → has_kind f (placed_clauses (drop i xs)) ≡ false
  has_end xs i = rest_none (λ ys. has_kind f (placed_clauses ys)) xs i

  pub arguments_more : (n : ℕ) (xs : List Clause) (i : ℕ) (x : Clause) → i < length xs → x ≡ slice_index_or xs i x
      → arguments_of f n (placed_clauses (drop i xs))
      ≡ (if f (placed_kind (out-Clause x).kind) then first_some (arguments (placed_kind (out-Clause x).kind)) n else arguments_of f n (placed_clauses (drop (i + 1) xs)))
  arguments_more n xs i x within is =
      rest_more (λ ys. arguments_of f n (placed_clauses ys)) xs i x within is
      ∙ ap (λ c. arguments_of f n (more_clauses c (placed_clauses (drop (i + 1) xs)))) (placed_clause_out x)

  pub arguments_end : (n : ℕ) (xs : List Clause) (i : ℕ) → length xs ≤ i → arguments_of f n (placed_clauses (drop i xs)) ≡ n
  arguments_end n xs i = rest_none (λ ys. arguments_of f n (placed_clauses ys)) xs i

pub ruleset clause_walks = (has_more, has_end, arguments_more, arguments_end)
