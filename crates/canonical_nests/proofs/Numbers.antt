-- What a loop over a clause's arguments, or over clauses, has left.
use Rattle.std.proofs.Common.{◌≡◌, ◌∙◌, sym, ap, refl, subst, ◌<◌, ◌≤◌, ◌+◌, ℕ, List, [], ◌∷◌, map, length, drop, slice_index_or, Option, Some, None}
use Rattle.std.specs.Prelude.{if◌then◌else◌}
use Rattle.c_tree.specs.Bare.{expr_list}
use Rattle.c_tree.specs.BareOf.{bare_expr, bare_exprs, bare_count, bare_clause, bare_clauses}
use Rattle.c_tree.specs.Constants.{LiteralsAreHeld, EachLiteralIsHeld}
use Rattle.c_tree.specs.declared.tree.Expr.{Expr}
use Rattle.c_tree.specs.declared.tree.Count.{Count}
use Rattle.c_tree.specs.declared.tree.Clause.{Clause}
use Rattle.c_tree.proofs.Walks.{rest_more, rest_none}
use Rattle.c_semantics.specs.Meaning.Expressions.{Define}
use Rattle.c_semantics.specs.Loops.Directives.{number, count_of}
use Rattle.canonical_nests.specs.Held.{CountIsHeld, CountsAreHeld, ClauseIsHeld, ClausesAreHeld}
use Rattle.canonical_nests.specs.FirstClauses.{is_of, first_of}
use Rattle.canonical_nests.specs.declared.clauses.Sort.{Sort}

-- a fact of what is left, at the next element and the rest
module _ {A : Type 0} (P : List A → Type 0) (xs : List A) (i : ℕ) where
  fact_more : (x : A) → i < length xs → x ≡ slice_index_or xs i x → P (drop i xs) → P (x ∷ drop (i + 1) xs)
  fact_more x within is = subst P (rest_more (λ ys. ys) xs i x within is)

module _ (ds : List Define) where
  pub numbers_more : (xs : List Expr) (i : ℕ) (x : Expr) → i < length xs → x ≡ slice_index_or xs i x
      → map (number ds) (expr_list (bare_exprs (drop i xs))) ≡ number ds (bare_expr x) ∷ map (number ds) (expr_list (bare_exprs (drop (i + 1) xs)))
  numbers_more xs i = rest_more (λ ys. map (number ds) (expr_list (bare_exprs ys))) xs i

  pub numbers_end : (xs : List Expr) (i : ℕ) → length xs ≤ i → map (number ds) (expr_list (bare_exprs (drop i xs))) ≡ []
  numbers_end xs i = rest_none (λ ys. map (number ds) (expr_list (bare_exprs ys))) xs i

  pub counts_more : (xs : List Count) (i : ℕ) (x : Count) → i < length xs → x ≡ slice_index_or xs i x
      → map (count_of ds) (map bare_count (drop i xs)) ≡ count_of ds (bare_count x) ∷ map (count_of ds) (map bare_count (drop (i + 1) xs))
  counts_more xs i = rest_more (λ ys. map (count_of ds) (map bare_count ys)) xs i

  pub counts_end : (xs : List Count) (i : ℕ) → length xs ≤ i → map (count_of ds) (map bare_count (drop i xs)) ≡ []
  counts_end xs i = rest_none (λ ys. map (count_of ds) (map bare_count ys)) xs i

pub exprs_held : (xs : List Expr) (i : ℕ) (x : Expr) → i < length xs → x ≡ slice_index_or xs i x → EachLiteralIsHeld (bare_exprs (drop i xs))
    → LiteralsAreHeld (bare_expr x) × EachLiteralIsHeld (bare_exprs (drop (i + 1) xs))
exprs_held xs i = fact_more (λ ys. EachLiteralIsHeld (bare_exprs ys)) xs i

pub counts_held : (xs : List Count) (i : ℕ) (x : Count) → i < length xs → x ≡ slice_index_or xs i x → CountsAreHeld (map bare_count (drop i xs))
    → CountIsHeld (bare_count x) × CountsAreHeld (map bare_count (drop (i + 1) xs))
counts_held xs i = fact_more (λ ys. CountsAreHeld (map bare_count ys)) xs i

pub clauses_held : (xs : List Clause) (i : ℕ) (x : Clause) → i < length xs → x ≡ slice_index_or xs i x → ClausesAreHeld (bare_clauses (drop i xs))
    → ClauseIsHeld (bare_clause x) × ClausesAreHeld (bare_clauses (drop (i + 1) xs))
clauses_held xs i = fact_more (λ ys. ClausesAreHeld (bare_clauses ys)) xs i

pub first_more : (s : Sort) (xs : List Clause) (i : ℕ) (x : Clause) → i < length xs → x ≡ slice_index_or xs i x
    → first_of s (bare_clauses (drop i xs)) ≡ (if is_of s (bare_clause x) then Some (bare_clause x) else first_of s (bare_clauses (drop (i + 1) xs)))
first_more s xs i = rest_more (λ ys. first_of s (bare_clauses ys)) xs i

pub first_end : (s : Sort) (xs : List Clause) (i : ℕ) → length xs ≤ i → first_of s (bare_clauses (drop i xs)) ≡ None
first_end s xs i = rest_none (λ ys. first_of s (bare_clauses ys)) xs i

pub ruleset numbers = (numbers_more, numbers_end, counts_more, counts_end, exprs_held, counts_held, clauses_held, first_more, first_end)
