-- What a loop over indices has left.
use Rattle.std.proofs.Common.{◌≡◌, ◌∙◌, ap, ◌<◌, ◌≤◌, ◌+◌, ℕ, List, [], ◌∷◌, ◌++◌, append_assoc, map, length, drop, slice_index_or}
use Rattle.c_tree.specs.BareOf.{bare_expr, bare_exprs}
use Rattle.c_tree.specs.Placed.{expr_list}
use Rattle.c_tree.specs.PlacedOf.{placed_exprs}
use Rattle.c_tree.specs.Forget.{forget_expr}
use Rattle.c_tree.specs.Constants.{LiteralsAreHeld, EachLiteralIsHeld}
use Rattle.c_tree.specs.declared.tree.Expr.{Expr}
use Rattle.c_tree.proofs.Walks.{rest_more, rest_none}
use Rattle.c_tree.proofs.Forgotten.Exprs.{bare_expr_is}
use Rattle.c_semantics.specs.Meaning.Expressions.{Define}
use Rattle.c_semantics.specs.Loops.Directives.{number}
use Rattle.canonical_nests.proofs.Numbers.{exprs_held}
use Rattle.std.proofs.Common.{sym}

module _ (ds : List Define) (k : ℕ) where
  pub positions_more : (xs : List Expr) (i : ℕ) (x : Expr) → i < length xs → x ≡ slice_index_or xs i x
      → map (λ e. k + number ds (forget_expr e)) (expr_list (placed_exprs (drop i xs)))
      ≡ (k + number ds (bare_expr x)) ∷ map (λ e. k + number ds (forget_expr e)) (expr_list (placed_exprs (drop (i + 1) xs)))
  positions_more xs i x within is =
      rest_more (λ ys. map (λ e. k + number ds (forget_expr e)) (expr_list (placed_exprs ys))) xs i x within is
      ∙ ap (λ e. (k + number ds e) ∷ map (λ e. k + number ds (forget_expr e)) (expr_list (placed_exprs (drop (i + 1) xs)))) (sym (bare_expr_is x))

  pub positions_end : (xs : List Expr) (i : ℕ) → length xs ≤ i → map (λ e. k + number ds (forget_expr e)) (expr_list (placed_exprs (drop i xs))) ≡ []
  positions_end xs i = rest_none (λ ys. map (λ e. k + number ds (forget_expr e)) (expr_list (placed_exprs ys))) xs i

-- one position more
pub positions_step : (ds : List Define) (k : ℕ) (xs : List Expr) (i : ℕ) (x : Expr) (b n m : ℕ) (seen all : List ℕ)
    → i < length xs → x ≡ slice_index_or xs i x → b ≡ k → n ≡ number ds (bare_expr x) → m ≡ b + n
    → seen ++ map (λ e. k + number ds (forget_expr e)) (expr_list (placed_exprs (drop i xs))) ≡ all
    → (seen ++ m ∷ []) ++ map (λ e. k + number ds (forget_expr e)) (expr_list (placed_exprs (drop (i + 1) xs))) ≡ all
positions_step ds k xs i x b n m seen all within is b_is n_is m_is all_is =
    let rest : List ℕ = map (λ e. k + number ds (forget_expr e)) (expr_list (placed_exprs (drop (i + 1) xs))) in
    append_assoc seen (m ∷ []) rest
    ∙ (ap (λ p. seen ++ p ∷ rest) (m_is ∙ (λ j. b_is j + n_is j))
    ∙ (ap (λ ps. seen ++ ps) (sym (positions_more ds k xs i x within is)) ∙ all_is))

pub ruleset positions = (positions_more, positions_end, exprs_held)
