-- The indices of an `apply` clause, where there are any and where there are none.
use Rattle.std.proofs.Common.{◌≡◌, ◌∙◌, ap, refl, ℕ, List, [], ◌∷◌, length, true, ◌&&◌}
use Rattle.std.specs.Prelude.{◌==◌}
use Rattle.c_tree.specs.Placed as p
use Rattle.c_tree.specs.PlacedOf.{placed_exprs, placed_items}
use Rattle.c_tree.specs.declared.tree.Expr.{Expr}
use Rattle.c_tree.specs.declared.tree.ApplyItem.{ApplyItem}
use Rattle.c_semantics.specs.Meaning.Expressions.{Define}
use Rattle.canonical_nests.specs.LoopRules.Clauses.{numbers, are_from_one_to, all_different, item_list, indices_fit, loop_numbers, one_to}
use Rattle.loop_clauses.proofs.ArgumentWalks.{length_of_placed}
use Rattle.loop_clauses.proofs.ItemWalks.{length_of_items}

module _ (ds : List Define) (xs : List Expr) (is : List ApplyItem) where
  pub none_fit : (n : ℕ) → xs ≡ [] → indices_fit ds n (placed_exprs xs) (placed_items is) ≡ true
  none_fit n none = ap (λ es. indices_fit ds n (placed_exprs es) (placed_items is)) none

  pub none_said : xs ≡ [] → loop_numbers ds (placed_exprs xs) (placed_items is) ≡ one_to (length is)
  none_said none = ap (λ es. loop_numbers ds (placed_exprs es) (placed_items is)) none ∙ ap one_to (length_of_items is)

some_fit_list : (ds : List Define) (xs : List Expr) (is : p.Items) (n : ℕ) → (xs ≡ [] → ⊥)
    → indices_fit ds n (placed_exprs xs) is
    ≡ (are_from_one_to ds n (placed_exprs xs) && (all_different (numbers ds (placed_exprs xs)) && length (p.expr_list (placed_exprs xs)) == length (item_list is)))
some_fit_list ds [] is n some = absurd (some refl)
some_fit_list ds (x ∷ xs) is n some = refl

pub some_fit : (ds : List Define) (xs : List Expr) (is : List ApplyItem) (n : ℕ) → (xs ≡ [] → ⊥)
    → indices_fit ds n (placed_exprs xs) (placed_items is)
    ≡ (are_from_one_to ds n (placed_exprs xs) && (all_different (numbers ds (placed_exprs xs)) && length xs == length is))
some_fit ds xs is n some =
    some_fit_list ds xs (placed_items is) n some
    ∙ (λ j. are_from_one_to ds n (placed_exprs xs) && (all_different (numbers ds (placed_exprs xs)) && length_of_placed xs j == length_of_items is j))

pub some_said : (ds : List Define) (xs : List Expr) (is : p.Items) → (xs ≡ [] → ⊥) → loop_numbers ds (placed_exprs xs) is ≡ numbers ds (placed_exprs xs)
some_said ds [] is some = absurd (some refl)
some_said ds (x ∷ xs) is some = refl

pub ruleset indices = (none_fit, none_said, some_fit, some_said)
