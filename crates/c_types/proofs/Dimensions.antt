-- What a loop over dimensions has left, and products and sums that are counted up to a limit.
use Rattle.std.proofs.Common.{◌≡◌, ◌∙◌, sym, ap, refl, subst, ℕ, zero, suc, ◌+◌, ◌*◌, ◌<◌, ◌≤◌, ◌≢◌, ◌==◌, nat_lt, ◌⊎◌, inl, inr, min, List, [], ◌∷◌, length, drop, slice_index_or, Option, None, arith}
use Rattle.std.proofs.lemmas.List.{at_drop_more, drop_all}
use Rattle.std.proofs.lemmas.Bool.{cases_lt}
use Rattle.std.proofs.Math.Nat.{mul-le-mul_left, mul_assoc}
use Rattle.c_tree.specs.BareOf.{bare_expr, bare_exprs}
use Rattle.c_tree.specs.Constants.{LiteralsAreHeld, EachLiteralIsHeld}
use Rattle.c_tree.specs.Placed.{expr_span}
use Rattle.c_tree.specs.PlacedOf.{placed_expr, placed_exprs}
use Rattle.c_tree.specs.NameRules.BreachSets.{none, lesser, least}
use Rattle.c_tree.specs.NameRules.Scopes.{Scope}
use Rattle.c_tree.specs.NameRules.Breaches.{breach_if, expr_breaches}
use Rattle.c_tree.specs.NameRules.Programs.{dimension, dims_breaches, dims_product, elements_of, size_breaches, most_elements}
use Rattle.c_tree.specs.declared.name_rule.Breach.{Breach}
use Rattle.c_tree.specs.declared.name_rule.NameRule.TheVariants.{N5, N8}
use Rattle.c_tree.specs.declared.tree.Expr.{Expr}
use Rattle.c_types.proofs.Order.{lesser_joins, lesser_none}

-- ---- the loop

module _ (s : Scope) where
  pub dims_more : (xs : List Expr) (i : ℕ) (x : Expr) → i < length xs → x ≡ slice_index_or xs i x → least (dims_breaches s i (placed_exprs (drop i xs))) ≡ lesser (least (expr_breaches s (placed_expr x))) (lesser (least (breach_if (dimension s i (placed_expr x) == 0) N5 (expr_span (placed_expr x)).start)) (least (dims_breaches s (i + 1) (placed_exprs (drop (i + 1) xs)))))
  dims_more xs i x h at =
      at_drop_more (λ ys. least (dims_breaches s i (placed_exprs ys))) xs i x h
      ∙ ap (λ y. lesser (least (expr_breaches s (placed_expr y))) (lesser (least (breach_if (dimension s i (placed_expr y) == 0) N5 (expr_span (placed_expr y)).start)) (least (dims_breaches s (i + 1) (placed_exprs (drop (i + 1) xs)))))) (sym at)

  pub dims_end : (xs : List Expr) (i : ℕ) → length xs ≤ i → least (dims_breaches s i (placed_exprs (drop i xs))) ≡ None
  dims_end xs i h = ap (λ ys. least (dims_breaches s i (placed_exprs ys))) (drop_all i xs h)

  pub product_more : (xs : List Expr) (i : ℕ) (x : Expr) → i < length xs → x ≡ slice_index_or xs i x → dims_product s i (placed_exprs (drop i xs)) ≡ dimension s i (placed_expr x) * dims_product s (i + 1) (placed_exprs (drop (i + 1) xs))
  product_more xs i x h at =
      at_drop_more (λ ys. dims_product s i (placed_exprs ys)) xs i x h
      ∙ ap (λ y. dimension s i (placed_expr y) * dims_product s (i + 1) (placed_exprs (drop (i + 1) xs))) (sym at)

  pub product_end : (xs : List Expr) (i : ℕ) → length xs ≤ i → dims_product s i (placed_exprs (drop i xs)) ≡ 1
  product_end xs i h = ap (λ ys. dims_product s i (placed_exprs ys)) (drop_all i xs h)

abbrev Held : List Expr → Type 0
Held xs = EachLiteralIsHeld (bare_exprs xs)

pub held_more : (xs : List Expr) (i : ℕ) (x : Expr) → i < length xs → x ≡ slice_index_or xs i x → EachLiteralIsHeld (bare_exprs (drop i xs)) → LiteralsAreHeld (bare_expr x) × EachLiteralIsHeld (bare_exprs (drop (i + 1) xs))
held_more xs i x h at held = subst Held (at_drop_more (λ ys. ys) xs i x h ∙ ap (λ z. z ∷ drop (i + 1) xs) (sym at)) held

-- ---- counting up to a limit

up_to : (a b most : ℕ) → (most < a) ⊎ (a ≤ most) → min (min a most * b) most ≡ min (a * b) most
up_to a b most (inr h) = ap (λ c. min (c * b) most) (omega arith)
up_to a zero most (inl h) = omega arith
up_to a (suc b) most (inl h) =
    let small : min a most ≡ most = omega arith in
    let some : 1 ≤ suc b = omega arith in
    let left : most ≤ most * suc b = omega (arith, mul-le-mul_left most some) in
    let right : most ≤ a * suc b = omega (arith, mul-le-mul_left a some) in
    ap (λ c. min (c * suc b) most) small ∙ omega arith

pub capped_product : (a b most : ℕ) → min (min a most * b) most ≡ min (a * b) most
capped_product a b most = up_to a b most (cases_lt most a)

-- ---- one dimension more

module _ (s : Scope) (xs : List Expr) (i : ℕ) (x : Expr) (within : i < length xs) (at : x ≡ slice_index_or xs i x) where
  abbrev rest : List Expr
  rest = drop (i + 1) xs

  pub breach_step : (found e w both new all : Option Breach) → e ≡ least (expr_breaches s (placed_expr x)) → w ≡ least (breach_if (dimension s i (placed_expr x) == 0) N5 (expr_span (placed_expr x)).start) → both ≡ lesser e w → new ≡ lesser found both → lesser found (least (dims_breaches s i (placed_exprs (drop i xs)))) ≡ all → lesser new (least (dims_breaches s (i + 1) (placed_exprs rest))) ≡ all
  breach_step found e w both new all e_is w_is both_is new_is all_is =
      let left : Option Breach = least (dims_breaches s (i + 1) (placed_exprs rest)) in
      ap (λ b. lesser b left) (new_is ∙ ap (lesser found) both_is)
      ∙ (lesser_joins found (lesser e w) left
      ∙ (ap (lesser found) (lesser_joins e w left)
      ∙ ((λ j. lesser found (lesser (e_is j) (lesser (w_is j) left)))
      ∙ (sym (ap (lesser found) (dims_more s xs i x within at)) ∙ all_is))))

  pub product_step : (found asked new most all : ℕ) → asked ≡ dimension s i (placed_expr x) → new ≡ min (found * asked) most → min (found * dims_product s i (placed_exprs (drop i xs))) most ≡ all → min (new * dims_product s (i + 1) (placed_exprs rest)) most ≡ all
  product_step found asked new most all asked_is new_is all_is =
      let left : ℕ = dims_product s (i + 1) (placed_exprs rest) in
      ap (λ n. min (n * left) most) new_is
      ∙ (capped_product (found * asked) left most
      ∙ (ap (λ n. min n most) (mul_assoc found asked left ∙ ap (λ d. found * (d * left)) asked_is)
      ∙ (sym (ap (λ n. min (found * n) most) (product_more s xs i x within at)) ∙ all_is)))

pub ruleset dimensions = (dims_more, dims_end, product_more, product_end, held_more, capped_product, lesser_joins, lesser_none)

-- ---- an array has dimensions

pub elements_none : (s : Scope) (xs : List Expr) → length xs ≡ 0 → elements_of s (placed_exprs xs) ≡ 0
elements_none s [] h = refl
elements_none s (x ∷ xs) h = absurd (omega arith)

pub elements_some : (s : Scope) (xs : List Expr) → length xs ≢ 0 → elements_of s (placed_exprs xs) ≡ dims_product s 0 (placed_exprs xs)
elements_some s [] h = absurd (h refl)
elements_some s (x ∷ xs) h = refl

pub size_none : (elements at : ℕ) (xs : List Expr) → length xs ≡ 0 → size_breaches elements at (placed_exprs xs) ≡ none
size_none elements at [] h = refl
size_none elements at (x ∷ xs) h = absurd (omega arith)

pub size_some : (elements at : ℕ) (xs : List Expr) → length xs ≢ 0 → size_breaches elements at (placed_exprs xs) ≡ breach_if (nat_lt most_elements elements) N8 at
size_some elements at [] h = absurd (h refl)
size_some elements at (x ∷ xs) h = refl

pub ruleset sums = (elements_none, elements_some, size_none, size_some)
