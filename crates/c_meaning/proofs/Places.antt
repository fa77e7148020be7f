-- The place of an element: within the dimensions so far, whose product fits.
use Rattle.std.proofs.Common.{◌≡◌, ◌∙◌, sym, ap, refl, subst, ℕ, zero, suc, ◌+◌, ◌*◌, ◌<◌, ◌≤◌, ◌^◌, Bool, true, false, List, [], ◌∷◌, length, drop, Result, Ok, Err, ℤ, pos, negsuc, mul-le-mul_right, suc-mul, arith}
use Rattle.std.proofs.lemmas.List.{at_drop_more, drop_all, length-drop}
use Rattle.std.proofs.lemmas.Bool.{ltb-true}
use Rattle.std.specs.Prelude.{slice_index_or, nat_lt, if◌then◌else◌}
use Rattle.c_tree.specs.Arithmetic.{and_then}
use Rattle.resolved_names.specs.Numbered.{numbered_expr, numbered_exprs}
use Rattle.c_tree.specs.declared.arithmetic.Trap.{Trap}
use Rattle.c_tree.specs.declared.arithmetic.Trap.TheVariants.{Index}
use Rattle.resolved_names.specs.declared.tree.Expr.{Expr}
use Rattle.c_semantics.specs.Meaning.State.{State}
use Rattle.c_semantics.specs.Meaning.Expressions.{Define, eval, place, in_dim}
use Rattle.c_meaning.specs.Variables.{FitFrom}

-- the place is below a number from which the dimensions fit
pub record Within (at : ℕ) (dims : List ℕ) : Type 0 where
  pub count : ℕ
  pub below : at < count
  pub fit : FitFrom count dims

pub within_start : (dims : List ℕ) → FitFrom 1 dims → Within 0 dims
within_start dims h = record { count = 1; below = omega arith; fit = h }

less_product : (p d at i : ℕ) → at < p → i < d → at * d + i < p * d
less_product zero d at i h k = absurd (omega arith)
less_product (suc p) d at i h k =
    let le : at ≤ p = omega arith in
    omega (arith, mul-le-mul_right d le, suc-mul p d)

pub head_fits : (p : ℕ) (dims : List ℕ) → FitFrom p dims → p < 2 ^ 63
head_fits p [] h = h
head_fits p (d ∷ dims) h = h.0

pub within_more : (at d i : ℕ) (dims : List ℕ) → Within at (d ∷ dims) → i < d → Within (at * d + i) dims
within_more at d i dims w h = record { count = w.count * d; below = less_product w.count d at i w.below h; fit = w.fit.1 }

pub mul_fits : (at d : ℕ) (dims : List ℕ) → Within at (d ∷ dims) → at * d < 2 ^ 63
mul_fits at d dims w =
    let less : at ≤ w.count = omega (arith, w.below) in
    let top : w.count * d < 2 ^ 63 = head_fits (w.count * d) dims w.fit.1 in
    omega (arith, mul-le-mul_right d less)

pub below_dim : (d : ℕ) (z : ℤ) (i : ℕ) → in_dim d z ≡ Ok i → i < d
below_dim d (negsuc k) i h = absurd (cc)
below_dim d (pos k) i h = by (nat_lt k d) (λ e. ltb-true k d e) h
  where
    by : (b : Bool) → (b ≡ true → k < d) → (if b then Ok k else Err Index) ≡ Ok i → i < d
    by true less e = let same : k ≡ i = cc in subst (λ j. j < d) same (less refl)
    by false less e = absurd (cc)

-- the place after one subscript more
module _ (ds : List Define) (s : State) (dims : List ℕ) (xs : List Expr) (k at : ℕ) (d : ℕ) (x : Expr) (within : k < length dims) (dim : d ≡ slice_index_or dims k d) (inside : k < length xs) (here : x ≡ slice_index_or xs k x) where
  abbrev rest : ℤ → Result ℕ Trap
  rest z = and_then (in_dim d z) (λ i. place ds s (drop (k + 1) dims) (at * d + i) (numbered_exprs (drop (k + 1) xs)))

  place_first : place ds s (drop k dims) at (numbered_exprs (drop k xs)) ≡ and_then (eval ds s (numbered_expr x)) rest
  place_first =
      at_drop_more (λ ys. place ds s ys at (numbered_exprs (drop k xs))) dims k d within
      ∙ (ap (λ e. place ds s (e ∷ drop (k + 1) dims) at (numbered_exprs (drop k xs))) (sym dim)
      ∙ (at_drop_more (λ ys. place ds s (d ∷ drop (k + 1) dims) at (numbered_exprs ys)) xs k x inside
      ∙ ap (λ e. place ds s (d ∷ drop (k + 1) dims) at (numbered_exprs (e ∷ drop (k + 1) xs))) (sym here)))

  pub place_trap : (t : Trap) → eval ds s (numbered_expr x) ≡ Err t → place ds s (drop k dims) at (numbered_exprs (drop k xs)) ≡ Err t
  place_trap t e = place_first ∙ ap (λ r. and_then r rest) e

  pub place_outside : (z : ℤ) (t : Trap) → eval ds s (numbered_expr x) ≡ Ok z → in_dim d z ≡ Err t → place ds s (drop k dims) at (numbered_exprs (drop k xs)) ≡ Err t
  place_outside z t e f = place_first ∙ (ap (λ r. and_then r rest) e ∙ ap (λ r. and_then r (λ i. place ds s (drop (k + 1) dims) (at * d + i) (numbered_exprs (drop (k + 1) xs)))) f)

  pub place_inside : (z : ℤ) (i : ℕ) → eval ds s (numbered_expr x) ≡ Ok z → in_dim d z ≡ Ok i → place ds s (drop k dims) at (numbered_exprs (drop k xs)) ≡ place ds s (drop (k + 1) dims) (at * d + i) (numbered_exprs (drop (k + 1) xs))
  place_inside z i e f = place_first ∙ (ap (λ r. and_then r rest) e ∙ ap (λ r. and_then r (λ i. place ds s (drop (k + 1) dims) (at * d + i) (numbered_exprs (drop (k + 1) xs)))) f)

no_dim : (ds : List Define) (s : State) (at : ℕ) (ys : List Expr) → 0 < length ys → place ds s [] at (numbered_exprs ys) ≡ Err Index
no_dim ds s at [] h = absurd (omega arith)
no_dim ds s at (y ∷ ys) h = refl

pub place_over : (ds : List Define) (s : State) (dims : List ℕ) (xs : List Expr) (k at : ℕ) → length dims ≤ k → k < length xs → place ds s (drop k dims) at (numbered_exprs (drop k xs)) ≡ Err Index
place_over ds s dims xs k at none some =
    ap (λ ys. place ds s ys at (numbered_exprs (drop k xs))) (drop_all k dims none) ∙ no_dim ds s at (drop k xs) (omega (arith, length-drop k xs))

pub place_fits : (at : ℕ) (dims : List ℕ) → Within at dims → at < 2 ^ 63
place_fits at dims w = let top : w.count < 2 ^ 63 = head_fits w.count dims w.fit in omega (arith, w.below)

pub step_fits : (at d i : ℕ) (dims : List ℕ) → Within at (d ∷ dims) → i < d → at * d + i < 2 ^ 63
step_fits at d i dims w h = place_fits (at * d + i) dims (within_more at d i dims w h)

pub within_next : (dims : List ℕ) (k d : ℕ) (at : ℕ) → k < length dims → d ≡ slice_index_or dims k d → Within at (drop k dims) → Within at (d ∷ drop (k + 1) dims)
within_next dims k d at h is w = subst (Within at) (at_drop_more (λ ds. ds) dims k d h ∙ ap (λ e. e ∷ drop (k + 1) dims) (sym is)) w
