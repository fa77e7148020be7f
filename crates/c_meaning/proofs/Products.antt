-- The number of an array's elements, dimension by dimension.
use Rattle.std.proofs.Common.{◌≡◌, ◌∙◌, sym, ap, subst, ℕ, ◌+◌, ◌*◌, ◌<◌, ◌≤◌, ◌^◌, List, [], ◌∷◌, length, drop, mul_assoc, arith}
use Rattle.std.proofs.lemmas.List.{at_drop_more, drop_all}
use Rattle.std.specs.Prelude.{slice_index_or}
use Rattle.c_semantics.specs.Meaning.Programs.{product}
use Rattle.c_meaning.specs.Variables.{FitFrom}
use Rattle.c_meaning.proofs.Places.{head_fits}

-- the dimensions that are left go on from the count so far
pub record Counted (count : ℕ) (rest dims : List ℕ) : Type 0 where
  pub all : count * product rest ≡ product dims
  pub from : FitFrom count rest → FitFrom 1 dims
  pub to : FitFrom 1 dims → FitFrom count rest

pub count_start : (dims : List ℕ) → Counted 1 dims dims
count_start dims = record { all = omega arith; from = λ h. h; to = λ h. h }

module _ (dims : List ℕ) (i count d : ℕ) (within : i < length dims) (here : d ≡ slice_index_or dims i d) (so_far : Counted count (drop i dims) dims) where
  split : Counted count (d ∷ drop (i + 1) dims) dims
  split = subst (λ rest. Counted count rest dims) (at_drop_more (λ ds. ds) dims i d within ∙ ap (λ e. e ∷ drop (i + 1) dims) (sym here)) so_far

  pub count_more : count < 2 ^ 63 → Counted (count * d) (drop (i + 1) dims) dims
  count_more less = record {
    all = mul_assoc count d (product (drop (i + 1) dims)) ∙ split.all;
    from = λ h. split.from (less, h);
    to = λ h. (split.to h).1;
  }

  pub count_over : (count * d < 2 ^ 63 → ⊥) → FitFrom 1 dims → ⊥
  count_over over h = over (head_fits (count * d) (drop (i + 1) dims) (split.to h).1)

pub count_end : (dims : List ℕ) (i count : ℕ) → length dims ≤ i → Counted count (drop i dims) dims → Counted count [] dims
count_end dims i count h so_far = subst (λ rest. Counted count rest dims) (drop_all i dims h) so_far

pub ruleset products = (count_start, count_more, count_over, count_end)
