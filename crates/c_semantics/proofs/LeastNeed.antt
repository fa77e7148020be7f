-- The search for the need finds the least number that serves, or there is none.
use Rattle.std.proofs.Common.{◌≡◌, refl, sym, ◌∙◌, subst, ℕ, zero, suc, ◌+◌, ◌-◌, ◌≤◌, ◌<◌, ◌⊎◌, inl, inr, Option, Some, None, Bool, true, false, arith}
use Rattle.std.specs.Prelude.{if◌then◌else◌}
use Rattle.std.proofs.lemmas.Bool.{cases_lt, both_ways}
use Rattle.c_semantics.specs.Loops.Transformations.{fuse, Plan, plan}
use Rattle.c_semantics.specs.Loops.Need.{takes, serves, least_from, reach, need}
use Rattle.c_semantics.specs.Laws.LeastNeed.{IsNeed, LeastNeed}
use Rattle.c_semantics.proofs.Depths.{serves-suc}

module _ (p : Plan) (d : ℕ) where
  -- what was found among so many numbers from k on
  abbrev Found : ℕ → ℕ → Option ℕ → Type 0
  Found k m None = (i : ℕ) → k ≤ i → i < k + m → serves p d i ≡ false
  Found k m (Some j) = (k ≤ j) × (j < k + m) × (serves p d j ≡ true) × ((i : ℕ) → k ≤ i → i < j → serves p d i ≡ false)

  here_or_later : (k : ℕ) → serves p d k ≡ false → (i : ℕ) → k ≤ i → (suc k ≤ i → serves p d i ≡ false) → serves p d i ≡ false
  here_or_later k e i le h = by (cases_lt k i)
    where
      by : (k < i) ⊎ (i ≤ k) → serves p d i ≡ false
      by (inl lt) = h (omega (arith, lt))
      by (inr ge) = let same : k ≡ i = omega (arith, ge, le) in subst (λ z. serves p d z ≡ false) same e

  one_more : (k m : ℕ) → serves p d k ≡ false → (o : Option ℕ) → Found (suc k) m o → Found k (suc m) o
  one_more k m e None h = λ i le lt. here_or_later k e i le (λ gt. h i gt (omega (arith, lt)))
  one_more k m e (Some j) h =
      (omega (arith, h.0), omega (arith, h.1), h.2, λ i le lt. here_or_later k e i le (λ gt. h.3 i gt lt))

  found : (m k : ℕ) → Found k m (least_from p d k m)
  found zero k = λ i le lt. absurd (omega (arith, le, lt))
  found (suc m) k = by (serves p d k) refl (found m (suc k))
    where
      by : (b : Bool) → serves p d k ≡ b → Found (suc k) m (least_from p d (suc k) m) → Found k (suc m) (if b then Some k else least_from p d (suc k) m)
      by true e h = (omega arith, omega arith, e, λ i le lt. absurd (omega (arith, le, lt)))
      by false e h = one_more k m e (least_from p d (suc k) m) h

  -- beyond the reach and the wanted depth nothing new comes
  beyond : (x j : ℕ) → reach p ≤ x → d ≤ x → serves p d (x + j) ≡ serves p d x
  beyond x zero le le' = let e : x + zero ≡ x = omega arith in subst (λ z. serves p d z ≡ serves p d x) (sym e) refl
  beyond x (suc j) le le' =
      let e : x + suc j ≡ (x + j) + 1 = omega arith in
      subst (λ z. serves p d z ≡ serves p d x) (sym e) (serves-suc p d (x + j) (omega (arith, le)) (omega (arith, le')) ∙ beyond x j le le')

  all_false : (k : ℕ) → Found k (reach p + d + 1) None → (i : ℕ) → k ≤ i → serves p d i ≡ false
  all_false k h i le = by (cases_lt i (k + (reach p + d + 1)))
    where
      by : (i < k + (reach p + d + 1)) ⊎ (k + (reach p + d + 1) ≤ i) → serves p d i ≡ false
      by (inl lt) = h i le lt
      by (inr ge) =
          let x = k + (reach p + d) in
          let e : x + (i - x) ≡ i = omega (arith, ge) in
          subst (λ z. serves p d z ≡ false) e (beyond x (i - x) (omega arith) (omega arith) ∙ h x (omega arith) (omega arith))

pub least_need : LeastNeed
least_need (plan (fuse r) w) d = by (need (plan (fuse r) w) d) (found (plan (fuse r) w) d 1 1)
  where
    by : (o : Option ℕ) → Found (plan (fuse r) w) d 1 1 o → IsNeed (plan (fuse r) w) d o
    by None h = λ j e. h j (omega (arith, e)) (omega (arith, e))
    by (Some k) h = (omega (arith, h.0, h.1), h.2, λ j e s. omega (arith, e, h.0, h.1))
least_need (plan c w) d = by (need (plan c w) d) (found (plan c w) d (reach (plan c w) + d + 1) (takes c))
  where
    by : (o : Option ℕ) → Found (plan c w) d (takes c) (reach (plan c w) + d + 1) o → IsNeed (plan c w) d o
    by None h = all_false (plan c w) d (takes c) h
    by (Some k) h = (h.0, h.2, λ j le s. at_least j le s (cases_lt j k))
      where
        at_least : (j : ℕ) → takes c ≤ j → serves (plan c w) d j ≡ true → (j < k) ⊎ (k ≤ j) → k ≤ j
        at_least j le s (inl lt) = absurd (both_ways _ (h.3 j le lt) s)
        at_least j le s (inr ge) = ge
