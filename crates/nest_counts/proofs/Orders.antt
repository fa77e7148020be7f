-- As many different numbers from 1 to n as n hold each of them.
use Rattle.std.proofs.Common.{◌≡◌, refl, sym, ap, ◌∙◌, ℕ, zero, suc, ◌+◌, ◌<◌, ◌≤◌, List, [], ◌∷◌, length, Bool, true, false, get_or, arith}
use Rattle.std.specs.Prelude.{◌==◌, ◌&&◌, ◌||◌, not, if◌then◌else◌}
use Rattle.std.specs.List.{AllByRecursion, IsDistinct, list_any}
use Rattle.std.proofs.Math.Dec.{eqb}
use Rattle.std.proofs.lemmas.Bool.{eqb-true, eq-eqb, ne_eqb, or_parts}
use Rattle.std.proofs.lemmas.Map.Keys.{IsDistinct-cons}
use Rattle.std.proofs.lemmas.Map.Steps.{length-le_from_distinct_below}
use Rattle.c_semantics.specs.Loops.Transformations.{place_of}
use Rattle.canonical_nests.specs.LoopRules.Clauses.{is_in, all_different}
use Rattle.nest_counts.specs.Laws.{PermutationsAreOrders}

both_true : (a b : Bool) → (not a && b) ≡ true → (a ≡ false) × (b ≡ true)
both_true true b h = absurd (cc)
both_true false b h = (refl, h)

in_at : (p : ℕ) (ps : List ℕ) → is_in p ps ≡ true → (place_of p ps < length ps) × (get_or ps (place_of p ps) 0 ≡ p)
in_at p [] h = absurd (cc)
in_at p (q ∷ ps) h = by (p == q) refl h (in_at p ps)
  where
    by : (b : Bool) → (p == q) ≡ b → (b || is_in p ps) ≡ true → (is_in p ps ≡ true → (place_of p ps < length ps) × (get_or ps (place_of p ps) 0 ≡ p))
        → ((if b then 0 else place_of p ps + 1) < suc (length ps)) × (get_or (q ∷ ps) (if b then 0 else place_of p ps + 1) 0 ≡ p)
    by true e h rest = (omega arith, sym (eqb-true p q e))
    by false e h rest =
        let r = rest h in
        (let l : place_of p ps < length ps = r.0 in omega arith, ap (λ i. get_or (q ∷ ps) i 0) (let s : place_of p ps + 1 ≡ suc (place_of p ps) = omega arith in s) ∙ r.1)

at_in : (ps : List ℕ) (j : ℕ) → j < length ps → is_in (get_or ps j 0) ps ≡ true
at_in [] j l = absurd (omega arith)
at_in (q ∷ ps) zero l = ap (λ b. b || is_in q ps) (eq-eqb q q refl)
at_in (q ∷ ps) (suc j) l = by (get_or ps j 0 == q) (at_in ps j (omega arith))
  where
    by : (b : Bool) → is_in (get_or ps j 0) ps ≡ true → (b || is_in (get_or ps j 0) ps) ≡ true
    by true h = refl
    by false h = h

once : (ps : List ℕ) → all_different ps ≡ true → (j : ℕ) → j < length ps → place_of (get_or ps j 0) ps ≡ j
once [] d j l = absurd (omega arith)
once (q ∷ ps) d zero l = ap (λ b. if b then 0 else place_of q ps + 1) (eq-eqb q q refl)
once (q ∷ ps) d (suc j) l =
    let h = both_true (is_in q ps) (all_different ps) d in
    let other : (get_or ps j 0 ≡ q) → ⊥ = λ e. absurd (let a : is_in q ps ≡ true = ap (λ x. is_in x ps) (sym e) ∙ at_in ps j (omega arith) in let b : is_in q ps ≡ false = h.0 in cc) in
    ap (λ b. if b then 0 else place_of (get_or ps j 0) ps + 1) (ne_eqb (get_or ps j 0) q other) ∙ (let e : place_of (get_or ps j 0) ps ≡ j = once ps h.1 j (omega arith) in omega arith)

none_in : (q : ℕ) (ps : List ℕ) → is_in q ps ≡ false → AllByRecursion (λ y. eqb q y ≡ false) ps
none_in q [] h = tt
none_in q (p ∷ ps) h = let w = or_parts (q == p) (is_in q ps) h in (w.0, none_in q ps w.1)

nothing_distinct : IsDistinct eqb []
unfolding IsDistinct
nothing_distinct = tt

distinct : (ps : List ℕ) → all_different ps ≡ true → IsDistinct eqb ps
distinct [] d = nothing_distinct
distinct (q ∷ ps) d = let h = both_true (is_in q ps) (all_different ps) d in IsDistinct-cons eqb q ps (none_in q ps h.0) (distinct ps h.1)

pub permutations_are_orders : PermutationsAreOrders
permutations_are_orders ps some different within = record { some = some; within = within; once = once ps different; found = λ p low high. in_at p ps (each p low high) }
  where
    bounds : (q : ℕ) → is_in q ps ≡ true → (0 < q) × (q < length ps + 1)
    bounds q h =
        let a = in_at q ps h in
        let w = within (place_of q ps) a.0 in
        let is : get_or ps (place_of q ps) 0 ≡ q = a.1 in
        (let l : 0 < get_or ps (place_of q ps) 0 = w.0 in omega arith, let l : get_or ps (place_of q ps) 0 ≤ length ps = w.1 in omega arith)

    each : (p : ℕ) → 0 < p → p ≤ length ps → is_in p ps ≡ true
    each p low high = by (is_in p ps) refl
      where
        none : is_in 0 ps ≡ false
        none = zero_out (is_in 0 ps) refl
          where
            zero_out : (b : Bool) → is_in 0 ps ≡ b → b ≡ false
            zero_out true e = absurd (let w = bounds 0 e in let l : 0 < 0 = w.0 in omega arith)
            zero_out false e = refl

        by : (b : Bool) → is_in p ps ≡ b → b ≡ true
        by true e = refl
        by false e =
            let first : list_any (eqb 0) (p ∷ ps) ≡ false = ap (λ b. b || is_in 0 ps) (ne_eqb 0 p (λ s. absurd (omega arith))) ∙ none in
            let many : length (0 ∷ p ∷ ps) ≤ length ps + 1 = length-le_from_distinct_below (0 ∷ p ∷ ps) (length ps + 1) (IsDistinct-cons eqb 0 (p ∷ ps) (none_in 0 (p ∷ ps) first) (IsDistinct-cons eqb p ps (none_in p ps e) (distinct ps different))) below in
            absurd (omega arith)
          where
            below : (q : ℕ) → list_any (eqb q) (0 ∷ p ∷ ps) ≡ true → q < length ps + 1
            below q h = first (q == 0) (q == p) refl refl h
              where
                first : (a b : Bool) → (q == 0) ≡ a → (q == p) ≡ b → (a || (b || is_in q ps)) ≡ true → q < length ps + 1
                first true b x y h = let s : q ≡ 0 = eqb-true q 0 x in omega arith
                first false true x y h = let s : q ≡ p = eqb-true q p y in omega arith
                first false false x y h = (bounds q h).1
