-- A directive and its items find enough loops where they break no rule of structure.
use Rattle.std.proofs.Common.{◌≡◌, refl, ap, ◌∙◌, subst, ℕ, zero, suc, ◌-◌, ◌<◌, ◌≤◌, List, [], ◌∷◌, ◌++◌, length, Option, Some, None, true, false, get_or, arith}
use Rattle.std.specs.Prelude.{◌==◌, not, nat_le, nat_lt, unwrap_or, if◌then◌else◌}
use Rattle.std.specs.List.{list_any}
use Rattle.std.proofs.lemmas.Bool.{ltb-false, le-leb, or_parts, and_from, eq-eqb}
use Rattle.c_semantics.specs.Loops.Transformations.{Transformation, tile, interchange, reverse_, split, fuse, unroll_full, unroll_partial}
use Rattle.c_semantics.specs.Loops.Transformations as bare
use Rattle.c_semantics.specs.Loops.Need.{takes, transformed_depths, all_at_least, if_some, nested_depths, part_depths, below_depths, position_depths, depths, applied_depths}
use Rattle.canonical_nests.specs.declared.rules.LoopRule.TheVariants.{L7, L19, L22}
use Rattle.canonical_nests.specs.LoopRules.BreachSets.{◌&◌, HasNone, breach_if}
use Rattle.canonical_nests.specs.LoopRules.PlacedPlans.{PlacedPlan, plan, PlacedItems, none_applied, applied_at, forget_plan, forget_items}
use Rattle.canonical_nests.specs.LoopRules.Structure as structure
use Rattle.canonical_nests.specs.LoopRules.Structure.{depth_breaches, depth_at, after_item, ends_within, sequence_breaches}
use Rattle.nest_counts.specs.Laws.{StructureFindsLoops}
use Rattle.canonical_nests.proofs.BreachSets.{neither_breaks, none_if, none_unless}

-- ---- depths

depth_found : (c : Transformation) (at k : ℕ) → HasNone (depth_breaches c at k) → (0 < k) × (takes c ≤ k)
depth_found c at zero h = absurd h
depth_found c at (suc k) h = (omega arith, ltb-false (suc k) (takes c) (none_if (nat_lt (suc k) (takes c)) L7 at h))

at_some : (i j : ℕ) (f : List ℕ → Option (List ℕ)) (ks bs : List ℕ) → 0 < get_or ks i 0 - j → f ((get_or ks i 0 - j) ∷ []) ≡ Some bs → (ls : List ℕ) × (part_depths i (below_depths j f) ks ≡ Some ls)
at_some zero j f [] bs l e = absurd (omega arith)
at_some (suc i) j f [] bs l e = absurd (omega arith)
at_some zero j f (k ∷ ks) bs l e = (
  nested_depths j bs ++ ks,
  ap (λ x. if_some (if x then if_some (f ((k - j) ∷ [])) (λ cs. Some (nested_depths j cs)) else None) (λ cs. Some (cs ++ ks))) (le-leb j k (omega arith))
      ∙ ap (λ o. if_some (if_some o (λ cs. Some (nested_depths j cs))) (λ cs. Some (cs ++ ks))) e,
)
at_some (suc i) j f (k ∷ ks) bs l e = let r = at_some i j f ks bs l e in (k ∷ r.0, ap (λ o. if_some o (λ cs. Some (k ∷ cs))) r.1)

position_some : (c : Transformation) (p : ℕ) (f : List ℕ → Option (List ℕ)) (ks bs : List ℕ) → 0 < depth_at c p ks → f (depth_at c p ks ∷ []) ≡ Some bs → (ls : List ℕ) × (position_depths c p f ks ≡ Some ls)
position_some (split cs) p f ks bs l e =
    let same : get_or ks (p - 1) 0 ≡ get_or ks (p - 1) 0 - 0 = omega arith in
    at_some (p - 1) 0 f ks bs (omega arith) (subst (λ k. f (k ∷ []) ≡ Some bs) same e)
position_some (fuse (Some r)) p f ks bs l e = at_some (r.0 - 1) (p - 1) f ks bs l e
position_some (fuse None) p f ks bs l e = at_some 0 (p - 1) f ks bs l e
position_some (tile ss) p f ks bs l e = at_some 0 (p - 1) f ks bs l e
position_some (interchange qs) p f ks bs l e = at_some 0 (p - 1) f ks bs l e
position_some reverse_ p f ks bs l e = at_some 0 (p - 1) f ks bs l e
position_some unroll_full p f ks bs l e = at_some 0 (p - 1) f ks bs l e
position_some (unroll_partial s) p f ks bs l e = at_some 0 (p - 1) f ks bs l e

-- ---- directives and items

pub some_deep : (p : PlacedPlan) (k : ℕ) → HasNone (structure.plan_breaches p k) → 0 < k
some_deep (plan c at w) k h = (depth_found c at k (neither_breaks (depth_breaches c at k) (structure.items_breaches c w (transformed_depths c (k ∷ []))) h).0).0

mutual
  pub plan_some : (p : PlacedPlan) (k : ℕ) → HasNone (structure.plan_breaches p k) → (es : List ℕ) × (depths (forget_plan p) (k ∷ []) ≡ Some es)
  plan_some (plan c at w) k h =
      let q = neither_breaks (depth_breaches c at k) (structure.items_breaches c w (transformed_depths c (k ∷ []))) h in
      let r = items_some c w (transformed_depths c (k ∷ [])) q.1 in (
        r.0,
        ap (λ x. if x then applied_depths c (forget_items w) (transformed_depths c (k ∷ [])) else None)
            (and_from (nat_le (takes c) k) true (le-leb (takes c) k (depth_found c at k q.0).1) refl)
            ∙ r.1,
      )

  pub items_some : (c : Transformation) (w : PlacedItems) (ks : List ℕ) → HasNone (structure.items_breaches c w ks) → (es : List ℕ) × (applied_depths c (forget_items w) ks ≡ Some es)
  items_some c none_applied ks h = (ks, refl)
  items_some c (applied_at p d w) ks h =
      let q = neither_breaks (structure.plan_breaches d (depth_at c p ks)) (structure.items_breaches c w (after_item c p d ks)) h in
      let a = plan_some d (depth_at c p ks) q.0 in
      let s = position_some c p (depths (forget_plan d)) ks a.0 (some_deep d (depth_at c p ks) q.0) a.1 in
      let same : after_item c p d ks ≡ s.0 = ap (λ o. unwrap_or o []) s.1 in
      let r = items_some c w s.0 (subst (λ z. HasNone (structure.items_breaches c w z)) same q.1) in
      (r.0, ap (λ o. if_some o (applied_depths c (forget_items w))) s.1 ∙ r.1)

-- ---- `fuse`

none_empty : (ks : List ℕ) → list_any (λ k. k == 0) ks ≡ false → all_at_least 1 ks ≡ true
none_empty [] e = refl
none_empty (zero ∷ ks) e = absurd (let q = or_parts (0 == 0) (list_any (λ k. k == 0) ks) e in let z : (0 == 0) ≡ false = q.0 in let y : (0 == 0) ≡ true = eq-eqb 0 0 refl in cc)
none_empty (suc k ∷ ks) e = and_from (nat_le 1 (suc k)) (all_at_least 1 ks) (le-leb 1 (suc k) (omega arith)) (none_empty ks (or_parts (suc k == 0) (list_any (λ k. k == 0) ks) e).1)

pub sequence_some : (r : Option (ℕ × ℕ)) (at range : ℕ) (w : PlacedItems) (ks : List ℕ) → HasNone (sequence_breaches (plan (fuse r) at w) range ks)
    → (es : List ℕ) × (depths (bare.plan (fuse r) (forget_items w)) ks ≡ Some es)
sequence_some r at range w ks h =
    let q = neither_breaks (breach_if (list_any (λ k. k == 0) ks) L22 at & breach_if (not (ends_within (fuse r) (length ks))) L19 range) (structure.items_breaches (fuse r) w (transformed_depths (fuse r) ks)) h in
    let s = items_some (fuse r) w (transformed_depths (fuse r) ks) q.1 in
    (s.0, ap (λ x. if x then applied_depths (fuse r) (forget_items w) (transformed_depths (fuse r) ks) else None) (none_empty ks (none_if (list_any (λ k. k == 0) ks) L22 at q.0.0)) ∙ s.1)

pub sequence_ends : (r : Option (ℕ × ℕ)) (at range : ℕ) (w : PlacedItems) (ks : List ℕ) → HasNone (sequence_breaches (plan (fuse r) at w) range ks) → ends_within (fuse r) (length ks) ≡ true
sequence_ends r at range w ks h =
    let q = neither_breaks (breach_if (list_any (λ k. k == 0) ks) L22 at & breach_if (not (ends_within (fuse r) (length ks))) L19 range) (structure.items_breaches (fuse r) w (transformed_depths (fuse r) ks)) h in
    none_unless (ends_within (fuse r) (length ks)) L19 range q.0.1

pub structure_finds_loops : StructureFindsLoops
structure_finds_loops p k h = plan_some p k h
