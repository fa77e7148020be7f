-- The need, from the least number that serves.
use Rattle.std.proofs.Common.{◌≡◌, ◌∙◌, refl, sym, ap, ◌≤◌, ℕ, max, Option, Some, None, arith}
use Rattle.std.specs.Prelude.{if◌then◌else◌}
use Rattle.std.proofs.lemmas.Bool.{both_ways, leb-true, le-leb}
use Rattle.c_semantics.specs.Loops.Transformations.{Transformation, fuse, Plan, plan}
use Rattle.c_semantics.specs.Loops.Need.{takes, serves, need}
use Rattle.c_semantics.specs.Laws.LeastNeed.{IsNeed}
use Rattle.c_semantics.proofs.LeastNeed.{least_need}
use Rattle.canonical_nests.specs.LoopRules.PlacedPlans.{forget_plan}
use Rattle.canonical_nests.specs.Plans.{seen_transformation, seen_plan}
use Rattle.canonical_nests.specs.BodyDepths.{holds_from, least_tried_from}
use Rattle.canonical_nests.specs.declared.plan.Plan.{out-Plan}
use Rattle.canonical_nests.specs.declared.plan.Plan as code
use Rattle.canonical_nests.proofs.Planned.{seen_plan_out}

abbrev own : Plan → Transformation
own (plan c w) = c

least_is : (p : Plan) (wanted : ℕ) (least : Option ℕ) → ((k : ℕ) → holds_from least k ≡ serves p wanted k) → need p wanted ≡ least_tried_from (own p) least
least_is (plan (fuse r) w) wanted least from = sym (ap (λ b. if b then Some 1 else None) (from 1)) ∙ by least
  where
    by : (o : Option ℕ) → (if holds_from o 1 then Some 1 else None) ≡ least_tried_from (fuse r) o
    by None = refl
    by (Some n) = refl
least_is (plan c w) wanted least from = by (need (plan c w) wanted) (least_need (plan c w) wanted) least from
  where
    by : (o : Option ℕ) → IsNeed (plan c w) wanted o → (m : Option ℕ) → ((k : ℕ) → holds_from m k ≡ serves (plan c w) wanted k) → o ≡ least_tried_from c m
    by None none None f = refl
    by None none (Some m) f =
        absurd (both_ways _ (none (max (takes c) m) (omega arith)) (sym (f (max (takes c) m)) ∙ le-leb m (max (takes c) m) (omega arith)))
    by (Some n) is None f = absurd (both_ways _ (sym (f n)) is.1)
    by (Some n) is (Some m) f =
        let from_m : m ≤ n = leb-true m n (f n ∙ is.1) in
        let no_more : n ≤ max (takes c) m = is.2 (max (takes c) m) (omega arith) (sym (f (max (takes c) m)) ∙ le-leb m (max (takes c) m) (omega arith)) in
        let same : n ≡ max (takes c) m = omega (arith, is.0, from_m, no_more) in
        ap Some same

-- of a plan of the code
pub need_is : (p : code.Plan) (wanted : ℕ) (least n : Option ℕ) → ((k : ℕ) → holds_from least k ≡ serves (forget_plan (seen_plan p)) wanted k)
    → n ≡ least_tried_from (seen_transformation (out-Plan p).transformation) least → n ≡ need (forget_plan (seen_plan p)) wanted
need_is p wanted least n from is =
    is ∙ sym (least_is (forget_plan (seen_plan p)) wanted least from ∙ ap (λ q. least_tried_from (own (forget_plan q)) least) (seen_plan_out p))
