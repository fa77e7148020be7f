-- The part at an item's position.
use Rattle.std.proofs.Common.{◌≡◌, ◌∙◌, sym, ap, refl, ◌<◌, ◌≤◌, ◌-◌, ℕ, zero, suc, List, [], ◌∷◌, length, get_or, Option, Some, None, arith}
use Rattle.std.specs.Prelude.{unwrap_or}
use Rattle.c_semantics.specs.Loops.Transformations as t
use Rattle.c_semantics.specs.Loops.Need.{depths, part_depths, below_depths}
use Rattle.canonical_nests.specs.LoopRules.PlacedPlans.{PlacedPlan, forget_plan}
use Rattle.canonical_nests.specs.LoopRules.Structure.{depth_at, after_item}
use Rattle.canonical_nests.specs.Plans.{part_of, loops_above}
use Rattle.canonical_nests.proofs.Applied.{position_is}

get_past : (ks : List ℕ) (i : ℕ) → length ks ≤ i → get_or ks i 0 ≡ 0
get_past [] i past = refl
get_past (k ∷ ks) zero past = absurd (omega (arith, past))
get_past (k ∷ ks) (suc i) past = get_past ks i (omega (arith, past))

less_none : (k : ℕ) → k ≡ k - 0
less_none k = omega arith

depth_is : (c : t.Transformation) (p : ℕ) (ks : List ℕ) → depth_at c p ks ≡ get_or ks (part_of c p) 0 - loops_above c p
depth_is (t.tile ss) p ks = refl
depth_is (t.interchange qs) p ks = refl
depth_is t.reverse_ p ks = refl
depth_is (t.split cs) p ks = less_none (get_or ks (p - 1) 0)
depth_is (t.fuse None) p ks = refl
depth_is (t.fuse (Some r)) p ks = refl
depth_is t.unroll_full p ks = refl
depth_is (t.unroll_partial k) p ks = refl

pub depth_within : (c : t.Transformation) (p : ℕ) (ks : List ℕ) (i j : ℕ) → i ≡ part_of c p → j ≡ loops_above c p → depth_at c p ks ≡ get_or ks i 0 - j
depth_within c p ks i j i_is j_is = depth_is c p ks ∙ (ap (λ n. get_or ks n 0 - loops_above c p) (sym i_is) ∙ ap (λ n. get_or ks i 0 - n) (sym j_is))

pub depth_past : (c : t.Transformation) (p : ℕ) (ks : List ℕ) (i : ℕ) → i ≡ part_of c p → length ks ≤ i → depth_at c p ks ≡ 0
depth_past c p ks i i_is past =
    depth_is c p ks ∙ (ap (λ n. get_or ks n 0 - loops_above c p) (sym i_is) ∙ (ap (λ n. n - loops_above c p) (get_past ks i past) ∙ omega arith))

pub after_is : (c : t.Transformation) (p : ℕ) (d : PlacedPlan) (ks : List ℕ) (i j : ℕ) → i ≡ part_of c p → j ≡ loops_above c p
    → after_item c p d ks ≡ unwrap_or (part_depths i (below_depths j (depths (forget_plan d))) ks) []
after_is c p d ks i j i_is j_is =
    ap (λ o. unwrap_or o []) (position_is c p (depths (forget_plan d)) ks
    ∙ (ap (λ n. part_depths n (below_depths (loops_above c p) (depths (forget_plan d))) ks) (sym i_is)
    ∙ ap (λ n. part_depths i (below_depths n (depths (forget_plan d))) ks) (sym j_is)))

pub ruleset positioned = (depth_within, depth_past, after_is)
