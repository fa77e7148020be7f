-- A directive over the parts in its body that has the loops that are asked for: it finds what it takes, and gives parts as
-- many and as deep as its depths say.
use Rattle.std.proofs.Common.{◌≡◌, refl, sym, ap, ◌∙◌, subst, ℕ, suc, ◌-◌, ◌≤◌, List, [], ◌∷◌, length, Option, Some, true, ◌⊎◌, arith}
use Rattle.std.specs.Prelude.{nat_le}
use Rattle.std.proofs.lemmas.Bool.{leb-true, le-leb, and_parts, and_from}
use Rattle.c_semantics.specs.Loops.Transformations as bare
use Rattle.c_semantics.specs.Loops.Transformations.{fuse, Plan}
use Rattle.c_semantics.specs.Loops.Need.{all_at_least, depths, loops_asked}
use Rattle.canonical_nests.specs.Kinds.{Part, plan_kinds}
use Rattle.canonical_nests.specs.LoopRules.BreachSets.{HasNone}
use Rattle.canonical_nests.specs.LoopRules.PlacedPlans.{PlacedPlan, PlacedItems, plan, forget_plan, forget_items}
use Rattle.canonical_nests.specs.LoopRules.Counts as counts
use Rattle.canonical_nests.specs.LoopRules.Structure.{ends_within}
use Rattle.nest_counts.specs.Plans.{Finds}
use Rattle.nest_counts.specs.Found.{ArgumentsFit, IsNoFuse, lengths_below, AllReach, HaveLoops}
use Rattle.nest_counts.proofs.Found.{may_at_top, rules_give_parts}
use Rattle.nest_counts.proofs.Asked.{asked_loops_suffice}
use Rattle.nest_counts.proofs.FusedDepths.{other_sequence}

-- ---- depths and parts

reach_from : (m : ℕ) (ps : List Part) → all_at_least m (lengths_below 0 ps) ≡ true → AllReach m ps
reach_from m [] h = tt
reach_from m (p ∷ ps) h =
    let q = and_parts (nat_le m (length p - 0)) (all_at_least m (lengths_below 0 ps)) h in
    (let l : m ≤ length p - 0 = leb-true m (length p - 0) q.0 in omega arith, reach_from m ps q.1)

reach_to : (m : ℕ) (ps : List Part) → AllReach m ps → all_at_least m (lengths_below 0 ps) ≡ true
reach_to m [] h = refl
reach_to m (p ∷ ps) h =
    let l : m ≤ length p = h.0 in
    and_from (nat_le m (length p - 0)) (all_at_least m (lengths_below 0 ps)) (le-leb m (length p - 0) (omega arith)) (reach_to m ps h.1)

length_lengths : (k : ℕ) (ps : List Part) → length (lengths_below k ps) ≡ length ps
length_lengths k [] = refl
length_lengths k (p ∷ ps) = ap (λ n. suc n) (length_lengths k ps)

have_loops : (m n : ℕ) (es : List ℕ) (ps : List Part) → es ≡ lengths_below 0 ps → length es ≡ n → all_at_least m es ≡ true → HaveLoops m n ps
have_loops m n es ps is many deep = (sym (length_lengths 0 ps) ∙ (ap length (sym is) ∙ many), reach_from m ps (ap (all_at_least m) (sym is) ∙ deep))

-- ---- what it finds, and the parts that it gives

abbrev pub FindsAndGives : Plan → ℕ → ℕ → List Part → Type 0
FindsAndGives p m n ps = Finds p 0 ps × HaveLoops m n (plan_kinds p 0 ps)

one_at : (p : PlacedPlan) (m k : ℕ) (es : List ℕ) (ps : List Part) → IsNoFuse (forget_plan p) → ArgumentsFit (forget_plan p) → depths (forget_plan p) (k ∷ []) ≡ Some es → all_at_least m es ≡ true
    → HaveLoops (loops_asked (forget_plan p) m) 1 ps → HasNone (counts.plan_breaches p 0 ps) → FindsAndGives (forget_plan p) m (length es) ps
one_at p m k es [] other fit e deep has none = absurd (let z : 0 ≡ 1 = has.0 in omega arith)
one_at p m k es (q ∷ r ∷ ps) other fit e deep has none = absurd (let z : length (q ∷ r ∷ ps) ≡ 1 = has.0 in omega arith)
one_at p m k es (q ∷ []) other fit e deep has none =
    let s = (asked_loops_suffice (forget_plan p) m k (length q) es other e deep).1 has.1.0 in
    let same : length q - 0 ≡ length q = omega arith in
    let g = rules_give_parts p (q ∷ []) s.0 fit (may_at_top p (q ∷ []) (omega arith)) (ap (λ n. depths (forget_plan p) (n ∷ [])) same ∙ s.1.0) none in
    (g.0, have_loops m (length es) s.0 (plan_kinds (forget_plan p) 0 (q ∷ [])) g.1 s.1.1.0 s.1.1.1)

-- a directive other than `fuse`
pub one_found : (p : PlacedPlan) (q : Plan) (m k : ℕ) (es : List ℕ) (ps : List Part) → forget_plan p ≡ q → IsNoFuse q → ArgumentsFit q → depths q (k ∷ []) ≡ Some es → all_at_least m es ≡ true
    → HaveLoops (loops_asked q m) 1 ps → HasNone (counts.plan_breaches p 0 ps) → FindsAndGives q m (length es) ps
one_found p q m k es ps is =
    subst (λ x. IsNoFuse x → ArgumentsFit x → depths x (k ∷ []) ≡ Some es → all_at_least m es ≡ true → HaveLoops (loops_asked x m) 1 ps → HasNone (counts.plan_breaches p 0 ps) → FindsAndGives x m (length es) ps)
    is (one_at p m k es ps)

all_at : (r : Option (ℕ × ℕ)) (at : ℕ) (w : PlacedItems) (m : ℕ) (ks es : List ℕ) (ps : List Part) → ArgumentsFit (bare.plan (fuse r) (forget_items w)) → ends_within (fuse r) (length ks) ≡ true
    → depths (bare.plan (fuse r) (forget_items w)) ks ≡ Some es → all_at_least m es ≡ true → (m ≤ 1) ⊎ (length es ≡ 1)
    → HaveLoops 1 (length ks) ps → HasNone (counts.plan_breaches (plan (fuse r) at w) 0 ps) → FindsAndGives (bare.plan (fuse r) (forget_items w)) m (length es) ps
all_at r at w m ks es ps fit ends e deep few has none =
    let s = other_sequence r (forget_items w) ks (lengths_below 0 ps) es fit.1 ends (length_lengths 0 ps ∙ has.0) (reach_to 1 ps has.1) e in
    let g = rules_give_parts (plan (fuse r) at w) ps s.0 fit refl s.1.0 none in
    (g.0, have_loops m (length es) s.0 (plan_kinds (bare.plan (fuse r) (forget_items w)) 0 ps) g.1 s.1.1.0 (s.1.1.1 m deep few))

-- `fuse`, over the parts of all members
pub all_found : (r : Option (ℕ × ℕ)) (at : ℕ) (w : PlacedItems) (q : Plan) (m : ℕ) (ks es : List ℕ) (ps : List Part) → forget_plan (plan (fuse r) at w) ≡ q → ArgumentsFit q → ends_within (fuse r) (length ks) ≡ true
    → depths q ks ≡ Some es → all_at_least m es ≡ true → (m ≤ 1) ⊎ (length es ≡ 1)
    → HaveLoops 1 (length ks) ps → HasNone (counts.plan_breaches (plan (fuse r) at w) 0 ps) → FindsAndGives q m (length es) ps
all_found r at w q m ks es ps is =
    subst (λ x. ArgumentsFit x → ends_within (fuse r) (length ks) ≡ true → depths x ks ≡ Some es → all_at_least m es ≡ true → (m ≤ 1) ⊎ (length es ≡ 1) → HaveLoops 1 (length ks) ps
    → HasNone (counts.plan_breaches (plan (fuse r) at w) 0 ps) → FindsAndGives x m (length es) ps)
    is (all_at r at w m ks es ps)
