-- The loops that a directive asks for suffice: over as many it gives parts as deep as those that are wanted.
use Rattle.std.proofs.Common.{◌≡◌, refl, sym, ap, ◌∙◌, subst, ℕ, suc, ◌-◌, ◌≤◌, List, [], ◌∷◌, length, Option, Some, None, true, false, arith}
use Rattle.std.specs.Prelude.{nat_le, unwrap_or}
use Rattle.std.proofs.lemmas.Bool.{leb-true, and_parts}
use Rattle.c_semantics.specs.Laws.LeastNeed.{IsTried, IsNeed}
use Rattle.c_semantics.specs.Loops.Transformations.{Transformation, tile, interchange, reverse_, split, fuse, unroll_full, unroll_partial, Plan, plan, Applied}
use Rattle.c_semantics.specs.Loops.Need.{takes, transformed_depths, all_at_least, depths, applied_depths, each_at_least, serves, need, loops_asked}
use Rattle.c_semantics.proofs.LeastNeed.{least_need}
use Rattle.canonical_nests.specs.LoopRules.PlacedPlans.{forget_plan}
use Rattle.nest_counts.specs.Found.{IsNoFuse, EachAtMost}
use Rattle.nest_counts.specs.Laws.{AskedLoopsSuffice, DirectivesFindAsked}
use Rattle.nest_counts.proofs.Found.{enough_loops, rules_find_loops}
use Rattle.nest_counts.proofs.Deeper.{all_least, depths_deeper}

each_length : (ks ls : List ℕ) → EachAtMost ks ls → length ks ≡ length ls
each_length [] [] h = refl
each_length [] (l ∷ ls) h = absurd h
each_length (k ∷ ks) [] h = absurd h
each_length (k ∷ ks) (l ∷ ls) h = ap (λ n. suc n) (each_length ks ls h.1)

tried : (c : Transformation) (w : Applied) (k : ℕ) → IsNoFuse (plan c w) → takes c ≤ k → IsTried c k
tried (fuse r) w k other l = absurd other
tried (tile ss) w k other l = l
tried (interchange ps) w k other l = l
tried reverse_ w k other l = l
tried (split cs) w k other l = l
tried unroll_full w k other l = l
tried (unroll_partial f) w k other l = l

-- the number that is asked for is one that serves, and no more than another that does
asked : (c : Transformation) (w : Applied) (m k : ℕ) → IsTried c k → serves (plan c w) m k ≡ true → (loops_asked (plan c w) m ≤ k) × (serves (plan c w) m (loops_asked (plan c w) m) ≡ true)
asked c w m k t s = by (need (plan c w) m) refl (least_need (plan c w) m)
  where
    by : (o : Option ℕ) → need (plan c w) m ≡ o → IsNeed (plan c w) m o → (loops_asked (plan c w) m ≤ k) × (serves (plan c w) m (loops_asked (plan c w) m) ≡ true)
    by None e h = absurd (let none : serves (plan c w) m k ≡ false = h k t in cc)
    by (Some n) e h =
        let is : n ≡ loops_asked (plan c w) m = sym (ap (λ o. unwrap_or o (takes c)) e) in
        (subst (λ a. a ≤ k) is (h.2 k t s), subst (λ a. serves (plan c w) m a ≡ true) is h.1)

-- parts as many and as deep as wanted
served : (p : Plan) (m n : ℕ) → serves p m n ≡ true → (fs : List ℕ) × ((depths p (n ∷ []) ≡ Some fs) × (all_at_least m fs ≡ true))
served p m n s = by (depths p (n ∷ [])) refl s
  where
    by : (o : Option (List ℕ)) → depths p (n ∷ []) ≡ o → each_at_least m o ≡ true → (fs : List ℕ) × ((depths p (n ∷ []) ≡ Some fs) × (all_at_least m fs ≡ true))
    by None e s = absurd (cc)
    by (Some fs) e s = (fs, (e, s))

pub asked_loops_suffice : AskedLoopsSuffice
asked_loops_suffice (plan c w) m k l es other e deep =
    let q = enough_loops c (k ∷ []) (applied_depths c w (transformed_depths c (k ∷ []))) es e in
    let enough : takes c ≤ k = leb-true (takes c) k (and_parts (nat_le (takes c) k) true q.0).0 in
    let s : serves (plan c w) m k ≡ true = ap (each_at_least m) e ∙ deep in
    let n : ℕ = loops_asked (plan c w) m in
    let a = asked c w m k (tried c w k other enough) s in
    (a.0, (λ le. over n a.0 (served (plan c w) m n a.1) le))
  where
    over : (n : ℕ) → n ≤ k → (fs : List ℕ) × ((depths (plan c w) (n ∷ []) ≡ Some fs) × (all_at_least m fs ≡ true)) → n ≤ l
        → (gs : List ℕ) × ((depths (plan c w) (l ∷ []) ≡ Some gs) × ((length gs ≡ length es) × (all_at_least m gs ≡ true)))
    over n le f le' =
        let d = depths_deeper (plan c w) (n ∷ []) (l ∷ []) f.0 (le', tt) f.1.0 in
        let d' = depths_deeper (plan c w) (n ∷ []) (k ∷ []) f.0 (le, tt) f.1.0 in
        let same : d'.0 ≡ es = let g : Some d'.0 ≡ Some es = sym d'.1.0 ∙ e in cc in
        (d.0, (d.1.0, (sym (each_length f.0 d.0 d.1.1) ∙ (each_length f.0 d'.0 d'.1.1 ∙ ap length same), all_least m f.0 d.0 d.1.1 f.1.1)))

pub directives_find_asked : DirectivesFindAsked
directives_find_asked p m k es ks other fit e deep le none =
    let s = (asked_loops_suffice (forget_plan p) m k (length ks) es other e deep).1 le in
    let same : length ks - 0 ≡ length ks = omega arith in
    rules_find_loops p (ks ∷ []) s.0 fit (omega arith) (ap (λ n. depths (forget_plan p) (n ∷ [])) same ∙ s.1.0) none
