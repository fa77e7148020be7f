-- Each directive of a statement that breaks no rule of clauses, structure and counts finds what it takes, and each part of
-- it has the loops that are wanted, by induction along the statement.
use Rattle.std.proofs.Common.{◌≡◌, refl, ap, ◌∙◌, subst, ℕ, zero, suc, ◌<◌, ◌≤◌, List, [], ◌∷◌, ◌++◌, length, Option, Some, None, true, ◌⊎◌, inl, inr, arith, length-append}
use Rattle.std.specs.Prelude.{nat_le}
use Rattle.std.proofs.lemmas.Bool.{leb-true, le-leb, and_parts, and_from}
use Rattle.c_tree.specs.Bare as b
use Rattle.c_tree.specs.Placed.{Stmt, for_, block, omp, Stmts, no_stmts, more_stmts, head}
use Rattle.c_tree.specs.Forget.{forget_stmt, forget_stmts, forget_directive, forget_maybe}
use Rattle.c_tree.specs.WellFormed.{WellFormedStmt, WellFormedStmts}
use Rattle.c_semantics.specs.Meaning.State.{State}
use Rattle.c_semantics.specs.Meaning.Expressions.{Define}
use Rattle.c_semantics.specs.Loops.Directives.{plan_of}
use Rattle.c_semantics.specs.Loops.Need.{all_at_least, loops_asked}
use Rattle.c_semantics.specs.Loops.StatementDepths.{joined, stmt_depths, single_depths, member_depths, body_depth}
use Rattle.c_semantics.specs.Structure.Skeleton.{scope_in}
use Rattle.canonical_nests.specs.Kinds.{Part}
use Rattle.canonical_nests.specs.Shapes.{below_source, stmt_kinds, single_kinds, member_kinds}
use Rattle.canonical_nests.specs.LoopRules.BreachSets.{BreachSet, ◌&◌, HasNone}
use Rattle.canonical_nests.specs.LoopRules.Structure as structure
use Rattle.canonical_nests.specs.LoopRules.Counts as counts
use Rattle.canonical_nests.specs.LoopRules.Programs.{taken_clauses_in}
use Rattle.canonical_nests.proofs.BreachSets.{neither_breaks}
use Rattle.nest_counts.specs.Found.{HaveLoops}
use Rattle.nest_counts.specs.Statements.{SingleFinds}
use Rattle.nest_counts.specs.Admitted.{rule_breaches}
use Rattle.nest_counts.proofs.Found.{append_reach}
use Rattle.nest_counts.proofs.FusedDepths.{all_parts}
use Rattle.nest_counts.proofs.Places.{length_kinds}
use Rattle.nest_counts.proofs.DirectivesFind.{StmtHas, SingleHas, MembersHave, directive_has}

-- of the same rules, in a list
abbrev pub list_breaches : List Define → State → ℕ → Stmts → BreachSet
list_breaches ds scope m a = taken_clauses_in ds m a & (structure.stmts_breaches ds m a & counts.stmts_breaches ds scope m a)

-- ---- parts

below_deep : (m : ℕ) (ps : List Part) → HaveLoops m 1 ps → m ≤ length (below_source ps)
below_deep m [] h = absurd (let z : 0 ≡ 1 = h.0 in omega arith)
below_deep m (p ∷ []) h =
    let same : length (below_source (p ∷ [])) ≡ length p = length_kinds _ p in
    let l : m ≤ length p = h.1.0 in
    omega arith
below_deep m (p ∷ q ∷ ps) h = absurd (let z : length (p ∷ q ∷ ps) ≡ 1 = h.0 in omega arith)

loops_append : (m : ℕ) (es fs : List ℕ) (ps qs : List Part) → HaveLoops m (length es) ps → HaveLoops m (length fs) qs → HaveLoops m (length (es ++ fs)) (ps ++ qs)
loops_append m es fs ps qs h g =
    let many : length ps ≡ length es = h.0 in
    let more : length qs ≡ length fs = g.0 in
    (omega (arith, length-append ps qs, length-append es fs), append_reach m ps qs h.1 g.1)

-- a loop of whose body some are wanted has one part there
body_one : (o : Option (List ℕ)) → 0 < body_depth o → o ≡ Some (body_depth o ∷ [])
body_one None l = absurd (omega arith)
body_one (Some []) l = absurd (omega arith)
body_one (Some (k ∷ [])) l = refl
body_one (Some (k ∷ j ∷ ks)) l = absurd (omega arith)

first_deep : (m k : ℕ) (es : List ℕ) → k ∷ [] ≡ es → all_at_least m es ≡ true → m ≤ k
first_deep m k es is deep = leb-true m k (and_parts (nat_le m k) true (ap (all_at_least m) is ∙ deep)).0

pub one_deep : (m k : ℕ) → m ≤ k → all_at_least m (k ∷ []) ≡ true
one_deep m k l = and_from (nat_le m k) true (le-leb m k l) refl

joined_parts : (o r : Option (List ℕ)) (ks : List ℕ) → joined o r ≡ Some ks → (es : List ℕ) × ((fs : List ℕ) × ((o ≡ Some es) × ((r ≡ Some fs) × (es ++ fs ≡ ks))))
joined_parts None r ks e = absurd (cc)
joined_parts (Some es) None ks e = absurd (cc)
joined_parts (Some es) (Some fs) ks e = (es, (fs, (refl, (refl, (let s : es ++ fs ≡ ks = cc in s)))))

-- ---- statements

module _ (ds : List Define) (s : State) where
  none_sought : (scope : State) (a : b.Stmts) → SingleFinds ds s scope 0 a
  none_sought scope b.no_stmts = tt
  none_sought scope (b.more_stmts x b.no_stmts) = tt
  none_sought scope (b.more_stmts x (b.more_stmts y as')) = tt

  mutual
    pub stmt_has : (scope : State) (m : ℕ) (a : Stmt) (es : List ℕ) → WellFormedStmt (forget_stmt a) → HasNone (rule_breaches ds scope m a) → 0 < m → stmt_depths ds (forget_stmt a) ≡ Some es
        → all_at_least m es ≡ true → (m ≤ 1) ⊎ (length es ≡ 1) → StmtHas ds s scope m a es
    stmt_has scope zero a es formed none some e deep few = absurd (omega arith)
    stmt_has scope (suc zero) (for_ (head i i_at o o_at next next_at) a span) es formed none some e deep few =
        let is : suc (body_depth (single_depths ds (forget_stmts a))) ∷ [] ≡ es = cc in
        ((λ alike. (alike.0, none_sought (scope_in (forget_maybe i) scope) (forget_stmts a))), (ap length is, (omega arith, tt)))
    stmt_has scope (suc (suc m)) (for_ (head i i_at o o_at next next_at) a span) es formed none some e deep few =
        let k : ℕ = body_depth (single_depths ds (forget_stmts a)) in
        let is : suc k ∷ [] ≡ es = cc in
        let enough : suc (suc m) ≤ suc k = first_deep (suc (suc m)) (suc k) es is deep in
        let r = single_has (scope_in (forget_maybe i) scope) (suc m) a (k ∷ []) formed.1 none (omega arith) (body_one (single_depths ds (forget_stmts a)) (omega arith)) (one_deep (suc m) k (omega arith)) (inr refl) in
        let below : suc m ≤ length (below_source (single_kinds ds (scope_in (forget_maybe i) scope) (suc m) (forget_stmts a))) = below_deep (suc m) (single_kinds ds (scope_in (forget_maybe i) scope) (suc m) (forget_stmts a)) r.1 in
        ((λ alike. (alike.0, r.0 alike.1)), (ap length is, (omega arith, tt)))
    stmt_has scope (suc m) (block a span) es formed none some e deep few = single_has scope (suc m) a es formed none some e deep few
    stmt_has scope (suc m) (omp d a span) es formed none some e deep few =
        let n : ℕ = loops_asked (plan_of ds (forget_directive d)) (suc m) in
        let q = neither_breaks (structure.stmts_breaches ds n a) (structure.body_breaches ds d a) none.1.0 in
        directive_has ds s scope (suc m) d a es
        (record { formed = formed.0; clauses = none.0.0; inner = q.0; body = q.1; counts = none.1.1.0 })
        (λ k l f g. single_has scope n a (k ∷ []) formed.1 (none.0.1, (q.0, none.1.1.1)) l f (one_deep n k g) (inr refl))
        (λ ks one f g. members_have scope n a ks formed.1 (none.0.1, (q.0, none.1.1.1)) one f g)
        e deep few
    stmt_has scope (suc m) a es formed none some e deep few = absurd (cc)

    pub single_has : (scope : State) (m : ℕ) (a : Stmts) (es : List ℕ) → WellFormedStmts (forget_stmts a) → HasNone (list_breaches ds scope m a) → 0 < m → single_depths ds (forget_stmts a) ≡ Some es
        → all_at_least m es ≡ true → (m ≤ 1) ⊎ (length es ≡ 1) → SingleHas ds s scope m a es
    single_has scope m no_stmts es formed none some e deep few = absurd (cc)
    single_has scope m (more_stmts a no_stmts) es formed none some e deep few =
        let r = stmt_has scope m a es formed.0 (none.0.0, (none.1.0.0, none.1.1.0)) some e deep few in
        ((λ alike. r.0 alike.0), r.1)
    single_has scope m (more_stmts a (more_stmts c as')) es formed none some e deep few = absurd (cc)

    -- of each member one loop is wanted
    pub members_have : (scope : State) (m : ℕ) (a : Stmts) (ks : List ℕ) → WellFormedStmts (forget_stmts a) → HasNone (list_breaches ds scope m a) → m ≡ 1 → member_depths ds (forget_stmts a) ≡ Some ks
        → all_at_least m ks ≡ true → MembersHave ds s scope m a ks
    members_have scope m no_stmts ks formed none one e deep =
        let is : [] ≡ ks = cc in ((λ alike. tt), (ap length is, tt))
    members_have scope zero (more_stmts a as') ks formed none one e deep = absurd (omega arith)
    members_have scope (suc m) (more_stmts (block a span) no_stmts) ks formed none one e deep =
        let r = members_have scope (suc m) a ks formed.0 (none.0.0, (none.1.0.0, none.1.1.0)) one e deep in
        ((λ alike. r.0 alike.0), r.1)
    members_have scope (suc m) (more_stmts (block a span) (more_stmts c as')) ks formed none one e deep = absurd (cc)
    members_have scope (suc m) (more_stmts (for_ h a span) as') ks formed none one e deep =
        let p = joined_parts (stmt_depths ds (forget_stmt (for_ h a span))) (member_depths ds (forget_stmts as')) ks e in
        let both = all_parts (suc m) p.0 p.1.0 (ap (all_at_least (suc m)) p.1.1.1.1 ∙ deep) in
        let x = stmt_has scope (suc m) (for_ h a span) p.0 formed.0 (none.0.0, (none.1.0.0, none.1.1.0)) (omega arith) p.1.1.0 both.0 (inl (omega arith)) in
        let y = members_have scope (suc m) as' p.1.0 formed.1 (none.0.1, (none.1.0.1, none.1.1.1)) one p.1.1.1.0 both.1 in
        subst (MembersHave ds s scope (suc m) (more_stmts (for_ h a span) as')) p.1.1.1.1
        ((λ alike. (tt, x.0 alike.0, y.0 alike.1)), loops_append (suc m) p.0 p.1.0 (stmt_kinds ds scope (suc m) (forget_stmt (for_ h a span))) (member_kinds ds scope (suc m) (forget_stmts as')) x.1 y.1)
    members_have scope (suc m) (more_stmts (omp d a span) as') ks formed none one e deep =
        let p = joined_parts (stmt_depths ds (forget_stmt (omp d a span))) (member_depths ds (forget_stmts as')) ks e in
        let both = all_parts (suc m) p.0 p.1.0 (ap (all_at_least (suc m)) p.1.1.1.1 ∙ deep) in
        let x = stmt_has scope (suc m) (omp d a span) p.0 formed.0 (none.0.0, (none.1.0.0, none.1.1.0)) (omega arith) p.1.1.0 both.0 (inl (omega arith)) in
        let y = members_have scope (suc m) as' p.1.0 formed.1 (none.0.1, (none.1.0.1, none.1.1.1)) one p.1.1.1.0 both.1 in
        subst (MembersHave ds s scope (suc m) (more_stmts (omp d a span) as')) p.1.1.1.1
        ((λ alike. (tt, x.0 alike.0, y.0 alike.1)), loops_append (suc m) p.0 p.1.0 (stmt_kinds ds scope (suc m) (forget_stmt (omp d a span))) (member_kinds ds scope (suc m) (forget_stmts as')) x.1 y.1)
    members_have scope (suc m) (more_stmts a as') ks formed none one e deep = absurd (cc)
