-- An admitted construct: what its directives find, and the kinds of the trees that it runs.
use Rattle.std.proofs.Common.{◌≡◌, refl, subst, ℕ, List, [], ◌∷◌, length, true, inl, inr, get_or, arith}
use Rattle.std.specs.Prelude.{nat_le}
use Rattle.std.proofs.lemmas.Bool.{le-leb, and_from}
use Rattle.c_tree.specs.Forget.{forget_stmts, forget_directive}
use Rattle.c_semantics.specs.Meaning.State.{nowhere}
use Rattle.c_semantics.specs.Loops.IterationTrees.{Tree, nth, widths, pick, build}
use Rattle.c_semantics.specs.Loops.Transformations.{Transformation, tile, interchange, reverse_, split, fuse, unroll_full, unroll_partial, plan, Applied}
use Rattle.c_semantics.specs.Loops.Directives.{plan_of}
use Rattle.c_semantics.specs.Loops.Need.{takes, all_at_least, loops_asked}
use Rattle.canonical_nests.specs.Kinds.{Part, no_part}
use Rattle.canonical_nests.specs.LoopRules.BreachSets.{or_else}
use Rattle.canonical_nests.specs.LoopRules.Structure as structure
use Rattle.canonical_nests.specs.LoopRules.Heads as heads
use Rattle.canonical_nests.specs.LoopRules.Counts as counts
use Rattle.canonical_nests.specs.LoopRules.Programs.{clause_breaches}
use Rattle.canonical_nests.proofs.BreachSets.{neither_breaks}
use Rattle.nest_counts.specs.HasKinds.{HasKinds}
use Rattle.nest_counts.specs.Plans.{Beside, Finds}
use Rattle.nest_counts.specs.Admitted.{parts_in, TakesRectangle}
use Rattle.nest_counts.specs.Laws.{StatementsHaveLoops, AdmittedConstructsFind, AdmittedConstructsHaveKinds, AdmittedBodiesHaveKinds, AdmittedCountsHold, AdmittedNestsAreRectangular}
use Rattle.nest_counts.proofs.Corollaries.{known_counts_hold, taken_loops_are_rectangular}
use Rattle.nest_counts.proofs.DirectivesFind.{directive_has}
use Rattle.nest_counts.proofs.LoopDepths.{body_gives}
use Rattle.nest_counts.proofs.Statements.{bodies_have_kinds, constructs_have_kinds}
use Rattle.nest_counts.proofs.StatementsFind.{one_deep, stmt_has, single_has, members_have}
use Rattle.nest_counts.proofs.Transformed.{beside_at}

-- a scope says the same as itself, so that any state serves
pub statements_have_loops : StatementsHaveLoops
statements_have_loops ds scope m a es formed none some e deep few = (stmt_has ds nowhere scope m a es formed none some e deep few).1

none_wanted : (es : List ℕ) → all_at_least 0 es ≡ true
none_wanted [] = refl
none_wanted (e ∷ es) = and_from (nat_le 0 e) (all_at_least 0 es) (le-leb 0 e (omega arith)) (none_wanted es)

pub admitted_constructs_find : AdmittedConstructsFind
admitted_constructs_find ds fs scope s d a ok =
    let n : ℕ = loops_asked (plan_of ds (forget_directive d)) 0 in
    let q = neither_breaks (clause_breaches ds d a) (or_else (structure.construct_breaches ds d a) (or_else (heads.construct_breaches ds fs scope d a) (counts.construct_breaches ds scope d a))) ok.rules in
    let r = neither_breaks (structure.construct_breaches ds d a) (or_else (heads.construct_breaches ds fs scope d a) (counts.construct_breaches ds scope d a)) q.1 in
    let t = neither_breaks (structure.stmts_breaches ds n a) (structure.body_breaches ds d a) r.0 in
    let u = (neither_breaks (heads.construct_breaches ds fs scope d a) (counts.construct_breaches ds scope d a) r.1).1 in
    let e = body_gives ds 0 d a t.0 t.1 in
    (directive_has ds s scope 0 d a e.0 (record { formed = ok.directive; clauses = q.0.0; inner = t.0; body = t.1; counts = u.0 })
    (λ k l f g. single_has ds s scope n a (k ∷ []) ok.body (q.0.1, (t.0, u.1)) l f (one_deep n k g) (inr refl))
    (λ ks one f g. members_have ds s scope n a ks ok.body (q.0.1, (t.0, u.1)) one f g)
    e.1 (none_wanted e.0) (inl (omega arith))).0 ok.typed

pub admitted_constructs_have_kinds : AdmittedConstructsHaveKinds
admitted_constructs_have_kinds ds fs scope s d a ok ts e =
    constructs_have_kinds ds scope s (forget_directive d) (forget_stmts a) ts (admitted_constructs_find ds fs scope s d a ok) e

pub admitted_bodies_have_kinds : AdmittedBodiesHaveKinds
admitted_bodies_have_kinds ds fs scope s d a ok ts e =
    bodies_have_kinds ds scope s (forget_directive d) (forget_stmts a) ts (admitted_constructs_find ds fs scope s d a ok) e

pub admitted_counts_hold : AdmittedCountsHold
admitted_counts_hold ds fs scope s d a ok ts e j n v part loop is =
    known_counts_hold _ (nth j ts) (beside_at HasKinds _ ts (admitted_constructs_have_kinds ds fs scope s d a ok ts e) j part) n v loop is

-- ---- rectangles

rectangle : (c : Transformation) (w : Applied) (ps : List Part) (ts : List Tree) → TakesRectangle c → Finds (plan c w) 0 ps → Beside HasKinds ps ts → nth 0 ts ≡ build (widths (takes c) (nth 0 ts)) (pick (nth 0 ts))
rectangle (tile ss) w ps ts square finds has = taken_loops_are_rectangular (get_or ps 0 no_part) (nth 0 ts) (beside_at HasKinds ps ts has 0 finds.0.0) 0 (length ss) finds.0.1.1 finds.0.1.2
rectangle (interchange qs) w ps ts square finds has = taken_loops_are_rectangular (get_or ps 0 no_part) (nth 0 ts) (beside_at HasKinds ps ts has 0 finds.0.0) 0 (length qs) finds.0.1.1 finds.0.1.2
rectangle reverse_ w ps ts square finds has = absurd square
rectangle (split cs) w ps ts square finds has = absurd square
rectangle (fuse r) w ps ts square finds has = absurd square
rectangle unroll_full w ps ts square finds has = absurd square
rectangle (unroll_partial f) w ps ts square finds has = absurd square

pub admitted_nests_are_rectangular : AdmittedNestsAreRectangular
admitted_nests_are_rectangular ds fs scope s d a ok ts e c w is square =
    rectangle c w (parts_in ds scope d a) ts square
    (subst (λ p. Finds p 0 (parts_in ds scope d a)) is (admitted_constructs_find ds fs scope s d a ok).1) (admitted_bodies_have_kinds ds fs scope s d a ok ts e)
