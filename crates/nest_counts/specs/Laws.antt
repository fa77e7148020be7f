-- What the kinds of counts of a part say of the trees that have them.
use Rattle.std.specs.Prelude.{ℕ, suc, ◌≡◌, ◌+◌, ◌<◌, ◌≤◌, List, [], ◌∷◌, length, Ok, Some, true, false, ◌⊎◌, get_or}
use Rattle.c_tree.specs.Bare.{Directive, Stmts}
use Rattle.c_tree.specs.Placed as placed
use Rattle.c_tree.specs.Forget.{forget_stmt, forget_stmts, forget_directive}
use Rattle.c_tree.specs.WellFormed.{WellFormedStmt}
use Rattle.c_semantics.specs.Meaning.State.{State}
use Rattle.c_semantics.specs.Meaning.Expressions.{Define}
use Rattle.c_semantics.specs.Meaning.FileVariables.{FunctionAccess}
use Rattle.c_semantics.specs.Loops.Directives.{plan_of}
use Rattle.c_semantics.specs.Loops.Need.{takes, depths, all_at_least, loops_asked}
use Rattle.c_semantics.specs.Loops.StatementDepths.{stmt_depths}
use Rattle.c_semantics.specs.Loops.Forest.{forest}
use Rattle.c_semantics.specs.Loops.IterationTrees.{Tree, nth, widths, pick, build}
use Rattle.c_semantics.specs.Loops.Transformations.{Transformation, Plan, plan, Applied, apply_plan}
use Rattle.canonical_nests.specs.declared.nest.CountKind.TheVariants.{Known}
use Rattle.canonical_nests.specs.Kinds.{Part, no_part, kind_at, plan_kinds}
use Rattle.canonical_nests.specs.LoopRules.Counts.{depend_on_another}
use Rattle.nest_counts.specs.HasKinds.{HasKinds, IsLoop, turns, EachBelow}
use Rattle.canonical_nests.specs.Shapes.{stmt_kinds, body_kinds}
use Rattle.canonical_nests.specs.LoopRules.BreachSets.{HasNone}
use Rattle.canonical_nests.specs.LoopRules.PlacedPlans.{PlacedPlan, forget_plan}
use Rattle.canonical_nests.specs.LoopRules.Clauses as clauses
use Rattle.canonical_nests.specs.LoopRules.Clauses.{all_different}
use Rattle.canonical_nests.specs.LoopRules.Counts as counts
use Rattle.canonical_nests.specs.LoopRules.Heads as heads
use Rattle.canonical_nests.specs.LoopRules.Structure as structure
use Rattle.nest_counts.specs.Plans.{IsOrder, Finds, PartsHave, Beside}
use Rattle.nest_counts.specs.Statements.{ConstructFinds}
use Rattle.nest_counts.specs.Found.{ArgumentsFit, IsNoFuse, EachAtMost, HaveLoops, lengths_below}
use Rattle.nest_counts.specs.Bounds.{ConstructBounds}
use Rattle.nest_counts.specs.Admitted.{rule_breaches, EachAdmitted, trees_in, parts_in, trees_run, parts_run, TakesRectangle}

-- where the count of a loop is known, every tree at its depth is a loop of that many turns
abbrev pub KnownCountsHold : Type 0
KnownCountsHold =
    (ks : Part) (t : Tree) → HasKinds ks t → (n v : ℕ) → n < length ks → kind_at ks n ≡ Known v →
    EachBelow (λ u. IsLoop u × turns u ≡ v) n t

-- n loops below k others, none of which depends on another of them, are a nest that is as wide everywhere
abbrev pub TakenLoopsAreRectangular : Type 0
TakenLoopsAreRectangular =
    (ks : Part) (t : Tree) → HasKinds ks t → (k n : ℕ) → k + n ≤ length ks → depend_on_another k n ks ≡ false →
    EachBelow (λ u. u ≡ build (widths n u) (pick u)) k t

-- where a directive and its items find what they take, the parts that they give have the kinds that they give
abbrev pub DirectivesKeepKinds : Type 0
DirectivesKeepKinds =
    (p : Plan) (k : ℕ) (ps : List Part) (f : Tree → List Tree) (t : Tree) → PartsHave ps k f t → Finds p k ps →
    PartsHave (plan_kinds p k ps) k (λ u. apply_plan p (f u)) t

-- where the directives of a construct find what they take, and its loops are typed in the scope as in the state of the
-- entry, the parts that it runs have the kinds that the rules of counts see
abbrev pub ConstructsHaveKinds : Type 0
ConstructsHaveKinds =
    (ds : List Define) (scope s : State) (d : Directive) (a : Stmts) (ts : List Tree) → ConstructFinds ds s scope d a → forest ds s d a ≡ Ok ts →
    Beside HasKinds (plan_kinds (plan_of ds d) 0 (body_kinds ds scope (loops_asked (plan_of ds d) 0) d a)) ts

-- in a construct that breaks no rule of heads no bound reads what may change
abbrev pub BoundsAreInvariant : Type 0
BoundsAreInvariant =
    (ds : List Define) (fs : List FunctionAccess) (s : State) (d : placed.Directive) (a : placed.Stmts) → HasNone (heads.construct_breaches ds fs s d a) →
    ConstructBounds ds fs s d a

-- a directive finds what it takes where its arguments and those of its items are as the rules of clauses say, each finds
-- enough loops, as the rules of structure say, and none breaks a rule of counts
abbrev pub RulesFindLoops : Type 0
RulesFindLoops =
    (p : PlacedPlan) (ps : List Part) (es : List ℕ) → ArgumentsFit (forget_plan p) → 0 < length ps →
    depths (forget_plan p) (lengths_below 0 ps) ≡ Some es → HasNone (counts.plan_breaches p 0 ps) → Finds (forget_plan p) 0 ps

-- a directive and its items find enough loops over a part of which they break no rule of structure
abbrev pub StructureFindsLoops : Type 0
StructureFindsLoops = (p : PlacedPlan) (k : ℕ) → HasNone (structure.plan_breaches p k) → (es : List ℕ) × (depths (forget_plan p) (k ∷ []) ≡ Some es)

-- they still do over deeper parts, and give as many parts, each no less deep
abbrev pub DeeperBodiesServe : Type 0
DeeperBodiesServe = (p : Plan) (ks ls es : List ℕ) → EachAtMost ks ls → depths p ks ≡ Some es → (fs : List ℕ) × ((depths p ls ≡ Some fs) × EachAtMost es fs)

-- where a directive over a part of depth k gives parts of depth m at least, it asks for no more than k loops when m are
-- wanted of each, and over any part that has as many as it asks for it gives as many parts, of depth m at least
abbrev pub AskedLoopsSuffice : Type 0
AskedLoopsSuffice =
    (p : Plan) (m k l : ℕ) (es : List ℕ) → IsNoFuse p → depths p (k ∷ []) ≡ Some es → all_at_least m es ≡ true →
    (loops_asked p m ≤ k)
    × (loops_asked p m ≤ l → (fs : List ℕ) × ((depths p (l ∷ []) ≡ Some fs) × ((length fs ≡ length es) × (all_at_least m fs ≡ true))))

-- so it and its items find what they take in a part that has the loops that it asks for, and in which they break no rule
-- of counts
abbrev pub DirectivesFindAsked : Type 0
DirectivesFindAsked =
    (p : PlacedPlan) (m k : ℕ) (es : List ℕ) (ks : Part) → IsNoFuse (forget_plan p) → ArgumentsFit (forget_plan p) → depths (forget_plan p) (k ∷ []) ≡ Some es →
    all_at_least m es ≡ true → loops_asked (forget_plan p) m ≤ length ks → HasNone (counts.plan_breaches p 0 (ks ∷ [])) → Finds (forget_plan p) 0 (ks ∷ [])

-- a `for` or a directive gives loops where no directive that has to give loops breaks a rule of structure
abbrev pub LoopsGiveDepths : Type 0
LoopsGiveDepths =
    (ds : List Define) (m : ℕ) (a : placed.Stmt) → structure.is_loop a ≡ true → HasNone (structure.stmt_breaches ds (suc m) a) →
    (es : List ℕ) × (stmt_depths ds (forget_stmt a) ≡ Some es)

-- where a directive and its items break no rule of clauses, their arguments fit
abbrev pub ArgumentsOfRulesFit : Type 0
ArgumentsOfRulesFit = (ds : List Define) (d : placed.Directive) → HasNone (clauses.directive_breaches ds d) → ArgumentsFit (plan_of ds (forget_directive d))

-- numbers that a permutation may have, as the rules of clauses say, are an order
abbrev pub PermutationsAreOrders : Type 0
PermutationsAreOrders =
    (ps : List ℕ) → 0 < length ps → all_different ps ≡ true →
    ((j : ℕ) → j < length ps → (0 < get_or ps j 0) × (get_or ps j 0 ≤ length ps)) → IsOrder ps

-- ---- whole constructs

-- a statement of which m loops are wanted, which breaks no rule of clauses, structure and counts and gives parts as deep as
-- is wanted, has as many parts for a directive round it, each with m loops at least. Of several parts one loop each is
-- wanted
abbrev pub StatementsHaveLoops : Type 0
StatementsHaveLoops =
    (ds : List Define) (scope : State) (m : ℕ) (a : placed.Stmt) (es : List ℕ) → WellFormedStmt (forget_stmt a) → HasNone (rule_breaches ds scope m a) → 0 < m →
    stmt_depths ds (forget_stmt a) ≡ Some es → all_at_least m es ≡ true → (m ≤ 1) ⊎ (length es ≡ 1) → HaveLoops m (length es) (stmt_kinds ds scope m (forget_stmt a))

-- in an admitted construct each directive finds what it takes
abbrev pub AdmittedConstructsFind : Type 0
AdmittedConstructsFind = EachAdmitted (λ ds scope s d a. ConstructFinds ds s scope (forget_directive d) (forget_stmts a))

-- so the parts that it runs have the kinds that the rules of counts see
abbrev pub AdmittedConstructsHaveKinds : Type 0
AdmittedConstructsHaveKinds =
    EachAdmitted (λ ds scope s d a. (ts : List Tree) → trees_run ds s d a ≡ Ok ts → Beside HasKinds (parts_run ds scope d a) ts)

-- and so have the parts in its body, on which its directive acts
abbrev pub AdmittedBodiesHaveKinds : Type 0
AdmittedBodiesHaveKinds =
    EachAdmitted (λ ds scope s d a. (ts : List Tree) → trees_in ds s d a ≡ Ok ts → Beside HasKinds (parts_in ds scope d a) ts)

-- where the count of a loop of a part that it runs is known, every tree at its depth is a loop of that many turns
abbrev pub AdmittedCountsHold : Type 0
AdmittedCountsHold =
    EachAdmitted (λ ds scope s d a. (ts : List Tree) → trees_run ds s d a ≡ Ok ts → (j n v : ℕ) → j < length (parts_run ds scope d a) →
    n < length (get_or (parts_run ds scope d a) j no_part) → kind_at (get_or (parts_run ds scope d a) j no_part) n ≡ Known v →
    EachBelow (λ u. IsLoop u × turns u ≡ v) n (nth j ts))

-- the loops that `tile` or `interchange` takes are a nest that is as wide everywhere
abbrev pub AdmittedNestsAreRectangular : Type 0
AdmittedNestsAreRectangular =
    EachAdmitted (λ ds scope s d a. (ts : List Tree) → trees_in ds s d a ≡ Ok ts → (c : Transformation) (w : Applied) →
    plan_of ds (forget_directive d) ≡ plan c w → TakesRectangle c → nth 0 ts ≡ build (widths (takes c) (nth 0 ts)) (pick (nth 0 ts)))
