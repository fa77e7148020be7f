-- The depths that a directive finds, and those of a list with one statement.
use Rattle.std.proofs.Common.{◌≡◌, ◌∙◌, sym, ap, refl, ◌≢◌, ℕ, List, [], ◌∷◌, length, slice_index_or, subst, Option, None, Bool, arith}
use Rattle.std.specs.Prelude.{if◌then◌else◌}
use Rattle.c_tree.specs.Bare as b
use Rattle.c_tree.specs.BareOf.{stmt_layer, head_layer, item_layer, kind_layer, clause_layer, directive_layer, bare_clauses, bare_directive, bare_stmt, bare_stmts}
use Rattle.c_tree.specs.declared.tree.Clause.{Clause}
use Rattle.c_tree.specs.declared.tree.Span.{Span}
use Rattle.c_tree.specs.PlacedOf.{placed_directive}
use Rattle.c_tree.specs.WellFormed.{WellFormedStmt, WellFormedStmts}
use Rattle.c_tree.specs.declared.tree.Directive.{Directive, roll-Directive, out-Directive, roll-out-Directive, fold-roll-Directive}
use Rattle.c_tree.specs.declared.tree.Kind.{Kind}
use Rattle.c_tree.specs.declared.tree.Kind.TheVariants.{Tile, Unroll, Interchange, Reverse, Split, Fuse}
use Rattle.c_tree.specs.declared.tree.Stmt.{Stmt, fold-roll-Stmt}
use Rattle.c_tree.specs.declared.tree.Stmt.TheVariants as v
use Rattle.c_tree.specs.declared.tree.Stmt.TheOpen as s
use Rattle.c_tree.proofs.Forgotten.Directives.{bare_directive_is}
use Rattle.c_semantics.specs.Meaning.Expressions.{Define}
use Rattle.c_semantics.specs.Loops.Directives.{plan_of}
use Rattle.c_semantics.specs.Loops.StatementDepths.{kind_of, found_by, single_depths, member_depths, stmt_depths}
use Rattle.c_semantics.specs.Loops.Need.{if_some, depths}
use Rattle.canonical_nests.specs.LoopRules.PlacedPlans.{PlacedPlan, forget_plan, placed_plan}
use Rattle.canonical_nests.proofs.ForgottenPlans.{plan_is}
use Rattle.canonical_nests.proofs.HeldTrees.{directive_held}
use Rattle.loop_structure.specs.Members.{standing_depths, finds_all}
use Rattle.loop_structure.specs.declared.found.Standing.TheVariants.{Alone}
use Rattle.loop_structure.specs.declared.found.Standing.{Standing}

pub plan_found : (ds : List Define) (x : Directive) (p : PlacedPlan) → p ≡ placed_plan ds (placed_directive x) → forget_plan p ≡ plan_of ds (bare_directive x)
plan_found ds x p is = ap forget_plan is ∙ (plan_is ds (placed_directive x) ∙ ap (plan_of ds) (sym (bare_directive_is x)))

finds : (k : Kind) (one all : Option (List ℕ)) → found_by k one all ≡ (if finds_all k then all else one)
finds Tile one all = refl
finds Unroll one all = refl
finds Interchange one all = refl
finds Reverse one all = refl
finds Split one all = refl
finds Fuse one all = refl

bare_directive_roll : (kind : Kind) (cs : List Clause) (span : Span) → bare_directive (roll-Directive (record { kind = kind; clauses = cs; span = span })) ≡ b.directive kind (bare_clauses cs)
bare_directive_roll kind cs span = fold-roll-Directive b.Item b.Clause b.Clause b.Directive item_layer kind_layer clause_layer directive_layer (record { kind = kind; clauses = cs; span = span })

kind_is : (x : Directive) → kind_of (bare_directive x) ≡ (out-Directive x).kind
kind_is x = ap (λ d. kind_of (bare_directive d)) (sym (roll-out-Directive x)) ∙ ap kind_of (bare_directive_roll (out-Directive x).kind (out-Directive x).clauses (out-Directive x).span)

bare_omp : (stmt : Stmt) (x : Directive) (body : List Stmt) (at : Span) → stmt ≡ v.Omp x body at → bare_stmt stmt ≡ b.omp (bare_directive x) (bare_stmts body)
bare_omp stmt x body at is =
    ap bare_stmt is ∙ (ap bare_stmt (sym (v.rolls-Omp x body at)) ∙ fold-roll-Stmt b.Stmt b.Head stmt_layer head_layer (s.Omp x body at))

-- what a directive gives over what it found
pub omp_gives : (ds : List Define) (stmt : Stmt) (x : Directive) (body body' : List Stmt) (at : Span) (w : Standing) (p : PlacedPlan) (c : Bool) (found given : Option (List ℕ))
    → stmt ≡ v.Omp x body at → body' ≡ body → p ≡ placed_plan ds (placed_directive x) → finds_all (out-Directive x).kind ≡ c
    → found ≡ (if c then member_depths ds (bare_stmts body') else single_depths ds (bare_stmts body')) → given ≡ if_some found (depths (forget_plan p))
    → given ≡ standing_depths ds (bare_stmt stmt) w
omp_gives ds stmt x body body' at w p c found given is body_is p_is c_is found_is given_is =
    let c_back : c ≡ finds_all (out-Directive x).kind = sym c_is in
    given_is
    ∙ (ap (λ o. if_some o (depths (forget_plan p))) found_is
    ∙ ((λ i. if_some (if c_back i then member_depths ds (bare_stmts (body_is i)) else single_depths ds (bare_stmts (body_is i))) (depths (plan_found ds x p p_is i)))
    ∙ (ap (λ k. if_some (if finds_all k then member_depths ds (bare_stmts body) else single_depths ds (bare_stmts body)) (depths (plan_of ds (bare_directive x)))) (sym (kind_is x))
    ∙ (ap (λ o. if_some o (depths (plan_of ds (bare_directive x)))) (sym (finds (kind_of (bare_directive x)) (single_depths ds (bare_stmts body)) (member_depths ds (bare_stmts body))))
    ∙ sym (ap (λ a. standing_depths ds a w) (bare_omp stmt x body at is))))))

pub alone : (ds : List Define) (s : b.Stmt) → standing_depths ds s Alone ≡ stmt_depths ds s
alone ds (b.block a) = refl
alone ds (b.for_ h a) = refl
alone ds (b.omp d a) = refl
alone ds (b.decl t x e) = refl
alone ds (b.set t o e) = refl
alone ds (b.step t up) = refl
alone ds (b.print e) = refl
alone ds (b.input t) = refl
alone ds (b.if_ e a) = refl
alone ds (b.if_else e a c) = refl
alone ds (b.while_ e a) = refl
alone ds (b.do_ a e) = refl
alone ds b.break_ = refl
alone ds b.continue_ = refl
alone ds b.empty = refl
alone ds (b.call x es) = refl

pub not_single : (ds : List Define) (xs : List Stmt) → length xs ≢ 1 → single_depths ds (bare_stmts xs) ≡ None
not_single ds [] other = refl
not_single ds (x ∷ []) other = absurd (other refl)
not_single ds (x ∷ y ∷ xs) other = refl

pub one_single : (ds : List Define) (xs : List Stmt) (x : Stmt) → length xs ≡ 1 → x ≡ slice_index_or xs 0 x → single_depths ds (bare_stmts xs) ≡ standing_depths ds (bare_stmt x) Alone
one_single ds [] x one is = absurd (omega (arith, one))
one_single ds (y ∷ []) x one is = ap (λ z. stmt_depths ds (bare_stmt z)) (sym is) ∙ sym (alone ds (bare_stmt x))
one_single ds (y ∷ z ∷ xs) x one is = absurd (omega (arith, one))

abbrev GoodStmt : Stmt → Type 0
GoodStmt z = WellFormedStmt (bare_stmt z)

pub single_good : (xs : List Stmt) (x : Stmt) → length xs ≡ 1 → x ≡ slice_index_or xs 0 x → WellFormedStmts (bare_stmts xs) → WellFormedStmt (bare_stmt x)
single_good [] x one is good = absurd (omega (arith, one))
single_good (y ∷ ys) x one is good = subst GoodStmt (sym is) good.0

pub ruleset found_depths = (not_single, one_single, single_good, directive_held)
