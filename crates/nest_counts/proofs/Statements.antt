-- The trees of a statement have the kinds of its parts.
use Rattle.std.proofs.Common.{◌≡◌, refl, sym, ap, ◌∙◌, subst, ℕ, zero, suc, ◌+◌, ◌<◌, List, [], ◌∷◌, ◌++◌, length, Result, Ok, Err, arith, inl, inr}
use Rattle.std.proofs.lemmas.List.{append-nil}
use Rattle.c_tree.specs.Bare.{Directive, Stmt, for_, block, omp, Stmts, no_stmts, more_stmts, Head, head}
use Rattle.c_tree.specs.declared.arithmetic.Trap.{Trap}
use Rattle.c_tree.specs.Arithmetic.{and_then}
use Rattle.c_tree.specs.declared.tree.Kind.{Kind}
use Rattle.c_tree.specs.declared.tree.Kind.TheVariants.{Tile, Unroll, Interchange, Reverse, Split, Fuse}
use Rattle.c_semantics.specs.Meaning.State.{State}
use Rattle.c_semantics.specs.Meaning.Expressions.{Define}
use Rattle.c_semantics.specs.Loops.CanonicalForm.{canonical}
use Rattle.c_semantics.specs.Loops.TripCount.{Range}
use Rattle.c_semantics.specs.Loops.IterationTrees.{Tree, no_tree}
use Rattle.c_semantics.specs.Loops.Transformations.{Plan, apply_plan}
use Rattle.c_semantics.specs.Loops.Directives.{plan_of}
use Rattle.c_semantics.specs.Loops.Need.{loops_asked}
use Rattle.c_semantics.specs.Loops.StatementDepths.{kind_of}
use Rattle.c_semantics.specs.Loops.Forest.{enter, both_lists, or_body, bodies, loop_over, nest, nest_all}
use Rattle.c_semantics.specs.Structure.Skeleton.{scope_in}
use Rattle.canonical_nests.specs.Kinds.{Part, plan_kinds}
use Rattle.canonical_nests.specs.Shapes as shapes
use Rattle.canonical_nests.specs.Shapes.{source_kind, below_source, stmt_kinds, single_kinds, member_kinds, body_kinds}
use Rattle.nest_counts.specs.HasKinds.{HasKinds}
use Rattle.nest_counts.specs.Plans.{Beside, Finds, PartsHave}
use Rattle.nest_counts.specs.Statements.{SaysAlike, FoundBy, IsLoopStmt, StmtFinds, SingleFinds, MembersFind, ConstructFinds}
use Rattle.nest_counts.specs.Laws.{ConstructsHaveKinds}
use Rattle.nest_counts.proofs.Transformed.{beside, beside_at, beside_length, beside_append}
use Rattle.nest_counts.proofs.Items.{plan_has}
use Rattle.nest_counts.proofs.Source.{Gives, source_known, source_has}

then_ok : {A B : Type 0} (r : Result A Trap) (f : A → Result B Trap) (y : B) → and_then r f ≡ Ok y → (x : A) × ((r ≡ Ok x) × (f x ≡ Ok y))
then_ok (Ok x) f y e = (x, (refl, e))
then_ok (Err t) f y e = absurd (cc)

-- ---- a directive over the parts in its body

plan_beside : (p : Plan) (ps : List Part) (ts : List Tree) → Beside HasKinds ps ts → Finds p 0 ps → Beside HasKinds (plan_kinds p 0 ps) (apply_plan p ts)
plan_beside p ps ts h finds =
    let has : PartsHave ps 0 (λ u. ts) no_tree = record { many = λ u. beside_length HasKinds ps ts h; each = λ j l. beside_at HasKinds ps ts h j l } in
    let out : PartsHave (plan_kinds p 0 ps) 0 (λ u. apply_plan p ts) no_tree = plan_has p 0 ps (λ u. ts) no_tree has finds in
    beside HasKinds (plan_kinds p 0 ps) (apply_plan p ts) (out.many no_tree) out.each

some_beside : (ps : List Part) (ts : List Tree) → Gives ps ts → 0 < length ps → Beside HasKinds ps ts
some_beside ps ts (inl e) l = absurd (let z : length ps ≡ 0 = ap length e in omega arith)
some_beside ps ts (inr b) l = b

found_beside : (k : Kind) (one all : List Part) (S M : Type 0) (ts : List Tree) → (S → Beside HasKinds one ts) → (M → Beside HasKinds all ts) → FoundBy k S M → Beside HasKinds (shapes.found_by k one all) ts
found_beside Tile one all S M ts s m h = s h
found_beside Unroll one all S M ts s m h = s h
found_beside Interchange one all S M ts s m h = s h
found_beside Reverse one all S M ts s m h = s h
found_beside Split one all S M ts s m h = s h
found_beside Fuse one all S M ts s m h = m h

-- a loop without a loop to look for below it goes round bodies
body_gives : (m b : ℕ) (r : Result (List Tree) Trap) (ps : List Part) (ts : List Tree) → (m ≡ 0 → ps ≡ []) → ((us : List Tree) → r ≡ Ok us → Gives ps us) → or_body m b r ≡ Ok ts → Gives ps ts
body_gives zero b r ps ts none below e = inl (none refl)
body_gives (suc m) b r ps ts none below e = below ts e

pub none_wanted : (ds : List Define) (scope : State) (a : Stmts) → single_kinds ds scope 0 a ≡ []
none_wanted ds scope no_stmts = refl
none_wanted ds scope (more_stmts a no_stmts) = refl
none_wanted ds scope (more_stmts a (more_stmts b as')) = refl

none_wanted_at : (ds : List Define) (scope : State) (m : ℕ) (a : Stmts) → m ≡ 0 → single_kinds ds scope m a ≡ []
none_wanted_at ds scope m a e = ap (λ n. single_kinds ds scope n a) e ∙ none_wanted ds scope a

-- ---- one statement

for_gives : (ds : List Define) (scope s : State) (b m : ℕ) (h : Head) (below : Result (List Tree) Trap) (ps : List Part) (ts : List Tree) → SaysAlike ds scope s h → (m ≡ 0 → ps ≡ [])
    → ((us : List Tree) → below ≡ Ok us → Gives ps us)
    → and_then (enter ds s (canonical ds h)) (λ r. and_then (or_body m b below) (λ us. Ok (loop_over r us))) ≡ Ok ts → Beside HasKinds ((source_kind ds scope h ∷ below_source ps) ∷ []) ts
for_gives ds scope s b m h below ps ts alike none gives e =
    let q = then_ok (enter ds s (canonical ds h)) (λ r. and_then (or_body m b below) (λ us. Ok (loop_over r us))) ts e in
    let r : Range = q.0 in
    let w = then_ok (or_body m b below) (λ us. Ok (loop_over r us)) ts q.1.1 in
    let is : loop_over r w.0 ≡ ts = let f : Ok (loop_over r w.0) ≡ Ok ts = w.1.1 in cc in
    subst (Beside HasKinds ((source_kind ds scope h ∷ below_source ps) ∷ [])) is
    (source_has (source_kind ds scope h) r ps w.0 (λ v k. source_known ds scope s h r v alike q.1.0 k) (body_gives m b below ps w.0 none gives w.1.0))

omp_gives : (r : Result (List Tree) Trap) (p : Plan) (k : Kind) (one all : List Part) (S M : Type 0) (ts : List Tree)
    → ((us : List Tree) → r ≡ Ok us → S → Gives one us) → ((us : List Tree) → r ≡ Ok us → M → Beside HasKinds all us)
    → FoundBy k (S × (0 < length one)) M × Finds p 0 (shapes.found_by k one all) → and_then r (λ us. Ok (apply_plan p us)) ≡ Ok ts → Beside HasKinds (plan_kinds p 0 (shapes.found_by k one all)) ts
omp_gives r p k one all S M ts single members finds e =
    let q = then_ok r (λ us. Ok (apply_plan p us)) ts e in
    let is : apply_plan p q.0 ≡ ts = let f : Ok (apply_plan p q.0) ≡ Ok ts = q.1.1 in cc in
    subst (Beside HasKinds (plan_kinds p 0 (shapes.found_by k one all))) is
    (plan_beside p (shapes.found_by k one all) q.0
    (found_beside k one all (S × (0 < length one)) M q.0 (λ h. some_beside one q.0 (single q.0 q.1.0 h.0) h.1) (members q.0 q.1.0) finds.0) finds.1)

alone_gives : (r : Result (List Tree) Trap) (ps : List Part) (ts : List Tree) → ((us : List Tree) → r ≡ Ok us → Gives ps us) → both_lists r (Ok []) ≡ Ok ts → Gives ps ts
alone_gives r ps ts gives e =
    let q = then_ok r (λ us. Ok (us ++ [])) ts e in
    let is : q.0 ++ [] ≡ ts = let f : Ok (q.0 ++ []) ≡ Ok ts = q.1.1 in cc in
    subst (Gives ps) (sym (append-nil q.0) ∙ is) (gives q.0 q.1.0)

alone_beside : (r : Result (List Tree) Trap) (ps : List Part) (ts : List Tree) → ((us : List Tree) → r ≡ Ok us → Beside HasKinds ps us) → both_lists r (Ok []) ≡ Ok ts → Beside HasKinds ps ts
alone_beside r ps ts gives e =
    let q = then_ok r (λ us. Ok (us ++ [])) ts e in
    let is : q.0 ++ [] ≡ ts = let f : Ok (q.0 ++ []) ≡ Ok ts = q.1.1 in cc in
    subst (Beside HasKinds ps) (sym (append-nil q.0) ∙ is) (gives q.0 q.1.0)

more_beside : (r w : Result (List Tree) Trap) (ps qs : List Part) (ts : List Tree) → ((us : List Tree) → r ≡ Ok us → Beside HasKinds ps us) → ((us : List Tree) → w ≡ Ok us → Beside HasKinds qs us)
    → both_lists r w ≡ Ok ts → Beside HasKinds (ps ++ qs) ts
more_beside r w ps qs ts first rest e =
    let q = then_ok r (λ us. and_then w (λ vs. Ok (us ++ vs))) ts e in
    let p = then_ok w (λ vs. Ok (q.0 ++ vs)) ts q.1.1 in
    let is : q.0 ++ p.0 ≡ ts = let f : Ok (q.0 ++ p.0) ≡ Ok ts = p.1.1 in cc in
    subst (Beside HasKinds (ps ++ qs)) is (beside_append HasKinds ps qs q.0 p.0 (first q.0 q.1.0) (rest p.0 p.1.0))

none_nested : (ds : List Define) (s : State) (b : ℕ) (a : Stmts) → nest_all apply_plan ds s b 0 a ≡ Ok []
none_nested ds s b no_stmts = refl
none_nested ds s b (more_stmts x as') = ap (λ r. both_lists (Ok []) r) (none_nested ds s (b + bodies ds 0 x) as')

-- ---- statements

-- of a statement: a loop gives its parts, and another statement either those or none that are known
abbrev pub GivesAll : Stmt → List Part → List Tree → Type 0
GivesAll a ps ts = Gives ps ts × (IsLoopStmt a → Beside HasKinds ps ts)

both_ways : (a : Stmt) (ps : List Part) (ts : List Tree) → Beside HasKinds ps ts → GivesAll a ps ts
both_ways a ps ts h = (inr h, (λ l. h))

module _ (ds : List Define) (s : State) where
  mutual
    pub stmt_gives : (scope : State) (b m : ℕ) (a : Stmt) (ts : List Tree) → StmtFinds ds s scope m a → nest apply_plan ds s b m a ≡ Ok ts → GivesAll a (stmt_kinds ds scope m a) ts
    stmt_gives scope b zero a ts finds e = let is : [] ≡ ts = cc in both_ways a [] ts (subst (Beside HasKinds []) is tt)
    stmt_gives scope b (suc m) (for_ (head i o next) a) ts finds e =
        both_ways (for_ (head i o next) a) (stmt_kinds ds scope (suc m) (for_ (head i o next) a)) ts
        (for_gives ds scope s b m (head i o next) (nest_all apply_plan ds s b m a) (single_kinds ds (scope_in i scope) m a) ts finds.0 (none_wanted_at ds (scope_in i scope) m a)
        (λ us d. single_gives (scope_in i scope) b m a us finds.1 d) e)
    stmt_gives scope b (suc m) (block a) ts finds e = (single_gives scope b (suc m) a ts finds e, (λ l. absurd l))
    stmt_gives scope b (suc m) (omp d a) ts finds e =
        both_ways (omp d a) (stmt_kinds ds scope (suc m) (omp d a)) ts
        (omp_gives (nest_all apply_plan ds s b (loops_asked (plan_of ds d) (suc m)) a) (plan_of ds d) (kind_of d) (single_kinds ds scope (loops_asked (plan_of ds d) (suc m)) a) (member_kinds ds scope (loops_asked (plan_of ds d) (suc m)) a)
        (SingleFinds ds s scope (loops_asked (plan_of ds d) (suc m)) a) (MembersFind ds s scope (loops_asked (plan_of ds d) (suc m)) a) ts
        (λ us f h. single_gives scope b (loops_asked (plan_of ds d) (suc m)) a us h f) (λ us f h. member_gives scope b (loops_asked (plan_of ds d) (suc m)) a us h f) finds e)
    stmt_gives scope b (suc m) a ts finds e = (inl refl, (λ l. absurd l))

    pub single_gives : (scope : State) (b m : ℕ) (a : Stmts) (ts : List Tree) → SingleFinds ds s scope m a → nest_all apply_plan ds s b m a ≡ Ok ts → Gives (single_kinds ds scope m a) ts
    single_gives scope b m no_stmts ts finds e = inl refl
    single_gives scope b m (more_stmts x no_stmts) ts finds e = alone_gives (nest apply_plan ds s b m x) (stmt_kinds ds scope m x) ts (λ us f. (stmt_gives scope b m x us finds f).0) e
    single_gives scope b m (more_stmts x (more_stmts y as')) ts finds e = inl refl

    pub member_gives : (scope : State) (b m : ℕ) (a : Stmts) (ts : List Tree) → MembersFind ds s scope m a → nest_all apply_plan ds s b m a ≡ Ok ts → Beside HasKinds (member_kinds ds scope m a) ts
    member_gives scope b m no_stmts ts finds e = let is : [] ≡ ts = cc in subst (Beside HasKinds []) is tt
    member_gives scope b zero (more_stmts (block a) no_stmts) ts finds e =
        let is : [] ≡ ts = cc in subst (Beside HasKinds (member_kinds ds scope 0 a)) is (member_gives scope b 0 a [] finds (none_nested ds s b a))
    member_gives scope b (suc m) (more_stmts (block a) no_stmts) ts finds e =
        alone_beside (nest_all apply_plan ds s b (suc m) a) (member_kinds ds scope (suc m) a) ts (λ us f. member_gives scope b (suc m) a us finds f) e
    member_gives scope b m (more_stmts x as') ts finds e =
        more_beside (nest apply_plan ds s b m x) (nest_all apply_plan ds s (b + bodies ds m x) m as') (stmt_kinds ds scope m x) (member_kinds ds scope m as') ts
        (λ us f. (stmt_gives scope b m x us finds.1 f).1 finds.0) (λ us f. member_gives scope (b + bodies ds m x) m as' us finds.2 f) e

-- the trees in the body of a construct
pub bodies_have_kinds : (ds : List Define) (scope s : State) (d : Directive) (a : Stmts) (ts : List Tree) → ConstructFinds ds s scope d a → nest_all apply_plan ds s 0 (loops_asked (plan_of ds d) 0) a ≡ Ok ts
    → Beside HasKinds (body_kinds ds scope (loops_asked (plan_of ds d) 0) d a) ts
bodies_have_kinds ds scope s d a ts finds e =
    let n : ℕ = loops_asked (plan_of ds d) 0 in
    found_beside (kind_of d) (single_kinds ds scope n a) (member_kinds ds scope n a) (SingleFinds ds s scope n a × (0 < length (single_kinds ds scope n a))) (MembersFind ds s scope n a) ts
    (λ h. some_beside (single_kinds ds scope n a) ts (single_gives ds s scope 0 n a ts h.0 e) h.1) (λ h. member_gives ds s scope 0 n a ts h e) finds.0

pub constructs_have_kinds : ConstructsHaveKinds
constructs_have_kinds ds scope s d a ts finds e =
    let q = then_ok (nest_all apply_plan ds s 0 (loops_asked (plan_of ds d) 0) a) (λ us. Ok (apply_plan (plan_of ds d) us)) ts e in
    let is : apply_plan (plan_of ds d) q.0 ≡ ts = let f : Ok (apply_plan (plan_of ds d) q.0) ≡ Ok ts = q.1.1 in cc in
    let ps : List Part = body_kinds ds scope (loops_asked (plan_of ds d) 0) d a in
    subst (Beside HasKinds (plan_kinds (plan_of ds d) 0 ps)) is (plan_beside (plan_of ds d) ps q.0 (bodies_have_kinds ds scope s d a q.0 finds q.1.0) finds.1)
