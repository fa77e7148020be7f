-- By the structure of statements: what is made of one is no higher than its tall height.
use Rattle.std.proofs.Common.{refl, ◌≤◌, ◌+◌, ℕ, List, [], ◌∷◌, Option, Some, None, inl, inr, arith, max}
use Rattle.std.proofs.Math.Nat.{le-max_left, le-max_right, max-le}
use Rattle.c_tree.specs.Bare.{Directive, directive, Stmt, decl, set, step, print, input, if_, if_else, while_, do_, for_, block, break_, continue_, empty, omp, call, Stmts, no_stmts, more_stmts, Head, head, Top, define, extern_, global, function, main, Program}
use Rattle.c_tree.specs.declared.tree.Ty.{Ty}
use Rattle.c_tree.specs.Height.{expr_height, option_height, part_height, head_height, directive_height, stmt_height, stmts_height, top_height, program_height}
use Rattle.canonical_nests.specs.TallHeight.{added_height, clauses_added, generated, tall_stmt, tall_stmts, tall_top, tall_height}
use Rattle.c_semantics.specs.Meaning.Expressions.{Define}
use Rattle.c_semantics.specs.Meaning.FileVariables.{defines_with}
use Rattle.c_semantics.specs.Loops.CanonicalForm.{Canonical, canonical}
use Rattle.loop_normal.specs.Gens.{Gen}
use Rattle.loop_normal.specs.DrawnNames.{FreshNames, drawn, loop_names}
use Rattle.loop_normal.specs.FromZero.{from_zero, after_from_zero}
use Rattle.loop_normal.specs.Laws.{source_loop}
use Rattle.loop_normal.specs.SourceNames.{beside_program}
use Rattle.carried_out.specs.CarriedOut.{Made, made_leaf, made_reverse, transformed, planned, items_applied, variable_type, with_type, where_typed, loop_at, scope_below, in_head, carried, carried_all, nest, nest_in, carried_top, carried_items, carried_out}
use Rattle.c_semantics.specs.Meaning.State.{State, nowhere}
use Rattle.c_semantics.specs.Loops.Directives.{plan_of}
use Rattle.c_semantics.specs.Loops.Transformations.{Transformation, reverse_, Plan, plan, Applied, none_applied, applied_at}
use Rattle.c_semantics.specs.Structure.Skeleton.{scope_after}
use Rattle.c_scopes.specs.Types.{with_params}
use Rattle.c_scopes.specs.Laws.{scope_with}
use Rattle.carried_heights.proofs.HeadHeights.{LowBounds, LowIf, canonical_low}
use Rattle.carried_heights.proofs.GenHeights.{LowGen, low_more, leaf_low, reversed_low, from_zero_low, block_low}

-- the parts of a sum of heights
pub under_both : (a b c d : ℕ) → a ≤ c → b ≤ d → max a b ≤ max c d
under_both a b c d h k = max-le (let l = le-max_left c d in omega arith) (let r = le-max_right c d in omega arith)

-- ---- directives

reverse_low : (k : ℕ) (m : Made Gen) → 7 ≤ k → LowGen k m.tree → LowGen k (made_reverse m).tree
reverse_low k m seven w = reversed_low k (drawn (after_from_zero m.left m.tree)) (from_zero m.left m.tree) seven (from_zero_low k m.left m.tree w)

transformed_low : (k : ℕ) (t : Transformation) (m : Made Gen) → 7 ≤ k → LowGen k m.tree → LowGen k (transformed t m).tree
transformed_low k reverse_ m seven w = reverse_low k m seven w
transformed_low k t m seven w = w

mutual
  planned_low : (k : ℕ) (p : Plan) (m : Made Gen) → 7 ≤ k → LowGen k m.tree → LowGen k (planned p m).tree
  planned_low k (plan t w) m seven h = applied_low k w (transformed t m) seven (transformed_low k t m seven h)

  applied_low : (k : ℕ) (w : Applied) (m : Made Gen) → 7 ≤ k → LowGen k m.tree → LowGen k (items_applied w m).tree
  applied_low k none_applied m seven h = h
  applied_low k (applied_at p d w) m seven h = applied_low k w (planned d m) seven (planned_low k d m seven h)

adds_twelve : (d : Directive) → 12 ≤ added_height d
adds_twelve (directive kind cs) = let n = generated kind cs in let m = clauses_added cs in omega arith

-- ---- the loop of a construct

-- at least what a generated loop has
abbrev floor : ℕ → ℕ
floor n = max 7 n

typed_low : (k : ℕ) (c : Canonical) (t : Option Ty) (m : Made Stmts) → 7 ≤ k → LowBounds k c → 1 + stmts_height m.tree ≤ k → LowGen k (made_leaf (with_type c t) m).tree
typed_low k c None m seven b h = inl refl
typed_low k c (Some T) m seven b h = inr (leaf_low k (loop_names m.left) (source_loop c T) m.tree seven b.lb b.ub h)

seen_low : (k : ℕ) (s : State) (o : Option Canonical) (m : Made Stmts) → 7 ≤ k → LowIf k o → 1 + stmts_height m.tree ≤ k → LowGen k (made_leaf (where_typed s o) m).tree
seen_low k s None m seven b h = inl refl
seen_low k s (Some c) m seven b h = typed_low k c (variable_type s c.ty c.var) m seven b h

loop_low : (ds : List Define) (s : State) (h : Head) (a : Stmts) (m : Made Stmts) → stmts_height m.tree ≤ tall_stmts a → LowGen (floor (tall_stmts (more_stmts (for_ h a) no_stmts))) (made_leaf (loop_at ds s h) m).tree
loop_low ds s (head i e next) a m h =
    let n = part_height i in
    let o = option_height e in
    let u = part_height next in
    let t = tall_stmts a in
    let hh = max n (max o u) in
    let k = floor (max (1 + max hh t) 0) in
    let l1 : n ≤ hh = le-max_left n (max o u) in
    let l2 : max o u ≤ hh = le-max_right n (max o u) in
    let l3 : o ≤ max o u = le-max_left o u in
    let l4 : hh ≤ max hh t = le-max_left hh t in
    let l5 : t ≤ max hh t = le-max_right hh t in
    let l6 : 1 + max hh t ≤ max (1 + max hh t) 0 = le-max_left (1 + max hh t) 0 in
    let l7 : max (1 + max hh t) 0 ≤ k = le-max_right 7 (max (1 + max hh t) 0) in
    seen_low k s (canonical ds (head i e next)) m (le-max_left 7 (max (1 + max hh t) 0)) (canonical_low k ds i e next (omega arith) (omega arith)) (omega arith)

floor_below : (a b : ℕ) → a ≤ b → floor a ≤ floor (max b 0)
floor_below a b h = under_both 7 a 7 (max b 0) (omega arith) (let l = le-max_left b 0 in omega arith)

pub one_more : {a b : ℕ} → a ≤ b → 1 + a ≤ 1 + b
one_more h = omega arith

within : (n d t h : ℕ) → 12 ≤ n → h ≤ 2 + floor t → h ≤ n + (1 + max d t)
within n d t h k l = let r = le-max_right d t in omega arith

-- ---- statements

module _ (ds : List Define) where
  mutual
    stmt_low : (s : State) (a : Stmt) (f : FreshNames) → stmt_height (carried ds s a f).tree ≤ tall_stmt a
    stmt_low s (decl t x e) f = omega arith
    stmt_low s (set t op e) f = omega arith
    stmt_low s (step t up) f = omega arith
    stmt_low s (print e) f = omega arith
    stmt_low s (input t) f = omega arith
    stmt_low s break_ f = omega arith
    stmt_low s continue_ f = omega arith
    stmt_low s empty f = omega arith
    stmt_low s (call x es) f = omega arith
    stmt_low s (if_ e a) f = one_more (under_both (expr_height e) _ (expr_height e) _ (omega arith) (stmts_low s a f))
    stmt_low s (if_else e a b) f = one_more (under_both (expr_height e) _ (expr_height e) _ (omega arith) (under_both _ _ _ _ (stmts_low s a f) (stmts_low s b (carried_all ds s a f).left)))
    stmt_low s (while_ e a) f = one_more (under_both (expr_height e) _ (expr_height e) _ (omega arith) (stmts_low s a f))
    stmt_low s (do_ a e) f = one_more (under_both _ (expr_height e) _ (expr_height e) (stmts_low s a f) (omega arith))
    stmt_low s (for_ h a) f = one_more (under_both (head_height h) _ (head_height h) _ (omega arith) (stmts_low (in_head h s) a f))
    stmt_low s (block a) f = one_more (stmts_low s a f)
    stmt_low s (omp d a) f =
        let k = floor (tall_stmts a) in
        let seven = le-max_left 7 (tall_stmts a) in
        let m = nest ds s a f in
        within (added_height d) (directive_height d) (tall_stmts a) _ (adds_twelve d) (block_low k (planned (plan_of ds d) m).tree seven (planned_low k (plan_of ds d) m seven (nest_low s a f)))

    stmts_low : (s : State) (a : Stmts) (f : FreshNames) → stmts_height (carried_all ds s a f).tree ≤ tall_stmts a
    stmts_low s no_stmts f = omega arith
    stmts_low s (more_stmts a as') f = under_both _ _ _ _ (stmt_low s a f) (stmts_low (scope_after a s) as' (carried ds s a f).left)

    nest_low : (s : State) (a : Stmts) (f : FreshNames) → LowGen (floor (tall_stmts a)) (nest ds s a f).tree
    nest_low s no_stmts f = inl refl
    nest_low s (more_stmts a no_stmts) f = nest_in_low s a f
    nest_low s (more_stmts a (more_stmts b as')) f = inl refl

    nest_in_low : (s : State) (a : Stmt) (f : FreshNames) → LowGen (floor (max (tall_stmt a) 0)) (nest_in ds s a f).tree
    nest_in_low s (for_ h a) f = loop_low ds s h a (carried_all ds (scope_below s (loop_at ds s h)) a f) (stmts_low (scope_below s (loop_at ds s h)) a f)
    nest_in_low s (block a) f = low_more (floor (tall_stmts a)) _ (nest ds s a f).tree (floor_below (tall_stmts a) (1 + tall_stmts a) (omega arith)) (nest_low s a f)
    nest_in_low s (omp d a) f =
        let k = floor (tall_stmts a) in
        let r = le-max_right (directive_height d) (tall_stmts a) in
        let m = nest ds s a f in
        low_more k _ (planned (plan_of ds d) m).tree (floor_below (tall_stmts a) (tall_stmt (omp d a)) (omega arith)) (planned_low k (plan_of ds d) m (le-max_left 7 (tall_stmts a)) (nest_low s a f))
    nest_in_low s a f = inl refl

-- ---- programs

top_low : (ds : List Define) (s : State) (i : Top) (f : FreshNames) → top_height (carried_top ds s i f).tree ≤ tall_top i
top_low ds s (define x negative n t) f = omega arith
top_low ds s (extern_ port) f = omega arith
top_low ds s (global t x dims e) f = omega arith
top_low ds s (function x ps a) f = one_more (stmts_low ds (with_params ps s) a f)
top_low ds s (main a) f = one_more (stmts_low ds s a f)

items_low : (ds : List Define) (s : State) (p : Program) (f : FreshNames) → program_height (carried_items ds s p f).tree ≤ tall_height p
items_low ds s [] f = omega arith
items_low ds s (i ∷ is) f = under_both _ _ _ _ (top_low ds s i f) (items_low (defines_with ds i) (scope_with s i) is (carried_top ds s i f).left)

pub no_higher : (p : Program) → program_height (carried_out p) ≤ tall_height p
no_higher p = items_low [] nowhere p (beside_program p)
