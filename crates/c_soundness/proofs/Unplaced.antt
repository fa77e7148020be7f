-- The breaches of a tree with places are, but for the places, those of the same tree with other places.
use Rattle.std.proofs.Common.{◌≡◌, ◌∙◌, sym, ap, refl, subst, ℕ, suc, ◌+◌, ◌*◌, max, min, List, [], ◌∷◌, map, length, Option, Some, None, Bool, true, false, not, ◌&&◌, ◌==◌}
use Rattle.std.specs.Prelude.{nat_le, nat_lt, pos, unwrap_or, if◌then◌else◌}
use Rattle.std.specs.Option.{option_map}
use Rattle.c_tree.specs.Bare as b
use Rattle.c_tree.specs.Bare.{Name}
use Rattle.c_tree.specs.Placed as p
use Rattle.c_tree.specs.Placed.{expr_list, expr_span}
use Rattle.c_tree.specs.Forget.{forget_expr, forget_exprs, forget_target, forget_count, forget_directive, forget_clauses, forget_clause, forget_kind, forget_items, forget_item, forget_stmt, forget_stmts, forget_maybe, forget_head, forget_param, forget_top, forget_program}
use Rattle.c_tree.specs.declared.tree.Ty.{Ty}
use Rattle.c_tree.specs.declared.name_rule.NameRule.{NameRule}
use Rattle.c_tree.specs.declared.name_rule.NameRule.TheVariants.{N1, N2, N3, N5, N6, N7, N8, N9, N11, N12}
use Rattle.c_tree.specs.declared.name_rule.Entity.{Entity}
use Rattle.c_tree.specs.declared.name_rule.Entity.TheVariants.{Define, Variable, Function}
use Rattle.c_tree.specs.NameRules.BreachSets.{BreachSet, none, one, ◌&◌, HasNone}
use Rattle.c_tree.specs.NameRules.Scopes.{Scope, meaning, declare, a_scalar, inner, after_stmt, after_part, after_head, constant_named, is_taken}
use Rattle.c_tree.specs.NameRules.Scopes as scopes
use Rattle.c_tree.specs.NameRules.DeclaredNames as names
use Rattle.c_tree.specs.NameRules.CallDepth.{deepest_call, deepest_calls, deepest_part, deepest_in_head, function_depth}
use Rattle.c_tree.specs.NameRules.Breaches.{breach_if, use_breaches, assign_breaches, call_breaches, expr_breaches, exprs_breaches, option_breaches, target_breaches, count_breaches, counts_breaches, directive_breaches, clauses_breaches, clause_breaches, kind_breaches, items_breaches, item_breaches, stmt_breaches, stmts_breaches, part_breaches, head_breaches}
use Rattle.c_tree.specs.NameRules.Programs.{Known, most_dims, in_bounds, dimension, dims_breaches, dims_product, elements_of, size_breaches, initial_breaches, params_breaches, with_global, more_elements, in_params, most_elements, is_held, top_breaches, known_after, breaches_from, breaches, nothing_known}
use Rattle.c_tree.specs.Constants.{constant}
use Rattle.c_soundness.specs.Unplaced.{unplaced_expr, unplaced_exprs, unplaced_target, unplaced_count, unplaced_directive, unplaced_clauses, unplaced_kind, unplaced_items, unplaced_item, unplaced_stmt, unplaced_stmts, unplaced_part, unplaced_head, unplaced_param, unplaced_top, unplaced}
use Rattle.c_soundness.specs.NameBreaches.{BreachesWithoutPlaces}

-- ---- the same breaches at place 0

abbrev zeroed : BreachSet → BreachSet
zeroed none = none
zeroed (one c) = one (record { place = 0; rule = c.rule })
zeroed (xs & ys) = zeroed xs & zeroed ys

zeroed_none : (xs : BreachSet) → HasNone xs → HasNone (zeroed xs)
zeroed_none none h = h
zeroed_none (one c) h = absurd h
zeroed_none (xs & ys) h = (zeroed_none xs h.0, zeroed_none ys h.1)

none_zeroed : (xs : BreachSet) → HasNone (zeroed xs) → HasNone xs
none_zeroed none h = h
none_zeroed (one c) h = absurd h
none_zeroed (xs & ys) h = (none_zeroed xs h.0, none_zeroed ys h.1)

if_zero : (c : Bool) (r : NameRule) (at : ℕ) → zeroed (breach_if c r at) ≡ breach_if c r 0
if_zero true r at = refl
if_zero false r at = refl

use_zero : (o : Option Entity) (k at : ℕ) → zeroed (use_breaches o k at) ≡ use_breaches o k 0
use_zero None k at = refl
use_zero (Some (Define c)) k at = if_zero (not (k == 0)) N3 at
use_zero (Some (Variable dims)) k at = if_zero (not (k == dims)) N3 at
use_zero (Some (Function params depth)) k at = refl

assign_zero : (o : Option Entity) (at : ℕ) → zeroed (assign_breaches o at) ≡ assign_breaches o 0
assign_zero None at = refl
assign_zero (Some (Define c)) at = refl
assign_zero (Some (Variable dims)) at = refl
assign_zero (Some (Function params depth)) at = refl

call_zero : (f : Bool) (o : Option Entity) (k at : ℕ) → zeroed (call_breaches f o k at) ≡ call_breaches f o k 0
call_zero f None k at = refl
call_zero f (Some (Define c)) k at = refl
call_zero f (Some (Variable dims)) k at = refl
call_zero f (Some (Function params depth)) k at = λ i. if_zero (not (k == params)) N11 at i & if_zero (f && nat_le 16 depth) N12 at i

-- ---- expressions

count_same : (es : p.Exprs) → length (expr_list (unplaced_exprs (forget_exprs es))) ≡ length (expr_list es)
count_same p.no_exprs = refl
count_same (p.more_exprs e es) = ap suc (count_same es)

mutual
  again_expr : (e : b.Expr) → forget_expr (unplaced_expr e) ≡ e
  again_expr (b.num n t) = refl
  again_expr (b.read x) = refl
  again_expr (b.item x es) = ap (b.item x) (again_exprs es)
  again_expr (b.un op a) = ap (b.un op) (again_expr a)
  again_expr (b.bin op l r) = λ i. b.bin op (again_expr l i) (again_expr r i)
  again_expr (b.cond t y n) = λ i. b.cond (again_expr t i) (again_expr y i) (again_expr n i)
  again_expr (b.cast t a) = ap (b.cast t) (again_expr a)

  again_exprs : (es : b.Exprs) → forget_exprs (unplaced_exprs es) ≡ es
  again_exprs b.no_exprs = refl
  again_exprs (b.more_exprs e es) = λ i. b.more_exprs (again_expr e i) (again_exprs es i)

abbrev again : p.Expr → p.Expr
again e = unplaced_expr (forget_expr e)

abbrev again_all : p.Exprs → p.Exprs
again_all es = unplaced_exprs (forget_exprs es)

module _ (s : Scope) where
  used_with : (x : Name) (es : p.Exprs) (at : ℕ) → zeroed (use_breaches (meaning s x) (length (expr_list es)) at) ≡ use_breaches (meaning s x) (length (expr_list (again_all es))) 0
  used_with x es at = use_zero (meaning s x) (length (expr_list es)) at ∙ ap (λ k. use_breaches (meaning s x) k 0) (sym (count_same es))

  mutual
    expr_zero : (e : p.Expr) → zeroed (expr_breaches s e) ≡ expr_breaches s (again e)
    expr_zero (p.num n t at) = refl
    expr_zero (p.read x at) = use_zero (meaning s x) 0 at.start
    expr_zero (p.item x es at) = λ i. used_with x es at.start i & exprs_zero es i
    expr_zero (p.un op a at) = expr_zero a
    expr_zero (p.bin op l r at) = λ i. expr_zero l i & expr_zero r i
    expr_zero (p.cond t y n at) = λ i. expr_zero t i & (expr_zero y i & expr_zero n i)
    expr_zero (p.cast t a at) = expr_zero a

    exprs_zero : (es : p.Exprs) → zeroed (exprs_breaches s es) ≡ exprs_breaches s (again_all es)
    exprs_zero p.no_exprs = refl
    exprs_zero (p.more_exprs e es) = λ i. expr_zero e i & exprs_zero es i

  option_zero : (o : Option p.Expr) → zeroed (option_breaches s o) ≡ option_breaches s (option_map unplaced_expr (option_map forget_expr o))
  option_zero None = refl
  option_zero (Some e) = expr_zero e

  target_zero : (t : p.Target) → zeroed (target_breaches s t) ≡ target_breaches s (unplaced_target (forget_target t))
  target_zero (p.target x es at) = λ i. used_with x es at.start i & (assign_zero (meaning s x) at.start i & exprs_zero es i)

  count_zero : (c : p.Count) → zeroed (count_breaches s c) ≡ count_breaches s (unplaced_count (forget_count c))
  count_zero (p.fill at) = refl
  count_zero (p.given e) = expr_zero e

  counts_zero : (cs : List p.Count) → zeroed (counts_breaches s cs) ≡ counts_breaches s (map unplaced_count (map forget_count cs))
  counts_zero [] = refl
  counts_zero (c ∷ cs) = λ i. count_zero c i & counts_zero cs i

  mutual
    directive_zero : (d : p.Directive) → zeroed (directive_breaches s d) ≡ directive_breaches s (unplaced_directive (forget_directive d))
    directive_zero (p.directive kind cs at) = clauses_zero cs

    clauses_zero : (cs : p.Clauses) → zeroed (clauses_breaches s cs) ≡ clauses_breaches s (unplaced_clauses (forget_clauses cs))
    clauses_zero p.no_clauses = refl
    clauses_zero (p.more_clauses c cs) = λ i. clause_zero c i & clauses_zero cs i

    clause_zero : (c : p.Clause) → zeroed (clause_breaches s c) ≡ kind_breaches s (unplaced_kind (forget_clause c))
    clause_zero (p.clause kind at) = kind_zero kind

    kind_zero : (c : p.ClauseKind) → zeroed (kind_breaches s c) ≡ kind_breaches s (unplaced_kind (forget_kind c))
    kind_zero (p.sizes es) = exprs_zero es
    kind_zero (p.permutation es) = exprs_zero es
    kind_zero (p.counts cs) = counts_zero cs
    kind_zero (p.looprange first count) = λ i. expr_zero first i & expr_zero count i
    kind_zero p.full = refl
    kind_zero (p.partial factor) = option_zero factor
    kind_zero (p.apply m es is) = λ i. exprs_zero es i & items_zero is i

    items_zero : (is : p.Items) → zeroed (items_breaches s is) ≡ items_breaches s (unplaced_items (forget_items is))
    items_zero p.no_items = refl
    items_zero (p.more_items x is) = λ i. item_zero x i & items_zero is i

    item_zero : (x : p.Item) → zeroed (item_breaches s x) ≡ item_breaches s (unplaced_item (forget_item x))
    item_zero (p.nothing at) = refl
    item_zero (p.acts d) = directive_zero d

-- ---- scopes

abbrev same_stmt : p.Stmt → p.Stmt
same_stmt a = unplaced_stmt (forget_stmt a)

abbrev same_stmts : p.Stmts → p.Stmts
same_stmts a = unplaced_stmts (forget_stmts a)

abbrev same_part : p.MaybeStmt → p.MaybeStmt
same_part a = unplaced_part (forget_maybe a)

abbrev same_head : p.Head → p.Head
same_head h = unplaced_head (forget_head h)

after_same : (s : Scope) (a : p.Stmt) → after_stmt s (same_stmt a) ≡ after_stmt s a
after_same s (p.decl t x at init span) = refl
after_same s _ = refl

part_same : (s : Scope) (a : p.MaybeStmt) → after_part s (same_part a) ≡ after_part s a
part_same s p.no_stmt = refl
part_same s (p.a_stmt a) = after_same s a

head_same : (s : Scope) (h : p.Head) → after_head s (same_head h) ≡ after_head s h
head_same s (p.head init init_at test test_at next next_at) =
    part_same (after_part (inner s) (same_part init)) next ∙ ap (λ u. after_part u next) (part_same (inner s) init)

-- ---- statements

module _ (f : Bool) where
  mutual
    stmt_zero : (l : Bool) (s : Scope) (a : p.Stmt) → zeroed (stmt_breaches f l s a) ≡ stmt_breaches f l s (same_stmt a)
    stmt_zero l s (p.decl t x at init span) = λ i. if_zero (is_taken s x) N2 at.start i & option_zero (declare x a_scalar s) init i
    stmt_zero l s (p.set t op e span) = λ i. target_zero s t i & expr_zero s e i
    stmt_zero l s (p.step t up span) = target_zero s t
    stmt_zero l s (p.print e span) = λ i. if_zero (not s.print_known) N1 span.start i & expr_zero s e i
    stmt_zero l s (p.input t input_at span) = λ i. target_zero s t i & if_zero (not s.input_known) N1 input_at i
    stmt_zero l s (p.if_ e a span) = λ i. expr_zero s e i & stmts_zero l (inner s) a i
    stmt_zero l s (p.if_else e a c span) = λ i. expr_zero s e i & (stmts_zero l (inner s) a i & stmts_zero l (inner s) c i)
    stmt_zero l s (p.while_ e a span) = λ i. expr_zero s e i & stmts_zero true (inner s) a i
    stmt_zero l s (p.do_ a e span) = λ i. stmts_zero true (inner s) a i & expr_zero s e i
    stmt_zero l s (p.for_ h a span) =
        let body = stmts_zero true (inner (after_head s h)) a ∙ ap (λ u. stmts_breaches f true (inner u) (same_stmts a)) (sym (head_same s h)) in
        λ i. head_zero l s h i & body i
    stmt_zero l s (p.block a span) = stmts_zero l (inner s) a
    stmt_zero l s (p.break_ span) = if_zero (not l) N6 span.start
    stmt_zero l s (p.continue_ span) = if_zero (not l) N7 span.start
    stmt_zero l s (p.empty span) = refl
    stmt_zero l s (p.omp d a span) = λ i. directive_zero s d i & stmts_zero l (inner s) a i
    stmt_zero l s (p.call x at es span) =
        let called = call_zero f (meaning s x) (length (expr_list es)) at.start ∙ ap (λ k. call_breaches f (meaning s x) k 0) (sym (count_same es)) in
        λ i. called i & exprs_zero s es i

    stmts_zero : (l : Bool) (s : Scope) (as' : p.Stmts) → zeroed (stmts_breaches f l s as') ≡ stmts_breaches f l s (same_stmts as')
    stmts_zero l s p.no_stmts = refl
    stmts_zero l s (p.more_stmts a as') =
        let rest = stmts_zero l (after_stmt s a) as' ∙ ap (λ u. stmts_breaches f l u (same_stmts as')) (sym (after_same s a)) in
        λ i. stmt_zero l s a i & rest i

    part_zero : (l : Bool) (s : Scope) (a : p.MaybeStmt) → zeroed (part_breaches f l s a) ≡ part_breaches f l s (same_part a)
    part_zero l s p.no_stmt = refl
    part_zero l s (p.a_stmt a) = stmt_zero l s a

    head_zero : (l : Bool) (s : Scope) (h : p.Head) → zeroed (head_breaches f l s h) ≡ head_breaches f l s (same_head h)
    head_zero l s (p.head init init_at test test_at next next_at) =
        let u = after_part (inner s) init in
        let same = sym (part_same (inner s) init) in
        let tested = option_zero u test ∙ ap (λ v. option_breaches v (option_map unplaced_expr (option_map forget_expr test))) same in
        let last = part_zero l u next ∙ ap (λ v. part_breaches f l v (same_part next)) same in
        λ i. part_zero l (inner s) init i & (tested i & last i)

-- ---- calls

mutual
  call_same : (s : Scope) (a : p.Stmt) → deepest_call s (same_stmt a) ≡ deepest_call s a
  call_same s (p.call x at args span) = refl
  call_same s (p.if_ e a span) = calls_same (inner s) a
  call_same s (p.if_else e a c span) = λ i. max (calls_same (inner s) a i) (calls_same (inner s) c i)
  call_same s (p.while_ e a span) = calls_same (inner s) a
  call_same s (p.do_ a e span) = calls_same (inner s) a
  call_same s (p.for_ h a span) =
      let body = ap (λ u. deepest_calls (inner u) (same_stmts a)) (head_same s h) ∙ calls_same (inner (after_head s h)) a in
      λ i. max (head_call_same s h i) (body i)
  call_same s (p.block a span) = calls_same (inner s) a
  call_same s (p.omp d a span) = calls_same (inner s) a
  call_same s _ = refl

  calls_same : (s : Scope) (as' : p.Stmts) → deepest_calls s (same_stmts as') ≡ deepest_calls s as'
  calls_same s p.no_stmts = refl
  calls_same s (p.more_stmts a as') =
      let rest = ap (λ u. deepest_calls u (same_stmts as')) (after_same s a) ∙ calls_same (after_stmt s a) as' in
      λ i. max (call_same s a i) (rest i)

  part_call_same : (s : Scope) (a : p.MaybeStmt) → deepest_part s (same_part a) ≡ deepest_part s a
  part_call_same s p.no_stmt = refl
  part_call_same s (p.a_stmt a) = call_same s a

  head_call_same : (s : Scope) (h : p.Head) → deepest_in_head s (same_head h) ≡ deepest_in_head s h
  head_call_same s (p.head init init_at test test_at next next_at) =
      let last = ap (λ u. deepest_part u (same_part next)) (part_same (inner s) init) ∙ part_call_same (after_part (inner s) init) next in
      λ i. max (part_call_same (inner s) init i) (last i)

-- ---- names

mutual
  names_same : (ns : List Name) (a : p.Stmt) → names.with_stmt ns (same_stmt a) ≡ names.with_stmt ns a
  names_same ns (p.decl t x at init s) = refl
  names_same ns (p.if_ e a s) = all_names_same ns a
  names_same ns (p.if_else e a c s) = all_names_same (names.with_stmts ns (same_stmts a)) c ∙ ap (λ ms. names.with_stmts ms c) (all_names_same ns a)
  names_same ns (p.while_ e a s) = all_names_same ns a
  names_same ns (p.do_ a e s) = all_names_same ns a
  names_same ns (p.for_ h a s) = all_names_same (names.with_head ns (same_head h)) a ∙ ap (λ ms. names.with_stmts ms a) (head_names_same ns h)
  names_same ns (p.block a s) = all_names_same ns a
  names_same ns (p.omp d a s) = all_names_same ns a
  names_same ns _ = refl

  all_names_same : (ns : List Name) (as' : p.Stmts) → names.with_stmts ns (same_stmts as') ≡ names.with_stmts ns as'
  all_names_same ns p.no_stmts = refl
  all_names_same ns (p.more_stmts a as') = all_names_same (names.with_stmt ns (same_stmt a)) as' ∙ ap (λ ms. names.with_stmts ms as') (names_same ns a)

  part_names_same : (ns : List Name) (a : p.MaybeStmt) → names.with_part ns (same_part a) ≡ names.with_part ns a
  part_names_same ns p.no_stmt = refl
  part_names_same ns (p.a_stmt a) = names_same ns a

  head_names_same : (ns : List Name) (h : p.Head) → names.with_head ns (same_head h) ≡ names.with_head ns h
  head_names_same ns (p.head init init_at test test_at next next_at) =
      part_names_same (names.with_part ns (same_part init)) next ∙ ap (λ ms. names.with_part ms next) (part_names_same ns init)

-- ---- items

abbrev size_asked : Scope → ℕ → b.Expr → ℕ
size_asked s index e = if index == most_dims then 0 else in_bounds (unwrap_or (constant (constant_named s) e) (pos 0))

dimension_same : (s : Scope) (index : ℕ) (e : p.Expr) → dimension s index (again e) ≡ dimension s index e
dimension_same s index e = ap (size_asked s index) (again_expr (forget_expr e))

start_is : (e : b.Expr) → (expr_span (unplaced_expr e)).start ≡ 0
start_is (b.num n t) = refl
start_is (b.read x) = refl
start_is (b.item x es) = refl
start_is (b.un op a) = refl
start_is (b.bin op l r) = refl
start_is (b.cond t y n) = refl
start_is (b.cast t a) = refl

-- a breach at an expression
at_zero : (c d : Bool) (r : NameRule) (e : p.Expr) → c ≡ d → zeroed (breach_if c r (expr_span e).start) ≡ breach_if d r (expr_span (again e)).start
at_zero c d r e same = if_zero c r (expr_span e).start ∙ (λ i. breach_if (same i) r (sym (start_is (forget_expr e)) i))

module _ (s : Scope) where
  dims_zero : (index : ℕ) (es : p.Exprs) → zeroed (dims_breaches s index es) ≡ dims_breaches s index (again_all es)
  dims_zero index p.no_exprs = refl
  dims_zero index (p.more_exprs e es) =
      let asked = at_zero (dimension s index e == 0) (dimension s index (again e) == 0) N5 e (ap (λ k. k == 0) (sym (dimension_same s index e))) in
      λ i. expr_zero s e i & (asked i & dims_zero (index + 1) es i)

  product_same : (index : ℕ) (es : p.Exprs) → dims_product s index (again_all es) ≡ dims_product s index es
  product_same index p.no_exprs = refl
  product_same index (p.more_exprs e es) = λ i. dimension_same s index e i * product_same (index + 1) es i

  elements_same : (es : p.Exprs) → elements_of s (again_all es) ≡ elements_of s es
  elements_same p.no_exprs = refl
  elements_same (p.more_exprs e es) = product_same 0 (p.more_exprs e es)

  initial_zero : (t : Ty) (o : Option p.Expr) → zeroed (initial_breaches s t o) ≡ initial_breaches s t (option_map unplaced_expr (option_map forget_expr o))
  initial_zero t None = refl
  initial_zero t (Some e) =
      let held = at_zero (not (is_held t (constant (constant_named s) (forget_expr e)))) (not (is_held t (constant (constant_named s) (forget_expr (again e))))) N9 e
      (ap (λ x. not (is_held t (constant (constant_named s) x))) (sym (again_expr (forget_expr e)))) in
      λ i. expr_zero s e i & held i

size_zero : (n at : ℕ) (es : p.Exprs) → zeroed (size_breaches n at es) ≡ size_breaches n 0 (again_all es)
size_zero n at p.no_exprs = refl
size_zero n at (p.more_exprs e es) = if_zero (nat_lt most_elements n) N8 at

abbrev same_params : List p.Param → List p.Param
same_params ps = map unplaced_param (map forget_param ps)

params_zero : (s : Scope) (ps : List p.Param) → zeroed (params_breaches s ps) ≡ params_breaches s (same_params ps)
params_zero s [] = refl
params_zero s (x ∷ ps) = λ i. if_zero (is_taken s x.name) N2 x.name_span.start i & params_zero (declare x.name a_scalar s) ps i

params_same : (s : Scope) (ps : List p.Param) → scopes.with_params s (same_params ps) ≡ scopes.with_params s ps
params_same s [] = refl
params_same s (x ∷ ps) = params_same (declare x.name a_scalar s) ps

param_names_same : (ns : List Name) (ps : List p.Param) → names.with_params ns (same_params ps) ≡ names.with_params ns ps
param_names_same ns [] = refl
param_names_same ns (x ∷ ps) = param_names_same (names.with_name x.name ns) ps

params_length : (ps : List p.Param) → length (same_params ps) ≡ length ps
params_length [] = refl
params_length (x ∷ ps) = ap suc (params_length ps)

global_same : (s : Scope) (x : Name) (dims : p.Exprs) → with_global s x (again_all dims) ≡ with_global s x dims
global_same s x dims = ap (λ k. declare x (Variable k) s) (count_same dims)

elements_more : (k : Known) (x : Name) (dims : p.Exprs) → more_elements k x (again_all dims) ≡ more_elements k x dims
elements_more k x dims =
    ap (λ n. min (k.elements + n) (most_elements + 1))
    (ap (λ u. elements_of u (again_all dims)) (global_same k.scope x dims) ∙ elements_same (with_global k.scope x dims) dims)

inside_same : (s : Scope) (ps : List p.Param) → in_params s (same_params ps) ≡ in_params s ps
inside_same s ps = params_same (inner s) ps

abbrev same_top : p.Top → p.Top
same_top t = unplaced_top (forget_top t)

top_zero : (k : Known) (t : p.Top) → zeroed (top_breaches k t) ≡ top_breaches k (same_top t)
top_zero k (p.define x negative value t at) = if_zero (names.is_among x k.names) N2 at.start
top_zero k (p.extern_ port span) = refl
top_zero k (p.global t x at dims init) =
    let u = with_global k.scope x dims in
    let same = sym (global_same k.scope x dims) in
    let asked = dims_zero u 0 dims ∙ ap (λ v. dims_breaches v 0 (again_all dims)) same in
    let sized = size_zero (more_elements k x dims) at.start dims ∙ ap (λ n. size_breaches n 0 (again_all dims)) (sym (elements_more k x dims)) in
    let begun = initial_zero u t init ∙ ap (λ v. initial_breaches v t (option_map unplaced_expr (option_map forget_expr init))) same in
    λ i. if_zero (is_taken k.scope x) N2 at.start i & (asked i & (sized i & begun i))
top_zero k (p.function x at params body span) =
    let run = stmts_zero true false (in_params k.scope params) body ∙ ap (λ u. stmts_breaches true false u (same_stmts body)) (sym (inside_same k.scope params)) in
    λ i. if_zero (is_taken k.scope x) N2 at.start i & (params_zero (inner k.scope) params i & run i)
top_zero k (p.main body span) = stmts_zero false false (inner k.scope) body

known_same : (k : Known) (t : p.Top) → known_after k (same_top t) ≡ known_after k t
known_same k (p.define x negative value t at) = refl
known_same k (p.extern_ port span) = refl
known_same k (p.global t x at dims init) =
    λ i. record { scope = global_same k.scope x dims i; names = names.with_name x k.names; elements = elements_more k x dims i }
known_same k (p.function x at params body span) =
    let deep = ap (λ u. function_depth u (same_stmts body)) (inside_same k.scope params) ∙ ap (λ d. min (1 + d) 16) (calls_same (in_params k.scope params) body) in
    let noted = all_names_same (names.with_params k.names (same_params params)) body ∙ ap (λ ns. names.with_stmts ns body) (param_names_same k.names params) in
    λ i. record k {
      scope = declare x (Function (params_length params i) (deep i)) k.scope;
      names = names.with_name x (noted i);
    }
known_same k (p.main body span) = ap (λ ns. record k { names = ns }) (all_names_same k.names body)

program_zero : (k : Known) (ts : p.Program) → zeroed (breaches_from k ts) ≡ breaches_from k (unplaced (forget_program ts))
program_zero k [] = refl
program_zero k (t ∷ ts) =
    let rest = program_zero (known_after k t) ts ∙ ap (λ u. breaches_from u (unplaced (forget_program ts))) (sym (known_same k t)) in
    λ i. top_zero k t i & rest i

-- ---- the law

pub breaches_without_places : BreachesWithoutPlaces
breaches_without_places program =
    let same = program_zero nothing_known program in
    (λ h. subst HasNone same (zeroed_none (breaches program) h), λ h. none_zeroed (breaches program) (subst HasNone (sym same) h))
