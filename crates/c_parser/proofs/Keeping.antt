-- What is kept of a statement is built as the statement is.
use Rattle.std.proofs.Common.{◌≡◌, ℕ, ◌+◌, max, Bool, true, false, Option, Some, None, refl, ap, ◌∙◌, arith}
use Rattle.std.specs.Prelude.{nat_le, cond}
use Rattle.std.specs.Option.{option_map}
use Rattle.c_tree.specs.Bare.{Name}
use Rattle.c_tree.specs.Placed.{Expr, Exprs, Target, Directive, Stmt, decl, set, step, print, input, if_, if_else, while_, do_, for_, block, omp, call, Stmts, no_stmts, more_stmts, MaybeStmt, a_stmt, Head, head}
use Rattle.c_tree.specs.Forget.{forget_expr, forget_exprs, forget_target, forget_stmt, forget_stmts, forget_maybe, forget_head, forget_directive}
use Rattle.c_tree.specs.Height.{expr_height, exprs_height, option_height, target_height, directive_height, stmt_height, stmts_height, part_height, head_height}
use Rattle.c_tree.specs.declared.tree.Span.{Span}
use Rattle.c_tree.specs.declared.tree.Ty.{Ty}
use Rattle.c_tree.specs.declared.tree.SetOp.{SetOp}
use Rattle.pragma_grammar.specs.Deep.{first, too_deep, deep_expr, deep_exprs, deep_option, deep_directive}
use Rattle.pragma_grammar.specs.DirectiveKept.{kept, deep, one, both, kept_or, keep_expr, keep_exprs, keep_directive}
use Rattle.c_grammar.specs.Reading.{deep_target, deep_stmt, deep_stmts, deep_part, deep_head}
use Rattle.c_parser.specs.Kept.{keep_option, keep_target, keep_stmt, keep_stmts, keep_part, keep_head, node_of, join, join_last, pair}

-- ---- nodes over one part, two and three

node_test : {X : Type 0} (b : Bool) (height start : ℕ) (x : X) → kept_or (cond b (Some start) None) height x ≡ cond b (deep start) (kept height x)
node_test true height start x = refl
node_test false height start x = refl

pub node_one : {X Y : Type 0} (f : X → Y) (d : Option ℕ) (h start : ℕ) (x : X) → kept_or (first d (too_deep (1 + h) start)) (1 + h) (f x) ≡ node_of start (one f (kept_or d h x))
node_one f None h start x = node_test (nat_le 257 (1 + h)) (1 + h) start (f x)
node_one f (Some p) h start x = refl

pub node_both : {X Y Z : Type 0} (f : X → Y → Z) (c d : Option ℕ) (g h start : ℕ) (x : X) (y : Y)
    → kept_or (first c (first d (too_deep (1 + max g h) start))) (1 + max g h) (f x y) ≡ node_of start (both f (kept_or c g x) (kept_or d h y))
node_both f None None g h start x y = node_test (nat_le 257 (1 + max g h)) (1 + max g h) start (f x y)
node_both f None (Some p) g h start x y = refl
node_both f (Some p) d g h start x y = refl

node_three : {W X Y Z : Type 0} (f : W → X × Y → Z) (b c d : Option ℕ) (i g h start : ℕ) (w : W) (x : X) (y : Y)
    → kept_or (first b (first c (first d (too_deep (1 + max i (max g h)) start)))) (1 + max i (max g h)) (f w (pair x y)) ≡ node_of start (both f (kept_or b i w) (both pair (kept_or c g x) (kept_or d h y)))
node_three f None None None i g h start w x y = node_test (nat_le 257 (1 + max i (max g h))) (1 + max i (max g h)) start (f w (pair x y))
node_three f None None (Some p) i g h start w x y = refl
node_three f None (Some p) d i g h start w x y = refl
node_three f (Some p) c d i g h start w x y = refl

-- ---- each statement

pub keep_set : (t : Target) (o : SetOp) (e : Expr) (s : Span) → keep_stmt (set t o e s) ≡ node_of s.start (both (λ t e. set t o e s) (keep_target t) (keep_expr e))
keep_set t o e s = node_both (λ t e. set t o e s) (deep_target t) (deep_expr e) (target_height (forget_target t)) (expr_height (forget_expr e)) s.start t e

pub keep_step : (t : Target) (up : Bool) (s : Span) → keep_stmt (step t up s) ≡ node_of s.start (one (λ t. step t up s) (keep_target t))
keep_step t up s = node_one (λ t. step t up s) (deep_target t) (target_height (forget_target t)) s.start t

pub keep_print : (e : Expr) (s : Span) → keep_stmt (print e s) ≡ node_of s.start (one (λ e. print e s) (keep_expr e))
keep_print e s = node_one (λ e. print e s) (deep_expr e) (expr_height (forget_expr e)) s.start e

pub keep_input : (t : Target) (at : ℕ) (s : Span) → keep_stmt (input t at s) ≡ node_of s.start (one (λ t. input t at s) (keep_target t))
keep_input t at s = node_one (λ t. input t at s) (deep_target t) (target_height (forget_target t)) s.start t

pub keep_decl : (ty : Ty) (x : Name) (at : Span) (init : Option Expr) (s : Span) → keep_stmt (decl ty x at init s) ≡ node_of s.start (one (λ i. decl ty x at i s) (keep_option init))
keep_decl ty x at init s = node_one (λ i. decl ty x at i s) (deep_option init) (option_height (option_map forget_expr init)) s.start init

pub keep_call : (x : Name) (at : Span) (es : Exprs) (s : Span) → keep_stmt (call x at es s) ≡ node_of s.start (one (λ es. call x at es s) (keep_exprs es))
keep_call x at es s = node_one (λ es. call x at es s) (deep_exprs es) (exprs_height (forget_exprs es)) s.start es

pub keep_if : (e : Expr) (ss : Stmts) (s : Span) → keep_stmt (if_ e ss s) ≡ node_of s.start (both (λ e ss. if_ e ss s) (keep_expr e) (keep_stmts ss))
keep_if e ss s = node_both (λ e ss. if_ e ss s) (deep_expr e) (deep_stmts ss) (expr_height (forget_expr e)) (stmts_height (forget_stmts ss)) s.start e ss

pub keep_if_else : (e : Expr) (ss rs : Stmts) (s : Span) → keep_stmt (if_else e ss rs s) ≡ node_of s.start (both (λ e p. if_else e p.0 p.1 s) (keep_expr e) (both pair (keep_stmts ss) (keep_stmts rs)))
keep_if_else e ss rs s = node_three (λ e p. if_else e p.0 p.1 s) (deep_expr e) (deep_stmts ss) (deep_stmts rs) (expr_height (forget_expr e)) (stmts_height (forget_stmts ss)) (stmts_height (forget_stmts rs)) s.start e ss rs

pub keep_while : (e : Expr) (ss : Stmts) (s : Span) → keep_stmt (while_ e ss s) ≡ node_of s.start (both (λ e ss. while_ e ss s) (keep_expr e) (keep_stmts ss))
keep_while e ss s = node_both (λ e ss. while_ e ss s) (deep_expr e) (deep_stmts ss) (expr_height (forget_expr e)) (stmts_height (forget_stmts ss)) s.start e ss

pub keep_do : (ss : Stmts) (e : Expr) (s : Span) → keep_stmt (do_ ss e s) ≡ node_of s.start (both (λ ss e. do_ ss e s) (keep_stmts ss) (keep_expr e))
keep_do ss e s = node_both (λ ss e. do_ ss e s) (deep_stmts ss) (deep_expr e) (stmts_height (forget_stmts ss)) (expr_height (forget_expr e)) s.start ss e

pub keep_for : (h : Head) (ss : Stmts) (s : Span) → keep_stmt (for_ h ss s) ≡ node_of s.start (both (λ h ss. for_ h ss s) (keep_head h) (keep_stmts ss))
keep_for h ss s = node_both (λ h ss. for_ h ss s) (deep_head h) (deep_stmts ss) (head_height (forget_head h)) (stmts_height (forget_stmts ss)) s.start h ss

pub keep_block : (ss : Stmts) (s : Span) → keep_stmt (block ss s) ≡ node_of s.start (one (λ ss. block ss s) (keep_stmts ss))
keep_block ss s = node_one (λ ss. block ss s) (deep_stmts ss) (stmts_height (forget_stmts ss)) s.start ss

pub keep_omp : (d : Directive) (ss : Stmts) (s : Span) → keep_stmt (omp d ss s) ≡ node_of s.start (both (λ d ss. omp d ss s) (keep_directive d) (keep_stmts ss))
keep_omp d ss s = node_both (λ d ss. omp d ss s) (deep_directive d) (deep_stmts ss) (directive_height (forget_directive d)) (stmts_height (forget_stmts ss)) s.start d ss

-- ---- lists

pub first_first : (a b c : Option ℕ) → first a (first b c) ≡ first (first a b) c
first_first None b c = refl
first_first (Some p) b c = refl

pub first_none : (a : Option ℕ) → first a None ≡ a
first_none None = refl
first_none (Some p) = refl

pub both_kept : {X Y Z : Type 0} (f : X → Y → Z) (c d : Option ℕ) (g h : ℕ) (x : X) (y : Y) → kept_or (first c d) (max g h) (f x y) ≡ both f (kept_or c g x) (kept_or d h y)
both_kept f None None g h x y = refl
both_kept f None (Some p) g h x y = refl
both_kept f (Some p) d g h x y = refl

pub one_kept : {X Y : Type 0} (f : X → Y) (d : Option ℕ) (h : ℕ) (x : X) → kept_or d h (f x) ≡ one f (kept_or d h x)
one_kept f None h x = refl
one_kept f (Some p) h x = refl

deep_more : (ss : Stmts) (s : Stmt) → deep_stmts (join_last ss s) ≡ first (deep_stmts ss) (deep_stmt s)
deep_more no_stmts s = first_none (deep_stmt s)
deep_more (more_stmts r ss) s = ap (first (deep_stmt r)) (deep_more ss s) ∙ first_first (deep_stmt r) (deep_stmts ss) (deep_stmt s)

higher : (ss : Stmts) (s : Stmt) → stmts_height (forget_stmts (join_last ss s)) ≡ max (stmts_height (forget_stmts ss)) (stmt_height (forget_stmt s))
higher no_stmts s = omega arith
higher (more_stmts r ss) s = let h = higher ss s in omega arith

pub keep_more : (ss : Stmts) (s : Stmt) → keep_stmts (join_last ss s) ≡ both join_last (keep_stmts ss) (keep_stmt s)
keep_more ss s =
    ap (λ d. kept_or d (stmts_height (forget_stmts (join_last ss s))) (join_last ss s)) (deep_more ss s)
    ∙ ap (λ h. kept_or (first (deep_stmts ss) (deep_stmt s)) h (join_last ss s)) (higher ss s)
    ∙ both_kept join_last (deep_stmts ss) (deep_stmt s) (stmts_height (forget_stmts ss)) (stmt_height (forget_stmt s)) ss s

pub keep_some : (e : Expr) → keep_option (Some e) ≡ one Some (keep_expr e)
keep_some e = one_kept Some (deep_expr e) (expr_height (forget_expr e)) e

pub keep_a_stmt : (s : Stmt) → keep_part (a_stmt s) ≡ one a_stmt (keep_stmt s)
keep_a_stmt s = one_kept a_stmt (deep_stmt s) (stmt_height (forget_stmt s)) s

pub keep_parts : (i : MaybeStmt) (t : Option Expr) (n : MaybeStmt) (i_at t_at n_at : ℕ)
    → keep_head (head i i_at t t_at n n_at) ≡ both (λ i p. head i i_at p.0 t_at p.1 n_at) (keep_part i) (both pair (keep_option t) (keep_part n))
keep_parts i t n i_at t_at n_at =
    both_kept (λ i p. head i i_at p.0 t_at p.1 n_at) (deep_part i) (first (deep_option t) (deep_part n)) (part_height (forget_maybe i)) (max (option_height (option_map forget_expr t)) (part_height (forget_maybe n))) i (pair t n)
    ∙ ap (both (λ i p. head i i_at p.0 t_at p.1 n_at) (keep_part i)) (both_kept pair (deep_option t) (deep_part n) (option_height (option_map forget_expr t)) (part_height (forget_maybe n)) t n)

-- ---- statements that were pushed

pub join_none : (ss : Stmts) → join ss no_stmts ≡ ss
join_none no_stmts = refl
join_none (more_stmts s ss) = ap (more_stmts s) (join_none ss)

pub join_more : (ss : Stmts) (s : Stmt) (rs : Stmts) → join (join_last ss s) rs ≡ join ss (more_stmts s rs)
join_more no_stmts s rs = refl
join_more (more_stmts r ss) s rs = ap (more_stmts r) (join_more ss s rs)
