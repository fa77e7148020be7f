-- A program is too deep somewhere exactly where its height is above 256.
use Rattle.std.proofs.Common.{◌≡◌, ℕ, ◌+◌, ◌≤◌, max, Bool, true, false, cond, nat_le, List, [], ◌∷◌, Option, Some, None, refl, arith}
use Rattle.c_tree.specs.Placed.{Expr, Stmt, decl, set, step, print, input, if_, if_else, while_, do_, for_, block, break_, continue_, empty, omp, call, Stmts, no_stmts, more_stmts, MaybeStmt, no_stmt, a_stmt, Head, head, Target, target, Top, define, extern_, global, function, main}
use Rattle.c_tree.specs.Forget.{forget_expr, forget_exprs, forget_directive, forget_stmt, forget_stmts, forget_maybe, forget_head, forget_target, forget_top, forget_program}
use Rattle.c_tree.specs.Height.{expr_height, exprs_height, option_height, target_height, directive_height, stmt_height, stmts_height, head_height, part_height, top_height, program_height}
use Rattle.std.specs.Option.{option_map}
use Rattle.pragma_grammar.specs.Deep.{first, too_deep, deep_expr, deep_exprs, deep_option, deep_directive}
use Rattle.pragma_grammar.proofs.OneTree as exprs
use Rattle.pragma_grammar.proofs.OneTree.{within, not_too_deep, none_too_deep}
use Rattle.pragma_grammar.proofs.DirectiveHeights.{directive_not_too_deep}
use Rattle.c_grammar.specs.Programs.{Started, tops_of}
use Rattle.c_grammar.specs.Reading.{deep_target, deep_stmt, deep_stmts, deep_part, deep_head, deep_top, deep_items, DeepWhereAbove}

-- of two places there is none
both_none : (p q : Option ℕ) → first p q ≡ None → (p ≡ None) × (q ≡ None)
both_none None q none = (refl, none)
both_none (Some p) q none = cc

shallow : (height start : ℕ) → too_deep height start ≡ None → height ≤ 256
shallow height start none = split (nat_le 257 height) refl none
  where
    split : (b : Bool) → nat_le 257 height ≡ b → cond b (Some start) None ≡ None → height ≤ 256
    split true deep n = cc
    split false within n = grind arith

shallow_top : (top : Top) (start : ℕ) → deep_top top start ≡ None → top_height (forget_top top) ≤ 256
shallow_top (define x minus n ty s) start none = omega arith
shallow_top (extern_ port s) start none = omega arith
shallow_top (global ty x s es init) start none = shallow _ start (both_none _ _ (both_none _ _ none).1).1
shallow_top (function x at ps ss s) start none = shallow _ start (both_none _ _ none).1
shallow_top (main ss s) start none = shallow _ start (both_none _ _ none).1

pub shallow_items : (items : List Started) → deep_items items ≡ None → program_height (forget_program (tops_of items)) ≤ 256
shallow_items [] none = omega arith
shallow_items (item ∷ items) none =
    let here = shallow_top item.top item.start (both_none _ _ none).0 in
    let others = shallow_items items (both_none _ _ none).1 in
    grind arith

-- ---- where the height is within, nothing is too deep

option_not_too_deep : (e : Option Expr) → option_height (option_map forget_expr e) ≤ 256 → deep_option e ≡ None
option_not_too_deep None l = refl
option_not_too_deep (Some e) l = not_too_deep e l

target_not_too_deep : (t : Target) → target_height (forget_target t) ≤ 256 → deep_target t ≡ None
target_not_too_deep (target x es s) l = none_too_deep es l

-- a node of one, two or three parts, each within its own height
one_part : (a : Option ℕ) (h n start : ℕ) → n ≡ 1 + h → n ≤ 256 → (h ≤ 256 → a ≡ None) → first a (too_deep n start) ≡ None
one_part a h n start q l x = exprs.both_none a _ (x (omega arith)) (within n start l)

two_parts : (a b : Option ℕ) (g h n start : ℕ) → n ≡ 1 + max g h → n ≤ 256 → (g ≤ 256 → a ≡ None) → (h ≤ 256 → b ≡ None) → first a (first b (too_deep n start)) ≡ None
two_parts a b g h n start q l x y = exprs.both_none a _ (x (omega arith)) (exprs.both_none b _ (y (omega arith)) (within n start l))

three_parts : (a b c : Option ℕ) (f g h n start : ℕ) → n ≡ 1 + max f (max g h) → n ≤ 256 → (f ≤ 256 → a ≡ None) → (g ≤ 256 → b ≡ None) → (h ≤ 256 → c ≡ None) → first a (first b (first c (too_deep n start))) ≡ None
three_parts a b c f g h n start q l x y z = exprs.both_none a _ (x (omega arith)) (exprs.both_none b _ (y (omega arith)) (exprs.both_none c _ (z (omega arith)) (within n start l)))

mutual
  stmt_not_too_deep : (s : Stmt) → stmt_height (forget_stmt s) ≤ 256 → deep_stmt s ≡ None
  stmt_not_too_deep (decl ty x at init s) l = one_part (deep_option init) _ _ s.start refl l (option_not_too_deep init)
  stmt_not_too_deep (set t o e s) l = two_parts (deep_target t) (deep_expr e) _ _ _ s.start refl l (target_not_too_deep t) (not_too_deep e)
  stmt_not_too_deep (step t up s) l = one_part (deep_target t) _ _ s.start refl l (target_not_too_deep t)
  stmt_not_too_deep (print e s) l = one_part (deep_expr e) _ _ s.start refl l (not_too_deep e)
  stmt_not_too_deep (input t at s) l = one_part (deep_target t) _ _ s.start refl l (target_not_too_deep t)
  stmt_not_too_deep (if_ e ss s) l = two_parts (deep_expr e) (deep_stmts ss) _ _ _ s.start refl l (not_too_deep e) (stmts_not_too_deep ss)
  stmt_not_too_deep (if_else e ss rs s) l = three_parts (deep_expr e) (deep_stmts ss) (deep_stmts rs) _ _ _ _ s.start refl l (not_too_deep e) (stmts_not_too_deep ss) (stmts_not_too_deep rs)
  stmt_not_too_deep (while_ e ss s) l = two_parts (deep_expr e) (deep_stmts ss) _ _ _ s.start refl l (not_too_deep e) (stmts_not_too_deep ss)
  stmt_not_too_deep (do_ ss e s) l = two_parts (deep_stmts ss) (deep_expr e) _ _ _ s.start refl l (stmts_not_too_deep ss) (not_too_deep e)
  stmt_not_too_deep (for_ h ss s) l = two_parts (deep_head h) (deep_stmts ss) _ _ _ s.start refl l (head_not_too_deep h) (stmts_not_too_deep ss)
  stmt_not_too_deep (block ss s) l = one_part (deep_stmts ss) _ _ s.start refl l (stmts_not_too_deep ss)
  stmt_not_too_deep (break_ s) l = refl
  stmt_not_too_deep (continue_ s) l = refl
  stmt_not_too_deep (empty s) l = refl
  stmt_not_too_deep (omp d ss s) l = two_parts (deep_directive d) (deep_stmts ss) _ _ _ s.start refl l (directive_not_too_deep d) (stmts_not_too_deep ss)
  stmt_not_too_deep (call x at es s) l = one_part (deep_exprs es) _ _ s.start refl l (none_too_deep es)

  stmts_not_too_deep : (ss : Stmts) → stmts_height (forget_stmts ss) ≤ 256 → deep_stmts ss ≡ None
  stmts_not_too_deep no_stmts l = refl
  stmts_not_too_deep (more_stmts s ss) l =
      let z : max (stmt_height (forget_stmt s)) (stmts_height (forget_stmts ss)) ≤ 256 = l in
      exprs.both_none (deep_stmt s) _ (stmt_not_too_deep s (omega arith)) (stmts_not_too_deep ss (omega arith))

  part_not_too_deep : (m : MaybeStmt) → part_height (forget_maybe m) ≤ 256 → deep_part m ≡ None
  part_not_too_deep no_stmt l = refl
  part_not_too_deep (a_stmt s) l = stmt_not_too_deep s l

  head_not_too_deep : (h : Head) → head_height (forget_head h) ≤ 256 → deep_head h ≡ None
  head_not_too_deep (head init at test test_at next next_at) l =
      let z : max (part_height (forget_maybe init)) (max (option_height (option_map forget_expr test)) (part_height (forget_maybe next))) ≤ 256 = l in
      exprs.both_none (deep_part init) _ (part_not_too_deep init (omega arith)) (exprs.both_none (deep_option test) _ (option_not_too_deep test (omega arith)) (part_not_too_deep next (omega arith)))

top_not_too_deep : (top : Top) (start : ℕ) → top_height (forget_top top) ≤ 256 → deep_top top start ≡ None
top_not_too_deep (define x minus n ty s) start l = refl
top_not_too_deep (extern_ port s) start l = refl
top_not_too_deep (global ty x s es init) start l = two_parts (deep_exprs es) (deep_option init) _ _ _ start refl l (none_too_deep es) (option_not_too_deep init)
top_not_too_deep (function x at ps ss s) start l = one_part (deep_stmts ss) _ _ start refl l (stmts_not_too_deep ss)
top_not_too_deep (main ss s) start l = one_part (deep_stmts ss) _ _ start refl l (stmts_not_too_deep ss)

items_not_too_deep : (items : List Started) → program_height (forget_program (tops_of items)) ≤ 256 → deep_items items ≡ None
items_not_too_deep [] l = refl
items_not_too_deep (item ∷ items) l =
    let z : max (top_height (forget_top item.top)) (program_height (forget_program (tops_of items))) ≤ 256 = l in
    exprs.both_none (deep_top item.top item.start) _ (top_not_too_deep item.top item.start (omega arith)) (items_not_too_deep items (omega arith))

pub deep_where_above : (items : List Started) → DeepWhereAbove items
deep_where_above items = (shallow_items items, items_not_too_deep items)
