-- The bounds and the step of a well-formed head have literals with values that their types hold.
use Rattle.std.proofs.Common.{◌≡◌, subst, List, Option, Some, None, Bool, true, false, ℤ}
use Rattle.std.specs.Prelude.{IfSome, if◌then◌else◌}
use Rattle.std.specs.Option.{option_map}
use Rattle.c_tree.specs.Bare.{Name, Expr, bin, decl, set, target, no_exprs, MaybeStmt, a_stmt, Head, head}
use Rattle.c_tree.specs.BareOf.{bare_expr}
use Rattle.c_tree.specs.Constants.{LiteralsAreHeld}
use Rattle.c_tree.specs.WellFormed.{WellFormedPart, WellFormedOption, WellFormedHead}
use Rattle.c_tree.specs.declared.tree.BinOp.{BinOp}
use Rattle.c_tree.specs.declared.tree.SetOp.TheVariants.{Plain}
use Rattle.c_semantics.specs.Meaning.Expressions.{Define}
use Rattle.c_semantics.specs.Loops.CanonicalForm.{Canonical, Init, init, Test, test, test_from, is_read, turned, is_step_for, increment, with_step, with_test, with_init, canonical}
use Rattle.canonical_nests.specs.Canonical.{PartIsHeld, HeadIsHeld, seen_loop}
use Rattle.canonical_nests.specs.declared.canonical.CanonLoop.{CanonLoop}
use Rattle.canonical_nests.proofs.HeldTrees.{expr_held}

abbrev BoundsAreHeld : Option Canonical → Type 0
BoundsAreHeld o = IfSome o (λ c. LiteralsAreHeld c.lb × LiteralsAreHeld c.ub)

init_held : (i : MaybeStmt) → WellFormedPart i → IfSome (init i) (λ x. LiteralsAreHeld x.lb)
init_held (a_stmt (decl t x (Some e))) w = expr_held e w.1
init_held (a_stmt (set (target x no_exprs) Plain e)) w = expr_held e w.1
init_held _ w = tt

from_held : (l r : Bool) (o : BinOp) (p : Option BinOp) (a b : Expr) → LiteralsAreHeld a → LiteralsAreHeld b → IfSome (test_from l r o p a b) (λ t. LiteralsAreHeld t.ub)
from_held true r o (Some p) a b ha hb = hb
from_held false true o (Some p) a b ha hb = ha
from_held _ _ o p a b ha hb = tt

test_held : (x : Name) (o : Option Expr) → WellFormedOption o → IfSome (test x o) (λ t. LiteralsAreHeld t.ub)
test_held x (Some (bin o a b)) w = from_held (is_read x a) (is_read x b) o (turned o) a b (expr_held a w.0) (expr_held b w.1)
test_held x _ w = tt

chosen_held : (b : Bool) (c : Canonical) → LiteralsAreHeld c.lb → LiteralsAreHeld c.ub → BoundsAreHeld (if b then Some c else None)
chosen_held true c hl hu = (hl, hu)
chosen_held false c hl hu = tt

step_held : (i : Init) (t : Test) (o : Option ℤ) → LiteralsAreHeld i.lb → LiteralsAreHeld t.ub → BoundsAreHeld (with_step i t o)
step_held i t None hl hu = tt
step_held i t (Some z) hl hu = chosen_held (is_step_for t.op z) (record { var = i.var; ty = i.ty; lb = i.lb; ub = t.ub; test = t.op; step = z }) hl hu

tested_held : (ds : List Define) (m : MaybeStmt) (i : Init) (o : Option Test) → LiteralsAreHeld i.lb → IfSome o (λ t. LiteralsAreHeld t.ub) → BoundsAreHeld (with_test ds m i o)
tested_held ds m i None hl h = tt
tested_held ds m i (Some t) hl h = step_held i t (increment ds i.var m) hl h

begun_held : (ds : List Define) (e : Option Expr) (m : MaybeStmt) (o : Option Init) → WellFormedOption e → IfSome o (λ x. LiteralsAreHeld x.lb) → BoundsAreHeld (with_init ds e m o)
begun_held ds e m None w h = tt
begun_held ds e m (Some i) w h = tested_held ds m i (test i.var e) h (test_held i.var e w)

bounds_held : (ds : List Define) (h : Head) → WellFormedHead h → BoundsAreHeld (canonical ds h)
bounds_held ds (head i e m) w = begun_held ds e m (init i) w.2 (init_held i w.1)

lb_of : (o : Option CanonLoop) → BoundsAreHeld (option_map seen_loop o) → IfSome o (λ l. LiteralsAreHeld (bare_expr l.lb.now))
lb_of None h = tt
lb_of (Some l) h = h.0

ub_of : (o : Option CanonLoop) → BoundsAreHeld (option_map seen_loop o) → IfSome o (λ l. LiteralsAreHeld (bare_expr l.ub.now))
ub_of None h = tt
ub_of (Some l) h = h.1

pub lb_held : (ds : List Define) (h : Head) (o : Option CanonLoop) → WellFormedHead h → canonical ds h ≡ option_map seen_loop o → IfSome o (λ l. LiteralsAreHeld (bare_expr l.lb.now))
lb_held ds h o w e = lb_of o (subst BoundsAreHeld e (bounds_held ds h w))

pub ub_held : (ds : List Define) (h : Head) (o : Option CanonLoop) → WellFormedHead h → canonical ds h ≡ option_map seen_loop o → IfSome o (λ l. LiteralsAreHeld (bare_expr l.ub.now))
ub_held ds h o w e = ub_of o (subst BoundsAreHeld e (bounds_held ds h w))

part_held : (m : MaybeStmt) → WellFormedPart m → PartIsHeld m
part_held (a_stmt (set t o e)) w = expr_held e w.1
part_held _ w = tt

pub head_held : (h : Head) → WellFormedHead h → HeadIsHeld h
head_held (head i e m) w = part_held m w.4

pub ruleset bounds = (head_held)
