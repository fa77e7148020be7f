-- Canonical loops (OpenMP 6.0, 6.4.1, canonical loop nest form): the variable, the bounds, the test and the step that a head
-- is written with.
use Rattle.std.specs.Prelude.{zero, suc, ◌^◌, Option, Some, None, Bool, true, false, ◌&&◌, ◌==◌, ℤ, pos, negsuc, neg_ℤ, nat_abs, nat_lt, if◌then◌else◌, bytes_eq, List}
use Rattle.c_tree.specs.Bare.{Name, Expr, read, bin, no_exprs, target, decl, set, step, Head, head, MaybeStmt, a_stmt}
use Rattle.c_tree.specs.declared.tree.Ty.{Ty}
use Rattle.c_tree.specs.declared.tree.BinOp.{BinOp}
use Rattle.c_tree.specs.declared.tree.BinOp.TheVariants as op
use Rattle.c_tree.specs.declared.tree.SetOp.TheVariants.{Plain, Add, Sub}
use Rattle.c_semantics.specs.Meaning.Expressions.{Define, constant, where_true}

-- the variable, with the type that the head declares for it; its bounds; the test as seen from the variable; and the
-- signed change of the variable in one turn
pub record Canonical : Type 0 where
  pub var : Name
  pub ty : Option Ty
  pub lb : Expr
  pub ub : Expr
  pub test : BinOp
  pub step : ℤ

-- ---- the head's parts

pub record Init : Type 0 where
  pub var : Name
  pub ty : Option Ty
  pub lb : Expr

-- `var = lb` or `type var = lb`
abbrev pub init : MaybeStmt → Option Init
init (a_stmt (decl t x (Some e))) = Some (record { var = x; ty = Some t; lb = e })
init (a_stmt (set (target x no_exprs) Plain e)) = Some (record { var = x; ty = None; lb = e })
init _ = None

pub record Test : Type 0 where
  pub op : BinOp
  pub ub : Expr

-- a comparison seen from its other side; no test has another operator
abbrev pub turned : BinOp → Option BinOp
turned op.Lt = Some op.Gt
turned op.Gt = Some op.Lt
turned op.Le = Some op.Ge
turned op.Ge = Some op.Le
turned op.Ne = Some op.Ne
turned _ = None

abbrev pub is_read : Name → Expr → Bool
is_read x (read y) = bytes_eq x y
is_read x _ = false

abbrev pub test_from : Bool → Bool → BinOp → Option BinOp → Expr → Expr → Option Test
test_from true r o (Some o') a b = Some (record { op = o; ub = b })
test_from false true o (Some o') a b = Some (record { op = o'; ub = a })
test_from _ _ o p a b = None

-- `var op ub` or `ub op var`; where both sides are var, the left one is var
abbrev pub test : Name → Option Expr → Option Test
test x (Some (bin o a b)) = test_from (is_read x a) (is_read x b) o (turned o) a b
test x _ = None

abbrev pub negated : Option ℤ → Option ℤ
negated (Some z) = Some (neg_ℤ z)
negated None = None

-- `var + c`, `c + var` or `var - c`, c being a constant expression
abbrev pub added : List Define → Name → Expr → Option ℤ
added ds x (bin op.Add a b) = if is_read x a then constant ds b else where_true (is_read x b) (constant ds a)
added ds x (bin op.Sub a b) = where_true (is_read x a) (negated (constant ds b))
added ds x _ = None

-- `var++`, `var--`, `var += c`, `var -= c` or `var = ` one of the above; `++var` is the same tree as `var++`
abbrev pub increment : List Define → Name → MaybeStmt → Option ℤ
increment ds x (a_stmt (step (target y no_exprs) up)) = where_true (bytes_eq x y) (Some (if up then pos 1 else negsuc 0))
increment ds x (a_stmt (set (target y no_exprs) Add e)) = where_true (bytes_eq x y) (constant ds e)
increment ds x (a_stmt (set (target y no_exprs) Sub e)) = where_true (bytes_eq x y) (negated (constant ds e))
increment ds x (a_stmt (set (target y no_exprs) Plain e)) = where_true (bytes_eq x y) (added ds x e)
increment ds x _ = None

-- ---- steps

abbrev pub is_positive : ℤ → Bool
is_positive (pos zero) = false
is_positive (pos (suc k)) = true
is_positive (negsuc k) = false

abbrev pub is_negative : ℤ → Bool
is_negative (pos k) = false
is_negative (negsuc k) = true

-- positive for `<` and `<=`, negative for `>` and `>=`, and 1 or -1 for `!=`
abbrev pub fits_test : BinOp → ℤ → Bool
fits_test op.Lt z = is_positive z
fits_test op.Le z = is_positive z
fits_test op.Gt z = is_negative z
fits_test op.Ge z = is_negative z
fits_test op.Ne z = nat_abs z == 1
fits_test _ z = false

-- and within -(2^63 - 1) to 2^63 - 1
abbrev pub is_step_for : BinOp → ℤ → Bool
is_step_for o z = fits_test o z && nat_lt (nat_abs z) (2 ^ 63)

abbrev pub with_step : Init → Test → Option ℤ → Option Canonical
with_step i t None = None
with_step i t (Some z) =
    if is_step_for t.op z then Some (record { var = i.var; ty = i.ty; lb = i.lb; ub = t.ub; test = t.op; step = z })
    else None

abbrev pub with_test : List Define → MaybeStmt → Init → Option Test → Option Canonical
with_test ds m i None = None
with_test ds m i (Some t) = with_step i t (increment ds i.var m)

abbrev pub with_init : List Define → Option Expr → MaybeStmt → Option Init → Option Canonical
with_init ds e m None = None
with_init ds e m (Some i) = with_test ds m i (test i.var e)

-- the parts of a canonical head, and None for any other head
abbrev pub canonical : List Define → Head → Option Canonical
canonical ds (head i e m) = with_init ds e m (init i)
