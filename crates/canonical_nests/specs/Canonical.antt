-- What code answers of a canonical loop, and what it may count on.
use Rattle.std.specs.Prelude.{ℕ, ◌^◌, List, [], ◌∷◌, Option, Some, None, ℤ, nat_abs, nat_lt, if◌then◌else◌, Bool, false, bytes_eq}
use Rattle.std.specs.Option.{option_map}
use Rattle.c_tree.specs.Bare.{Name, Expr, define, Program, Stmt, for_, decl, set, MaybeStmt, no_stmt, a_stmt, Head, head, Target, target, no_exprs}
use Rattle.c_tree.specs.BareOf.{bare_expr}
use Rattle.c_tree.specs.Constants.{LiteralsAreHeld}
use Rattle.c_tree.specs.declared.tree.BinOp.{BinOp}
use Rattle.c_tree.specs.declared.tree.BinOp.TheVariants as op
use Rattle.c_semantics.specs.Meaning.Expressions.{Define}
use Rattle.c_semantics.specs.Meaning.Programs.{define_of}
use Rattle.c_semantics.specs.Loops.CanonicalForm as form
use Rattle.canonical_nests.specs.declared.canonical.Test.{Test}
use Rattle.canonical_nests.specs.declared.canonical.Test.TheVariants as test
use Rattle.canonical_nests.specs.declared.canonical.CanonLoop.{CanonLoop}
use Rattle.canonical_nests.specs.declared.canonical.Init.{Init}
use Rattle.canonical_nests.specs.declared.canonical.TestPart.{TestPart}

-- the defines of a program, of which the first of a name counts
abbrev pub program_defines : Program → List Define
program_defines [] = []
program_defines (define x negative k t ∷ tops) = define_of x negative k t ∷ program_defines tops
program_defines (_ ∷ tops) = program_defines tops

-- the parts of a canonical loop, and None for any other statement
abbrev pub canonical_stmt : List Define → Stmt → Option form.Canonical
canonical_stmt ds (for_ h a) = form.canonical ds h
canonical_stmt ds _ = None

-- ---- what the code's answers mean

abbrev pub test_op : Test → BinOp
test_op test.Lt = op.Lt
test_op test.Le = op.Le
test_op test.Gt = op.Gt
test_op test.Ge = op.Ge
test_op test.Ne = op.Ne

abbrev pub seen_loop : CanonLoop → form.Canonical
seen_loop l = record { var = l.var.now; ty = l.ty; lb = bare_expr l.lb.now; ub = bare_expr l.ub.now; test = test_op l.test; step = l.step }

abbrev pub seen_init : Init → form.Init
seen_init i = record { var = i.var.now; ty = i.ty; lb = bare_expr i.lb.now }

abbrev pub seen_test : TestPart → form.Test
seen_test t = record { op = test_op t.test; ub = bare_expr t.ub.now }

-- a test, seen from its left side and from its right side
abbrev pub left_op : BinOp → Option BinOp
left_op o = option_map (λ p. o) (form.turned o)

-- within -(2^63 - 1) to 2^63 - 1
abbrev pub small : Option ℤ → Option ℤ
small None = None
small (Some z) = if nat_lt (nat_abs z) (2 ^ 63) then Some z else None

-- ---- what code may count on: the literals of a step have values that their types hold

abbrev pub PartIsHeld : MaybeStmt → Type 0
PartIsHeld (a_stmt (set t o e)) = LiteralsAreHeld e
PartIsHeld _ = Unit {0}

abbrev pub HeadIsHeld : Head → Type 0
HeadIsHeld (head i e next) = PartIsHeld next

abbrev pub StmtIsHeld : Stmt → Type 0
StmtIsHeld (for_ h a) = HeadIsHeld h
StmtIsHeld _ = Unit {0}

-- the target is this variable, and no array's element
abbrev pub is_scalar : Name → Target → Bool
is_scalar x (target y no_exprs) = bytes_eq x y
is_scalar x _ = false
