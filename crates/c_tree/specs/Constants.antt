-- Constant expressions (C11 6.6): expressions of literals and defines whose evaluation doesn't trap. A define stands for
-- its literal (6.10.3), negated where a minus stands before it.
use Rattle.std.specs.Prelude.{ℕ, [], ◌∷◌, Option, Some, None, Result, Ok, Err, Bool, true, false, ◌<◌, ◌&&◌, is_some, ℤ, pos, neg_ℤ, if◌then◌else◌, bytes_eq}
use Rattle.c_tree.specs.Bare.{Name, Expr, num, read, item, un, bin, cond, cast, Exprs, no_exprs, more_exprs, define, Program}
use Rattle.c_tree.specs.declared.tree.Ty.{Ty}
use Rattle.c_tree.specs.declared.tree.Ty.TheVariants.{Int}
use Rattle.c_tree.specs.declared.constant.TypedValue.{TypedValue}
use Rattle.c_tree.specs.Arithmetic.{Trap, Unset, and_then, common, convert, bin_type, un_type, is_zero, apply_bin, apply_un, settles, unless_settled, half_range}

abbrev pub type_or_int : Option TypedValue → Ty
type_or_int None = Int
type_or_int (Some c) = c.ty

abbrev pub value_or_trap : Option TypedValue → Result ℤ Trap
value_or_trap None = Err Unset
value_or_trap (Some c) = Ok c.value

abbrev pub answer : Result ℤ Trap → Option ℤ
answer (Ok z) = Some z
answer (Err t) = None

-- where the names of the defines stand for these constants
module _ (named : Name → Option TypedValue) where
  -- only literals and defines
  abbrev pub only_constants : Expr → Bool
  only_constants (num k t) = true
  only_constants (read x) = is_some (named x)
  only_constants (item x es) = false
  only_constants (un op a) = only_constants a
  only_constants (bin op a b) = only_constants a && only_constants b
  only_constants (cond a b c) = only_constants a && (only_constants b && only_constants c)
  only_constants (cast t a) = only_constants a

  abbrev pub constant_type : Expr → Ty
  constant_type (num k t) = t
  constant_type (read x) = type_or_int (named x)
  constant_type (item x es) = Int
  constant_type (un op a) = un_type op (constant_type a)
  constant_type (bin op a b) = bin_type op (constant_type a) (constant_type b)
  constant_type (cond a b c) = common (constant_type b) (constant_type c)
  constant_type (cast t a) = t

  -- `&&`, `||` and `?:` evaluate only what they need
  abbrev pub constant_value : Expr → Result ℤ Trap
  constant_value (num k t) = Ok (pos k)
  constant_value (read x) = value_or_trap (named x)
  constant_value (item x es) = Err Unset
  constant_value (un op a) = and_then (constant_value a) (apply_un op (constant_type a))
  constant_value (bin op a b) =
      and_then (constant_value a) (λ x. unless_settled (settles op x) (constant_value b) (apply_bin op (common (constant_type a) (constant_type b)) x))
  constant_value (cond a b c) = and_then (constant_value a) (λ x. if is_zero x then constant_value c else constant_value b)
  constant_value (cast t a) = and_then (constant_value a) (convert t)

  -- the value of a constant expression, and None where an expression isn't one
  abbrev pub constant : Expr → Option ℤ
  constant e = if only_constants e then answer (constant_value e) else None

-- ---- the defines of a program

abbrev pub defined_as : Bool → ℕ → Ty → TypedValue
defined_as negative k t = record { ty = t; value = if negative then neg_ℤ (pos k) else pos k }

-- what a name is defined as: of a name that is defined twice the first define counts
abbrev pub define_named : Program → Name → Option TypedValue
define_named [] x = None
define_named (define y negative k t ∷ tops) x = if bytes_eq x y then Some (defined_as negative k t) else define_named tops x
define_named (_ ∷ tops) x = define_named tops x

-- ---- what code may count on: each literal and each define has a value that its type holds

abbrev pub IsHeld : Ty → ℕ → Type 0
IsHeld t k = k < half_range t

abbrev mutual
  pub LiteralsAreHeld : Expr → Type 0
  LiteralsAreHeld (num k t) = IsHeld t k
  LiteralsAreHeld (read x) = Unit {0}
  LiteralsAreHeld (item x es) = EachLiteralIsHeld es
  LiteralsAreHeld (un op a) = LiteralsAreHeld a
  LiteralsAreHeld (bin op a b) = LiteralsAreHeld a × LiteralsAreHeld b
  LiteralsAreHeld (cond a b c) = LiteralsAreHeld a × LiteralsAreHeld b × LiteralsAreHeld c
  LiteralsAreHeld (cast t a) = LiteralsAreHeld a

  pub EachLiteralIsHeld : Exprs → Type 0
  EachLiteralIsHeld no_exprs = Unit {0}
  EachLiteralIsHeld (more_exprs e es) = LiteralsAreHeld e × EachLiteralIsHeld es

abbrev pub DefinesAreHeld : Program → Type 0
DefinesAreHeld [] = Unit {0}
DefinesAreHeld (define x negative k t ∷ tops) = IsHeld t k × DefinesAreHeld tops
DefinesAreHeld (_ ∷ tops) = DefinesAreHeld tops
