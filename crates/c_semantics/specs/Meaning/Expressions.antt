-- The type and the value of an expression (C11 6.5), from left to right, and constant expressions (6.6).
use Rattle.std.specs.Prelude.{ℕ, ◌+◌, ◌*◌, List, [], ◌∷◌, Option, Some, None, Result, Ok, Err, Bool, true, false, ◌&&◌, ℤ, pos, negsuc, nat_lt, if◌then◌else◌, bytes_eq, slice_get}
use Rattle.c_tree.specs.Bare.{Name, Expr, num, read, item, un, bin, cond, cast, Exprs, no_exprs, more_exprs}
use Rattle.c_tree.specs.declared.tree.Ty.{Ty}
use Rattle.c_tree.specs.declared.tree.Ty.TheVariants.{Int}
use Rattle.c_semantics.specs.Meaning.State.{Cell, scalar, array, State, look, nowhere}
use Rattle.c_tree.specs.declared.arithmetic.Trap.{Trap}
use Rattle.c_tree.specs.declared.arithmetic.Trap.TheVariants.{Index, Unset}
use Rattle.c_tree.specs.Arithmetic.{and_then, common, convert, bin_type, un_type, is_zero, apply_bin, apply_un, settles, unless_settled}

-- a define: a constant of a type
pub record Define : Type 0 where
  pub name : Name
  pub ty : Ty
  pub value : ℤ

-- ---- types

abbrev pub cell_type : Cell → Ty
cell_type (scalar t v) = t
cell_type (array t ds es) = t

abbrev pub define_type : List Define → Name → Ty
define_type [] x = Int
define_type (d ∷ ds) x = if bytes_eq x d.name then d.ty else define_type ds x

-- a name is a visible variable, else a define
abbrev pub name_type : Option Cell → List Define → Name → Ty
name_type (Some c) ds x = cell_type c
name_type None ds x = define_type ds x

-- the type of an expression, which no value changes: that of `a ? b : c` is the common type of b and c
abbrev pub type_of : List Define → State → Expr → Ty
type_of ds s (num k t) = t
type_of ds s (read x) = name_type (look s x) ds x
type_of ds s (item x is) = name_type (look s x) ds x
type_of ds s (un op a) = un_type op (type_of ds s a)
type_of ds s (bin op a b) = bin_type op (type_of ds s a) (type_of ds s b)
type_of ds s (cond a b c) = common (type_of ds s b) (type_of ds s c)
type_of ds s (cast t a) = t

-- ---- variables

abbrev pub define_value : List Define → Name → Result ℤ Trap
define_value [] x = Err Unset
define_value (d ∷ ds) x = if bytes_eq x d.name then Ok d.value else define_value ds x

abbrev pub or_unset : Option ℤ → Result ℤ Trap
or_unset (Some z) = Ok z
or_unset None = Err Unset

abbrev pub scalar_value : Option Cell → List Define → Name → Result ℤ Trap
scalar_value (Some (scalar t v)) ds x = or_unset v
scalar_value (Some (array t dims es)) ds x = Err Unset
scalar_value None ds x = define_value ds x

abbrev pub dims_of : Option Cell → List ℕ
dims_of (Some (array t dims es)) = dims
dims_of _ = []

abbrev pub elements_of : Option Cell → List ℤ
elements_of (Some (array t dims es)) = es
elements_of _ = []

-- a subscript within its dimension
abbrev pub in_dim : ℕ → ℤ → Result ℕ Trap
in_dim d (negsuc k) = Err Index
in_dim d (pos k) = if nat_lt k d then Ok k else Err Index

-- ---- values

abbrev mutual
  -- the value of an expression
  pub eval : List Define → State → Expr → Result ℤ Trap
  eval ds s (num k t) = Ok (pos k)
  eval ds s (read x) = scalar_value (look s x) ds x
  eval ds s (item x is) = and_then (place ds s (dims_of (look s x)) 0 is) (λ k. or_unset (slice_get (elements_of (look s x)) k))
  eval ds s (un op a) = and_then (eval ds s a) (apply_un op (type_of ds s a))
  eval ds s (bin op a b) =
      and_then (eval ds s a) (λ x. unless_settled (settles op x) (eval ds s b) (apply_bin op (common (type_of ds s a) (type_of ds s b)) x))
  eval ds s (cond a b c) = and_then (eval ds s a) (λ x. if is_zero x then eval ds s c else eval ds s b)
  eval ds s (cast t a) = and_then (eval ds s a) (convert t)

  -- the place of an element, row by row: each subscript is tested directly after its evaluation
  pub place : List Define → State → List ℕ → ℕ → Exprs → Result ℕ Trap
  place ds s dims k no_exprs = Ok k
  place ds s [] k (more_exprs e es) = Err Index
  place ds s (d ∷ dims) k (more_exprs e es) = and_then (eval ds s e) (λ z. and_then (in_dim d z) (λ i. place ds s dims (k * d + i) es))

-- ---- constant expressions

abbrev pub is_define : List Define → Name → Bool
is_define [] x = false
is_define (d ∷ ds) x = if bytes_eq x d.name then true else is_define ds x

-- only literals and defines
abbrev pub only_constants : List Define → Expr → Bool
only_constants ds (num k t) = true
only_constants ds (read x) = is_define ds x
only_constants ds (item x es) = false
only_constants ds (un op a) = only_constants ds a
only_constants ds (bin op a b) = only_constants ds a && only_constants ds b
only_constants ds (cond a b c) = only_constants ds a && (only_constants ds b && only_constants ds c)
only_constants ds (cast t a) = only_constants ds a

abbrev pub answer : Result ℤ Trap → Option ℤ
answer (Ok z) = Some z
answer (Err t) = None

abbrev pub where_true : Bool → Option ℤ → Option ℤ
where_true true o = o
where_true false o = None

-- the value of a constant expression: one of literals and defines whose evaluation doesn't trap
abbrev pub constant : List Define → Expr → Option ℤ
constant ds e = where_true (only_constants ds e) (answer (eval ds nowhere e))
