-- Numbers and their types: the operators of C11 6.5.3.3 and 6.5.5 to 6.5.14 at `int` and `long long`, the common type
-- (6.3.1.8) and conversions (6.3.1.3). Each operator is exact; what C11 leaves undefined or to the implementation traps.
use Rattle.std.specs.Prelude.{ℕ, zero, suc, ◌^◌, Option, Some, None, Result, Ok, Err, Bool, true, false, not, ◌&&◌, ℤ, pos, negsuc, ◌+ℤ◌, ◌-ℤ◌, ◌*ℤ◌, neg_ℤ, nat_lt, int_lt, int_le, int_div, int_rem, if◌then◌else◌}
use Rattle.c_tree.specs.declared.tree.Ty.{Ty}
use Rattle.c_tree.specs.declared.tree.Ty.TheVariants.{Int, Long}
use Rattle.c_tree.specs.declared.tree.UnOp.{UnOp}
use Rattle.c_tree.specs.declared.tree.UnOp.TheVariants.{Neg, Plus, Not}
use Rattle.c_tree.specs.declared.tree.BinOp.{BinOp}
use Rattle.c_tree.specs.declared.tree.BinOp.TheVariants.{Mul, Div, Rem, Add, Sub, Lt, Le, Gt, Ge, Eq, Ne, And, Or}
pub use Rattle.c_tree.specs.declared.arithmetic.Trap.{Trap}
pub use Rattle.c_tree.specs.declared.arithmetic.Trap.TheVariants.{Overflow, DivideByZero, Index, Unset, Narrow, InputEnd}

-- goes on with the answer, unless it is a trap
abbrev pub and_then : {A B : Type 0} → Result A Trap → (A → Result B Trap) → Result B Trap
and_then (Err t) go = Err t
and_then (Ok a) go = go a

abbrev pub or_trap : Bool → Trap → ℤ → Result ℤ Trap
or_trap true t z = Ok z
or_trap false t z = Err t

-- ---- types

-- int where both are int
abbrev pub common : Ty → Ty → Ty
common Int Int = Int
common Int Long = Long
common Long t = Long

-- 2^31 or 2^63
abbrev pub half_range : Ty → ℕ
half_range Int = 2 ^ 31
half_range Long = 2 ^ 63

-- the type holds the number
abbrev pub holds : Ty → ℤ → Bool
holds t (pos k) = nat_lt k (half_range t)
holds t (negsuc k) = nat_lt k (half_range t)

-- the exact result of an operator, unless the type can't hold it
abbrev pub in_range : Ty → ℤ → Result ℤ Trap
in_range t z = or_trap (holds t z) Overflow z

-- as a cast, an initialisation, an assignment, an argument and `input` convert
abbrev pub convert : Ty → ℤ → Result ℤ Trap
convert t z = or_trap (holds t z) Narrow z

-- ---- operators

abbrev pub truth : Bool → ℤ
truth b = pos (if b then 1 else 0)

abbrev pub is_zero : ℤ → Bool
is_zero (pos zero) = true
is_zero (pos (suc k)) = false
is_zero (negsuc k) = false

abbrev pub unless_zero : Bool → Result ℤ Trap → Result ℤ Trap
unless_zero true r = Err DivideByZero
unless_zero false r = r

-- of two operands of a common type; `/` truncates toward zero, and `%` traps where `/` does
abbrev pub apply_bin : BinOp → Ty → ℤ → ℤ → Result ℤ Trap
apply_bin Mul t x y = in_range t (x *ℤ y)
apply_bin Div t x y = unless_zero (is_zero y) (in_range t (int_div x y))
apply_bin Rem t x y = unless_zero (is_zero y) (and_then (in_range t (int_div x y)) (λ q. Ok (int_rem x y)))
apply_bin Add t x y = in_range t (x +ℤ y)
apply_bin Sub t x y = in_range t (x -ℤ y)
apply_bin Lt t x y = Ok (truth (int_lt x y))
apply_bin Gt t x y = Ok (truth (int_lt y x))
apply_bin Le t x y = Ok (truth (int_le x y))
apply_bin Ge t x y = Ok (truth (int_le y x))
apply_bin Eq t x y = Ok (truth (is_zero (x -ℤ y)))
apply_bin Ne t x y = Ok (truth (not (is_zero (x -ℤ y))))
apply_bin And t x y = Ok (truth (not (is_zero x) && not (is_zero y)))
apply_bin Or t x y = Ok (truth (not (is_zero x && is_zero y)))

abbrev pub apply_un : UnOp → Ty → ℤ → Result ℤ Trap
apply_un Plus t x = in_range t x
apply_un Neg t x = in_range t (neg_ℤ x)
apply_un Not t x = Ok (truth (is_zero x))

-- the type of an operator's result
abbrev pub bin_type : BinOp → Ty → Ty → Ty
bin_type Mul = common
bin_type Div = common
bin_type Rem = common
bin_type Add = common
bin_type Sub = common
bin_type _ = λ a b. Int

abbrev pub un_type : UnOp → Ty → Ty
un_type Not t = Int
un_type _ t = t

-- a left operand of 0 settles `&&`, any other settles `||`
abbrev pub settles : BinOp → ℤ → Option ℤ
settles And x = if is_zero x then Some (pos 0) else None
settles Or x = if is_zero x then None else Some (pos 1)
settles _ x = None

-- what is settled isn't evaluated
abbrev pub unless_settled : Option ℤ → Result ℤ Trap → (ℤ → Result ℤ Trap) → Result ℤ Trap
unless_settled (Some z) r go = Ok z
unless_settled None r go = and_then r go
