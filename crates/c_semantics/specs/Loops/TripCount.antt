-- How often a canonical loop turns, from what its bounds are worth when its construct is entered (OpenMP 6.0,
-- 6.4.1: logical iterations).
use Rattle.std.specs.Prelude.{ℕ, zero, suc, ◌+◌, ◌/◌, ◌^◌, List, Result, Ok, Bool, true, false, ℤ, pos, negsuc, ◌+ℤ◌, ◌-ℤ◌, ◌*ℤ◌, nat_abs, int_lt, unwrap_or}
use Rattle.c_tree.specs.Bare.{Name}
use Rattle.c_tree.specs.declared.tree.Ty.{Ty}
use Rattle.c_tree.specs.declared.tree.BinOp.{BinOp}
use Rattle.c_tree.specs.declared.tree.BinOp.TheVariants.{Le, Ge}
use Rattle.c_semantics.specs.Meaning.State.{State, look}
use Rattle.c_tree.specs.declared.arithmetic.Trap.{Trap}
use Rattle.c_tree.specs.declared.arithmetic.Trap.TheVariants.{Overflow}
use Rattle.c_tree.specs.Arithmetic.{and_then, or_trap, convert}
use Rattle.c_semantics.specs.Meaning.Expressions.{Define, name_type, eval}
use Rattle.c_semantics.specs.Loops.CanonicalForm.{Canonical}

-- ---- the count

-- `!=` counts as `<` or `>`
abbrev pub inclusive : BinOp → Bool
inclusive Le = true
inclusive Ge = true
inclusive _ = false

-- the turns over a distance, by steps of a size
abbrev pub turns_over : Bool → ℤ → ℕ → ℕ
turns_over true (pos d) s = d / s + 1
turns_over true (negsuc d) s = 0
turns_over false (pos zero) s = 0
turns_over false (pos (suc d)) s = d / s + 1
turns_over false (negsuc d) s = 0

-- ub - lb for a step up, lb - ub for a step down
abbrev pub distance : ℤ → ℤ → ℤ → ℤ
distance (pos s) lb ub = ub -ℤ lb
distance (negsuc s) lb ub = lb -ℤ ub

-- at most 2^63 - 1
abbrev pub small : ℤ → Result ℤ Trap
small z = or_trap (int_lt z (pos (2 ^ 63))) Overflow z

-- the count, unless it or the distance is above 2^63 - 1
abbrev pub count : BinOp → ℤ → ℤ → ℤ → Result ℕ Trap
count op by lb ub =
    and_then (small (distance by lb ub)) (λ d.
    and_then (small (pos (turns_over (inclusive op) d (nat_abs by)))) (λ c. Ok (nat_abs c)))

-- ---- the entry

-- what a loop's variable runs through, fixed at the entry
pub record Range : Type 0 where
  pub var : Name
  pub ty : Ty
  pub from : ℤ
  pub step : ℤ
  pub count : ℕ

-- the variable in the k-th turn, from 0
abbrev pub value_at : Range → ℕ → ℤ
value_at r k = r.from +ℤ pos k *ℤ r.step

-- the type of the loop's variable: as its head declares it, else as it was declared before
abbrev pub loop_type : List Define → State → Canonical → Ty
loop_type ds s c = unwrap_or c.ty (name_type (look s c.var) ds c.var)

-- lb, then ub, each converted to the variable's type, then the count
abbrev pub entry : List Define → State → Canonical → Result Range Trap
entry ds s c =
    and_then (eval ds s c.lb) (λ z. and_then (convert (loop_type ds s c) z) (λ lb.
    and_then (eval ds s c.ub) (λ z. and_then (convert (loop_type ds s c) z) (λ ub.
    and_then (count c.test c.step lb ub) (λ n.
    Ok (record { var = c.var; ty = loop_type ds s c; from = lb; step = c.step; count = n }))))))
