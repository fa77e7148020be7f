-- The turns of a loop, as a count or why there is none.
use Rattle.std.specs.Prelude.{ℕ, Result, Ok, Err, Bool, ℤ, pos, nat_abs}
use Rattle.c_tree.specs.declared.arithmetic.Trap.{Trap}
use Rattle.c_tree.specs.declared.tree.Ty.{Ty}
use Rattle.c_tree.specs.declared.tree.BinOp.{BinOp}
use Rattle.c_tree.specs.Arithmetic.{and_then, convert}
use Rattle.c_semantics.specs.Loops.TripCount.{small, turns_over, count}

abbrev pub as_number : Result ℕ Trap → Result ℤ Trap
as_number (Ok n) = Ok (pos n)
as_number (Err t) = Err t

-- over a distance, by steps of a size
abbrev pub turns_of : Bool → ℕ → ℤ → Result ℕ Trap
turns_of inclusive size d = and_then (small (pos (turns_over inclusive d size))) (λ c. Ok (nat_abs c))

-- from what the bounds are worth
abbrev pub entry_turns : Ty → BinOp → ℤ → Result ℤ Trap → Result ℤ Trap → Result ℕ Trap
entry_turns t op step lb ub =
    and_then lb (λ y. and_then (convert t y) (λ a. and_then ub (λ z. and_then (convert t z) (λ b. count op step a b))))
