-- The value in the answer of an evaluation.
use Rattle.std.specs.Prelude.{Result, Ok, Err, ℤ}
use Rattle.c_tree.specs.declared.arithmetic.Trap.{Trap}
use Rattle.c_tree.specs.declared.constant.TypedValue.{TypedValue}

abbrev pub value_in : Result TypedValue Trap → Result ℤ Trap
value_in (Ok v) = Ok v.value
value_in (Err t) = Err t
