use Rattle.std.proofs.Common.{◌≡◌, ◌++◌, length}
use Rattle.loop_normal.specs.DrawnNames.{next_digits}
use Rattle.loop_normal.proofs.fresh.next_digits.Given as goal

-- The digits so far, before the next number of what is left.
abbrev pub invariant-loop-digits : goal.invariant-loop-digits
invariant-loop-digits l = l.next.items ++ next_digits l.digits ≡ next_digits l.initial.digits

abbrev pub decreases-loop-digits : goal.decreases-loop-digits
decreases-loop-digits l = length l.digits
