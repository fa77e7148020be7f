use Rattle.std.proofs.Common.{◌≡◌, length}
use Rattle.loop_normal.specs.DrawnNames.{untaken, drawn_digits}
use Rattle.loop_normal.proofs.fresh.Fresh.untaken.Given as goal

-- From here on the same number is found.
abbrev pub invariant-loop-left : goal.invariant-loop-left
invariant-loop-left l = untaken l.self.taken (length l.left) l.digits.items ≡ drawn_digits l.self

abbrev pub decreases-loop-left : goal.decreases-loop-left
decreases-loop-left l = length l.left
