use Rattle.std.proofs.Common.{◌≡◌, ◌++◌}
use Rattle.c_printer.specs.Layout.{text, indent}
use Rattle.c_printer.proofs.tokens.push_indent.Given as goal

-- The spaces so far and those that are left are those of the level.
abbrev pub invariant-loop-left : goal.invariant-loop-left
invariant-loop-left l = l.out.items ++ text (indent l.left) ≡ l.initial.out.items ++ text (indent l.level)

abbrev pub decreases-loop-left : goal.decreases-loop-left
decreases-loop-left l = l.left
