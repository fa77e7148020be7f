use Rattle.std.proofs.Common.{◌≡◌, length}
use Rattle.pragma_grammar.specs.Symbols.{symbol}
use Rattle.pragma_grammar.specs.Stands.{kept_of, phrases, settle}
use Rattle.pragma_grammar.proofs.reading.settle.Given as goal

abbrev pub invariant-loop-done : goal.invariant-loop-done
invariant-loop-done l = settle l.row (kept_of l.operand) l.at (phrases l.stack.items) (symbol l.token) ≡ settle l.fn.row (kept_of l.fn.operand) l.fn.at (phrases l.fn.stack.items) (symbol l.fn.token)

abbrev pub decreases-loop-done : goal.decreases-loop-done
decreases-loop-done l = length l.stack.items
