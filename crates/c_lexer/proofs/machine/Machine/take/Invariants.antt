use Rattle.std.proofs.Common.{◌≡◌, ◌+◌, drop}
use Rattle.c_lexer.specs.Machine.{gives}
use Rattle.c_lexer.specs.Running.{IsKept, run, state_of}
use Rattle.c_lexer.proofs.machine.Machine.take.Given as goal

abbrev pub invariant-loop-i : goal.invariant-loop-i
invariant-loop-i l =
    (gives l.self.tokens.1 (run (state_of l.self) (l.at + l.i) (drop l.i l.piece)) ≡ gives l.fn.self.tokens.1 (run (state_of l.fn.self) l.at l.piece))
    × IsKept l.fn.self l.self
