-- What a machine stands for.
use Rattle.std.specs.Prelude.{[]}
use Rattle.c_semantics.specs.Meaning.State.{State}
use Rattle.c_meaning.specs.declared.machine.Machine.TheInside.{Inside}

abbrev pub state_of : Inside → State
state_of m = record { frame = m.frame; globals = m.globals; lines = []; input = m.input.now; turns = m.turns }
