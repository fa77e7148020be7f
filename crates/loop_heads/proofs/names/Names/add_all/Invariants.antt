use Rattle.std.proofs.Common.{take}
use Rattle.loop_heads.specs.Touching.{Grows}
use Rattle.loop_heads.proofs.names.Names.add_all.Given as goal

abbrev pub invariant-each : goal.invariant-each
invariant-each l = Grows l.initial.self (take l.name-index l.others) l.self
