use Rattle.std.proofs.Common.{map}
use Rattle.resolved_names.specs.Numbered.{numbered_top}
use Rattle.c_semantics.specs.Meaning.Programs.{no_env, run_items}
use Rattle.c_meaning.specs.Running.{sunk}
use Rattle.c_meaning.proofs.Items.{run_from}
use Rattle.c_meaning.proofs.Running.{Leads}
use Rattle.c_meaning.proofs.interpret.run_items.Given as goal

-- To run the items is to run what is left from where the items so far came.
abbrev pub invariant-each : goal.invariant-each
invariant-each g l =
    Leads (run_items l.bound (map numbered_top l.items) no_env) l.initial.m (sunk (g.K.Sink.held l.initial.out) (g.K.Sink.faults l.initial.out))
    (run_from l.bound l.items l.index) l.m (sunk (g.K.Sink.held l.out) (g.K.Sink.faults l.out))
