use Rattle.std.proofs.Common.{drop}
use Rattle.c_tree.specs.BareOf.{bare_exprs}
use Rattle.c_semantics.specs.Meaning.FileVariables.{free_names_each}
use Rattle.c_semantics.specs.Meaning.State.{keep}
use Rattle.loop_heads.specs.Touching.{Continues}
use Rattle.loop_heads.proofs.accessing.+read_names.Given as goal

-- The names in what is left are still to be put in.
abbrev pub invariant-read_each-each : goal.invariant-read_each-each
invariant-read_each-each l =
    let h = keep l.hidden.len l.hidden.names.now in
    Continues l.initial.into (free_names_each h (bare_exprs l.es)) (free_names_each h (bare_exprs (drop l.e-index l.es))) l.into
