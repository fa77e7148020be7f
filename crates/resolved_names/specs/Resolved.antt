-- A program that is another one with other names, different ones for different names.
use Rattle.std.specs.Prelude.{◌≡◌}
use Rattle.c_tree.specs.Bare.{Program}
use Rattle.resolved_names.specs.Renaming.{Renaming, renamed_program}
use Rattle.resolved_names.specs.RenamedRuns.{Injective}

pub record Resolved (p q : Program) : Type 0 where
  pub renaming : Renaming
  pub injective : Injective renaming
  pub renamed : q ≡ renamed_program renaming p
