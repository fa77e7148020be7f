use Rattle.std.proofs.Common.{◌≡◌, drop}
use Rattle.std.specs.Prelude.{◌==◌}
use Rattle.std.specs.List.{list_any}
use Rattle.loop_structure.proofs.members.has_zero.Given as goal

-- What is left decides.
abbrev pub invariant-each : goal.invariant-each
invariant-each l = list_any (λ k. k == 0) (drop l.depth-index l.depths) ≡ list_any (λ k. k == 0) l.depths
