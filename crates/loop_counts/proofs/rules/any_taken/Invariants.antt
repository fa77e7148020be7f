use Rattle.std.proofs.Common.{◌≡◌, ◌&&◌, drop}
use Rattle.std.specs.Prelude.{not, ◌==◌}
use Rattle.std.specs.List.{list_any}
use Rattle.canonical_nests.specs.LoopRules.Counts.{is_among_taken}
use Rattle.loop_counts.proofs.rules.any_taken.Given as goal

-- What is left decides.
abbrev pub invariant-each : goal.invariant-each
invariant-each l =
    list_any (λ p. is_among_taken l.round l.taken p && not (p == l.own)) (drop l.position-index l.positions)
    ≡ list_any (λ p. is_among_taken l.round l.taken p && not (p == l.own)) l.positions
