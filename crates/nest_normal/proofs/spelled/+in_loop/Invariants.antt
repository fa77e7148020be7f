use Rattle.std.proofs.Common.{◌≡◌, drop}
use Rattle.loop_normal.specs.GenOf.{bare_parts}
use Rattle.nest_normal.specs.Spelled.{in_parts}
use Rattle.nest_normal.proofs.spelled.+in_loop.Given as goal

-- What is left decides.
abbrev pub invariant-in_parts-each : goal.invariant-in_parts-each
invariant-in_parts-each l = in_parts l.name (bare_parts (drop l.part-index l.parts)) ≡ in_parts l.name (bare_parts l.parts)
