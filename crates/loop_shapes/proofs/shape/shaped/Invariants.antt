use Rattle.std.proofs.Common.{◌≡◌, map}
use Rattle.loop_shapes.specs.Shape.{loops_of}
use Rattle.loop_shapes.proofs.shape.shaped.Given as goal

-- The parts so far.
abbrev pub invariant-each : goal.invariant-each
invariant-each l = map loops_of l.all.items ≡ l.yielded
