use Rattle.std.proofs.Common.{◌≡◌, ◌≤◌, length, map, take, reverse}
use Rattle.c_semantics.specs.Meaning.FileVariables.{has_name}
use Rattle.loop_heads.proofs.name_stack.is_among.Given as goal

-- What is left has the name.
abbrev pub invariant-each : goal.invariant-each
invariant-each l = record {
  within : l.left ≤ length l.names;
  among : has_name (map (λ n. n.now) (reverse (take l.left l.names))) l.name ≡ has_name (map (λ n. n.now) (reverse l.names)) l.name;
}

abbrev pub decreases-each : goal.decreases-each
decreases-each l = l.left
