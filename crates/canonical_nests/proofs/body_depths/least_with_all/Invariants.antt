use Rattle.std.proofs.Common.{◌≡◌, ◌&&◌, ℕ, drop}
use Rattle.c_semantics.specs.Loops.Need.{all_at_least}
use Rattle.canonical_nests.specs.BodyDepths.{depths_over, holds_from}
use Rattle.canonical_nests.proofs.body_depths.least_with_all.Given as goal

-- What was seen and what is left decide together.
abbrev pub invariant-each : goal.invariant-each
invariant-each l = (k : ℕ) → (holds_from l.least k && all_at_least l.wanted (depths_over k (drop l.depth-index l.depths))) ≡ all_at_least l.wanted (depths_over k l.depths)
