-- Code whose loop begins at 0 stays as it is.
use Rattle.std.proofs.Common.{◌≡◌, ap, true}
use Rattle.std.specs.Prelude.{if◌then◌else◌}
use Rattle.loop_normal.specs.Gens.{Gen}
use Rattle.loop_normal.specs.Templates.{begins_at_zero, on_first, rebased}
use Rattle.loop_normal.specs.DrawnNames.{FreshNames, drawn, after_draws}
use Rattle.loop_normal.specs.FromZero.{from_zero, after_from_zero}

pub stays_from_zero : (f : FreshNames) (g : Gen) → begins_at_zero g.parts ≡ true → from_zero f g ≡ g
stays_from_zero f g e = ap (λ b. if b then g else (record { front = g.front; parts = on_first (rebased (drawn f) (drawn (after_draws 1 f)) (drawn (after_draws 2 f))) g.parts })) e

pub draws_none : (f : FreshNames) (g : Gen) → begins_at_zero g.parts ≡ true → after_from_zero f g ≡ f
draws_none f g e = ap (λ b. if b then f else after_draws 3 f) e
