-- The scopes round a function are still there when its body ends.
use Rattle.std.proofs.Common.{◌≡◌, ◌++◌, ◌∙◌, ap, length, length-append, arith}
use Rattle.c_tree.specs.PlacedOf.{placed_param}
use Rattle.std.specs.Prelude.{map}
use Rattle.c_types.proofs.Params.{params_outside}
use Rattle.c_types.proofs.items.inside_breach.Goals as goal

pub leave-requires : goal.leave-requires
leave-requires c =
    let was = c.args.known.now.scope in
    let entered = ap (λ k. k.scope) c.enter.ensures in
    let outside : c.stmts_seen.new.known.scope.outside ≡ was.here ++ was.outside =
    c.in_ok-body.ensures.outside
    ∙ (ap (λ s. s.outside) c.in_ok-params.ensures.scope
    ∙ (params_outside c.enter.new.self.scope (map placed_param c.args.params.now) ∙ ap (λ s. s.outside) entered)) in
    omega (arith, ap length outside, length-append was.here was.outside)
