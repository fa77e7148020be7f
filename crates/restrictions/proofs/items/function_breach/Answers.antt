-- Only the parameters are visible, since no local variable was before.
use Rattle.std.proofs.Common.{◌∙◌, ap, map}
use Rattle.c_tree.specs.BareOf.{bare_param}
use Rattle.c_tree.specs.PlacedOf.{placed_stmts}
use Rattle.c_semantics.specs.Structure.Skeleton.{params_frame}
use Rattle.canonical_nests.specs.LoopRules.BreachSets.{least}
use Rattle.canonical_nests.specs.LoopRules.Programs.{stmts_breaches}
use Rattle.loop_counts.proofs.Parameters.{only_params}
use Rattle.restrictions.proofs.items.function_breach.Goals as goal

pub returns-clause-breach : goal.returns-clause-breach
returns-clause-breach c =
    let fs = c.args.functions.now in
    let v = c.args.scope.now in
    let a = placed_stmts c.args.body.now in
    c.in_ok-found.ensures.breach
    ∙ (ap (λ w. least (stmts_breaches w.defines fs w.state 0 a)) c.in_ok-declare_params.ensures
    ∙ ap (λ s. least (stmts_breaches v.defines fs s 0 a)) (only_params (params_frame (map bare_param c.args.params.now)) v.state c.requires.outside))
