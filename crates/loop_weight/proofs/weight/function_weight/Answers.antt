-- Only the parameters are visible in the body, beside what the file has.
use Rattle.std.proofs.Common.{◌∙◌, ap, map, min}
use Rattle.c_tree.specs.BareOf.{bare_param, bare_stmts}
use Rattle.c_semantics.specs.Structure.Skeleton.{params_frame}
use Rattle.canonical_nests.specs.Weight.{stmts_weight}
use Rattle.loop_counts.proofs.Parameters.{only_params}
use Rattle.loop_weight.proofs.weight.function_weight.Goals as goal

pub returns-clause-weight : goal.returns-clause-weight
returns-clause-weight c =
    let ds = c.args.scope.now.defines in
    let s = c.args.scope.now.state in
    let a = bare_stmts c.args.body.now in
    c.in_ok-weight.ensures.weight
    ∙ (ap (λ v. min (stmts_weight v.defines v.state 0 a) 1048577) c.in_ok-declare_params.ensures
    ∙ ap (λ u. min (stmts_weight ds u 0 a) 1048577) (only_params (params_frame (map bare_param c.args.params.now)) s c.requires.outside))
