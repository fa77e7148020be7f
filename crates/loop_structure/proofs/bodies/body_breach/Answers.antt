-- A `fuse` is tested over its sequence.
use Rattle.std.proofs.Common.{◌∙◌, sym, ap, map}
use Rattle.c_tree.specs.PlacedOf.{placed_stmt, placed_stmts, placed_clauses}
use Rattle.c_tree.specs.declared.tree.Directive.{out-Directive}
use Rattle.canonical_nests.specs.LoopRules.BreachSets.{least}
use Rattle.canonical_nests.specs.LoopRules.Structure.{loops_breaches}
use Rattle.canonical_nests.specs.Plans.{seen_plan}
use Rattle.loop_structure.proofs.BodyWalks.{body_fuse, all_fuse}
use Rattle.loop_structure.proofs.bodies.body_breach.Goals as goal

pub returns-then-finds_all : goal.returns-then-finds_all
returns-then-finds_all g c =
    let ds = g.C.Constants.defines c.args.constants.now in
    let x = c.args.directive.now in
    c.in_ok-found.ensures
    ∙ (ap (λ cs. least (loops_breaches ds (seen_plan c.in_ok-plan.plan) (out-Directive x).span.start (placed_clauses cs) (map placed_stmt c.unwrapped-list.result.now))) c.as_slice-clauses.ensures
    ∙ sym (ap least (body_fuse ds x (placed_stmts c.args.body.now) (seen_plan c.in_ok-plan.plan) (map placed_stmt c.unwrapped-list.result.now)
    c.in_ok-plan.ensures c.unwrapped-list.ensures.list (all_fuse _ (sym c.if-finds_all.ensures)))))
