-- The plan of a directive, with places and without.
use Rattle.std.proofs.Common.{◌≡◌, ◌∙◌, sym, ap, List}
use Rattle.c_tree.specs.BareOf.{bare_directive}
use Rattle.c_tree.specs.PlacedOf.{placed_directive}
use Rattle.c_tree.specs.declared.tree.Directive.{Directive}
use Rattle.c_tree.proofs.Forgotten.Directives.{bare_directive_is}
use Rattle.c_semantics.specs.Meaning.Expressions.{Define}
use Rattle.c_semantics.specs.Loops.Directives.{plan_of}
use Rattle.canonical_nests.specs.LoopRules.PlacedPlans.{PlacedPlan, placed_plan, forget_plan}
use Rattle.canonical_nests.proofs.ForgottenPlans.{plan_is}
use Rattle.canonical_nests.proofs.HeldTrees.{directive_held}

pub planned_is : (ds : List Define) (d : Directive) (p : PlacedPlan) → p ≡ placed_plan ds (placed_directive d) → forget_plan p ≡ plan_of ds (bare_directive d)
planned_is ds d p e = ap forget_plan e ∙ (plan_is ds (placed_directive d) ∙ ap (plan_of ds) (sym (bare_directive_is d)))

pub ruleset planned_directives = (planned_is, directive_held)
