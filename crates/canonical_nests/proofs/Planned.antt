-- A directive at its fields, and its plan.
use Rattle.std.proofs.Common.{◌≡◌, ◌∙◌, sym, ap, refl, ℕ, List, [], ◌∷◌, map, length}
use Rattle.c_tree.specs.Bare as b
use Rattle.c_tree.specs.Placed as p
use Rattle.c_tree.specs.Placed.{directive}
use Rattle.c_tree.specs.BareOf.{bare_clauses}
use Rattle.c_tree.specs.PlacedOf.{item_layer, kind_layer, clause_layer, directive_layer, placed_clauses, placed_directive}
use Rattle.c_tree.specs.Forget.{forget_clauses}
use Rattle.c_tree.specs.declared.tree.Kind.{Kind}
use Rattle.c_tree.specs.declared.tree.Span.{Span}
use Rattle.c_tree.specs.declared.tree.Clause.{Clause}
use Rattle.c_tree.specs.declared.tree.Directive.{Directive, roll-Directive, out-Directive, roll-out-Directive, fold-roll-Directive}
use Rattle.c_tree.proofs.Forgotten.Directives.{bare_clause_is}
use Rattle.c_semantics.specs.Meaning.Expressions.{Define}
use Rattle.c_semantics.specs.Loops.Directives.{sizes_in, transformation_of}
use Rattle.canonical_nests.specs.LoopRules.PlacedPlans.{PlacedPlan, plan, none_applied, placed_plan, clauses_items}
use Rattle.canonical_nests.specs.Plans.{seen_transformation, seen_plan, seen_item, gather, plan_layer, applied_layer}
use Rattle.canonical_nests.specs.declared.plan.Transformation.{Transformation}
use Rattle.canonical_nests.specs.declared.plan.Plan.{Plan, roll-Plan, out-Plan, roll-out-Plan, fold-roll-Plan}
use Rattle.canonical_nests.specs.declared.plan.Applied.{Applied}

pub bare_clauses_are : (cs : List Clause) → bare_clauses cs ≡ forget_clauses (placed_clauses cs)
bare_clauses_are [] = refl
bare_clauses_are (c ∷ cs) = λ i. b.more_clauses (bare_clause_is c i) (bare_clauses_are cs i)

placed_directive_roll : (kind : Kind) (cs : List Clause) (span : Span) → placed_directive (roll-Directive (record { kind = kind; clauses = cs; span = span })) ≡ directive kind (placed_clauses cs) span
placed_directive_roll kind cs span = fold-roll-Directive p.Item p.ClauseKind p.Clause p.Directive item_layer kind_layer clause_layer directive_layer (record { kind = kind; clauses = cs; span = span })

pub placed_directive_out : (x : Directive) → placed_directive x ≡ directive (out-Directive x).kind (placed_clauses (out-Directive x).clauses) (out-Directive x).span
placed_directive_out x = ap placed_directive (sym (roll-out-Directive x)) ∙ placed_directive_roll (out-Directive x).kind (out-Directive x).clauses (out-Directive x).span

seen_plan_roll : (t : Transformation) (at : ℕ) (items : List Applied) → seen_plan (roll-Plan (record { transformation = t; place = at; items = items })) ≡ plan (seen_transformation t) at (gather (map seen_item items))
seen_plan_roll t at items = fold-roll-Plan (ℕ × PlacedPlan) PlacedPlan applied_layer plan_layer (record { transformation = t; place = at; items = items })

pub seen_plan_out : (x : Plan) → seen_plan x ≡ plan (seen_transformation (out-Plan x).transformation) (out-Plan x).place (gather (map seen_item (out-Plan x).items))
seen_plan_out x = ap seen_plan (sym (roll-out-Plan x)) ∙ seen_plan_roll (out-Plan x).transformation (out-Plan x).place (out-Plan x).items

pub planned : (ds : List Define) (x : Directive) (t : Transformation) (n : ℕ) (items : List Applied) (cs : List Clause)
    → cs ≡ (out-Directive x).clauses → seen_transformation t ≡ transformation_of ds (out-Directive x).kind (bare_clauses cs)
    → n ≡ length (sizes_in (bare_clauses cs)) → gather (map seen_item items) ≡ clauses_items ds n (placed_clauses cs) none_applied
    → seen_plan (roll-Plan (record { transformation = t; place = (out-Directive x).span.start; items = items })) ≡ placed_plan ds (placed_directive x)
planned ds x t n items cs cs_are t_is n_is items_are =
    let d = out-Directive x in
    let same : bare_clauses cs ≡ forget_clauses (placed_clauses cs) = bare_clauses_are cs in
    seen_plan_roll t d.span.start items
    ∙ ((λ i. plan (t_is i) d.span.start (items_are i))
    ∙ ((λ i. plan (transformation_of ds d.kind (same i)) d.span.start (clauses_items ds (n_is i) (placed_clauses cs) none_applied))
    ∙ ((λ i. plan (transformation_of ds d.kind (forget_clauses (placed_clauses cs))) d.span.start (clauses_items ds (length (sizes_in (same i))) (placed_clauses cs) none_applied))
    ∙ (ap (λ ds'. placed_plan ds (directive d.kind (placed_clauses ds') d.span)) cs_are
    ∙ sym (ap (placed_plan ds) (placed_directive_out x))))))
