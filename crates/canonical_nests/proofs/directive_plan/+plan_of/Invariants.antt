use Rattle.std.proofs.Common.{◌≡◌, map, drop}
use Rattle.c_tree.specs.BareOf.{bare_clauses, bare_items}
use Rattle.c_tree.specs.PlacedOf.{placed_clauses, placed_items}
use Rattle.canonical_nests.specs.Held.{ClausesAreHeld, ItemsAreHeld}
use Rattle.canonical_nests.specs.LoopRules.PlacedPlans.{clauses_items, put_items}
use Rattle.canonical_nests.specs.Plans.{seen_item, gather}
use Rattle.canonical_nests.proofs.directive_plan.+plan_of.Given as goal

-- The clauses that are left make of the items so far what all make of those at the start.
abbrev pub invariant-put_clauses-each : goal.invariant-put_clauses-each
invariant-put_clauses-each g l =
    (clauses_items (g.C.Constants.defines l.constants) l.sizes (placed_clauses (drop l.clause-index l.clauses)) (gather (map seen_item l.applied.items))
    ≡ clauses_items (g.C.Constants.defines l.constants) l.sizes (placed_clauses l.clauses) (gather (map seen_item l.initial.applied.items)))
    × ClausesAreHeld (bare_clauses (drop l.clause-index l.clauses))

-- The same of the items of a clause, with the places that are left.
abbrev pub invariant-put_items-each : goal.invariant-put_items-each
invariant-put_items-each g l =
    (put_items (g.C.Constants.defines l.constants) l.left l.following (placed_items (drop l.item-index l.items)) (gather (map seen_item l.applied.items))
    ≡ put_items (g.C.Constants.defines l.constants) l.places l.next (placed_items l.items) (gather (map seen_item l.initial.applied.items)))
    × ItemsAreHeld (bare_items (drop l.item-index l.items))
