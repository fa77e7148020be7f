-- The breaches in the items that are left.
use Rattle.std.proofs.Common.{◌≡◌, ◌∙◌, refl, sym, ap, ◌<◌, ◌≤◌, ◌+◌, ℕ, List, [], ◌∷◌, map, length, drop, slice_index_or, Option, None}
use Rattle.c_tree.specs.BareOf.{bare_top}
use Rattle.c_tree.specs.Placed as p
use Rattle.c_tree.specs.PlacedOf.{placed_top}
use Rattle.c_tree.specs.Forget.{forget_top, forget_param}
use Rattle.c_tree.specs.declared.tree.Item.{Item}
use Rattle.c_tree.proofs.Forgotten.Programs.{bare_top_is}
use Rattle.c_tree.proofs.Walks.{rest_more, rest_none}
use Rattle.c_semantics.specs.Meaning.State.{State, with_frame}
use Rattle.c_semantics.specs.Meaning.Expressions.{Define}
use Rattle.c_semantics.specs.Meaning.FileVariables.{FunctionAccess, accesses_with, defines_with}
use Rattle.c_semantics.specs.Structure.Skeleton.{params_frame}
use Rattle.canonical_nests.specs.declared.rules.LoopBreach.{LoopBreach}
use Rattle.canonical_nests.specs.Weight.{scope_with}
use Rattle.canonical_nests.specs.LoopRules.BreachSets.{◌&◌, lesser, least}
use Rattle.canonical_nests.specs.LoopRules.Programs.{top_breaches, breaches_from}
use Rattle.canonical_nests.proofs.Order.{lesser_joins, lesser_none}
use Rattle.loop_counts.specs.Visible.{Visible}
use Rattle.loop_counts.proofs.WellFormedItems.{top_well_formed}
use Rattle.restrictions.specs.Alike.{Alike}
use Rattle.restrictions.specs.Walks.{visible_with}
use Rattle.restrictions.proofs.Accesses.{alike_with}
use Rattle.restrictions.proofs.AlikeFunctions.{same_stmts}

-- ---- where what is known of functions is alike

module _ (ds : List Define) (fs gs : List FunctionAccess) (alike : Alike fs gs) (s : State) where
  same_top : (top : p.Top) → top_breaches ds fs s top ≡ top_breaches ds gs s top
  same_top (p.function x at ps a span) = same_stmts ds fs gs alike (with_frame (params_frame (map forget_param ps)) s) 0 a
  same_top (p.main a span) = same_stmts ds fs gs alike s 0 a
  same_top (p.define x minus k t span) = refl
  same_top (p.extern_ port span) = refl
  same_top (p.global t x at dims e) = refl

pub same_tops : (ds : List Define) (fs gs : List FunctionAccess) → Alike fs gs → (s : State) (tops : p.Program) → breaches_from ds fs s tops ≡ breaches_from ds gs s tops
same_tops ds fs gs alike s [] = refl
same_tops ds fs gs alike s (top ∷ tops) =
    let t = forget_top top in
    λ i. same_top ds fs gs alike s top i & same_tops (defines_with ds t) (accesses_with ds fs t) (accesses_with ds gs t) (alike_with ds fs gs alike t) (scope_with s t) tops i

-- ---- the items that are left

module _ (ds : List Define) (fs : List FunctionAccess) (s : State) (xs : List Item) (i : ℕ) where
  pub tops_more : (x : Item) → i < length xs → x ≡ slice_index_or xs i x
      → least (breaches_from ds fs s (map placed_top (drop i xs)))
      ≡ lesser (least (top_breaches ds fs s (placed_top x))) (least (breaches_from (defines_with ds (bare_top x)) (accesses_with ds fs (bare_top x)) (scope_with s (bare_top x)) (map placed_top (drop (i + 1) xs))))
  tops_more x within is =
      rest_more (λ ys. least (breaches_from ds fs s (map placed_top ys))) xs i x within is
      ∙ ap (λ t. lesser (least (top_breaches ds fs s (placed_top x))) (least (breaches_from (defines_with ds t) (accesses_with ds fs t) (scope_with s t) (map placed_top (drop (i + 1) xs))))) (sym (bare_top_is x))

  pub tops_end : length xs ≤ i → least (breaches_from ds fs s (map placed_top (drop i xs))) ≡ None
  tops_end = rest_none (λ ys. least (breaches_from ds fs s (map placed_top ys))) xs i

-- one item more: found before it, here in it
pub tops_step : (v w : Visible) (fs gs : List FunctionAccess) (xs : List Item) (i : ℕ) (x : Item) (found here new total : Option LoopBreach)
    → i < length xs → x ≡ slice_index_or xs i x → w ≡ visible_with v (bare_top x) → Alike (accesses_with v.defines fs (bare_top x)) gs
    → here ≡ least (top_breaches v.defines fs v.state (placed_top x)) → new ≡ lesser found here
    → lesser found (least (breaches_from v.defines fs v.state (map placed_top (drop i xs)))) ≡ total
    → lesser new (least (breaches_from w.defines gs w.state (map placed_top (drop (i + 1) xs)))) ≡ total
tops_step v w fs gs xs i x found here new total within is next alike here_is new_is all =
    let left = map placed_top (drop (i + 1) xs) in
    let ds = defines_with v.defines (bare_top x) in
    let s = scope_with v.state (bare_top x) in
    let known = accesses_with v.defines fs (bare_top x) in
    let rest : least (breaches_from w.defines gs w.state left) ≡ least (breaches_from ds known s left) =
    ap (λ u. least (breaches_from u.defines gs u.state left)) next ∙ ap least (sym (same_tops ds known gs alike s left)) in
    (λ j. lesser (new_is j) (rest j))
    ∙ (ap (λ o. lesser (lesser found o) (least (breaches_from ds known s left))) here_is
    ∙ (lesser_joins found (least (top_breaches v.defines fs v.state (placed_top x))) (least (breaches_from ds known s left))
    ∙ (ap (lesser found) (sym (tops_more v.defines fs v.state xs i x within is)) ∙ all)))

pub ruleset programs = (tops_end, top_well_formed, lesser_none)
