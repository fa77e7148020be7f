-- The weight of the items that a loop has left.
use Rattle.std.proofs.Common.{◌≡◌, refl, ◌<◌, ◌≤◌, ◌+◌, ℕ, List, map, length, drop, slice_index_or}
use Rattle.c_tree.specs.Bare.{Top, define, extern_, global, function, main}
use Rattle.c_tree.specs.BareOf.{bare_top}
use Rattle.c_tree.specs.declared.tree.Item.{Item}
use Rattle.c_tree.proofs.Walks.{rest_more, rest_none}
use Rattle.c_semantics.specs.Meaning.State.{State}
use Rattle.c_semantics.specs.Meaning.Expressions.{Define}
use Rattle.c_semantics.specs.Meaning.FileVariables.{defines_with}
use Rattle.canonical_nests.specs.Weight.{top_weight, weight_from, scope_with}
use Rattle.loop_counts.proofs.WellFormedItems.{top_well_formed}

module _ (ds : List Define) (s : State) (xs : List Item) (i : ℕ) where
  pub tops_more : (x : Item) → i < length xs → x ≡ slice_index_or xs i x
      → weight_from ds s (map bare_top (drop i xs)) ≡ top_weight ds s (bare_top x) + weight_from (defines_with ds (bare_top x)) (scope_with s (bare_top x)) (map bare_top (drop (i + 1) xs))
  tops_more = rest_more (λ ys. weight_from ds s (map bare_top ys)) xs i

  pub tops_end : length xs ≤ i → weight_from ds s (map bare_top (drop i xs)) ≡ 0
  tops_end = rest_none (λ ys. weight_from ds s (map bare_top ys)) xs i

pub same_frame : (s : State) (t : Top) → (scope_with s t).frame ≡ s.frame
same_frame s (define x neg k t) = refl
same_frame s (extern_ port) = refl
same_frame s (global t x dims e) = refl
same_frame s (function x ps a) = refl
same_frame s (main a) = refl

pub ruleset items = (tops_more, tops_end, same_frame, top_well_formed)
