-- What a loop over items has left.
use Rattle.std.proofs.Common.{◌≡◌, ◌∙◌, sym, ap, subst, ℕ, ◌+◌, ◌<◌, ◌≤◌, List, ◌∷◌, length, map, drop, slice_index_or, None}
use Rattle.std.proofs.lemmas.List.{at_drop_more, drop_all}
use Rattle.c_tree.specs.BareOf.{bare_top}
use Rattle.c_tree.specs.PlacedOf.{placed_top}
use Rattle.c_tree.specs.WellFormed.{WellFormedTop, WellFormedTops}
use Rattle.c_tree.specs.NameRules.BreachSets.{lesser, least}
use Rattle.c_tree.specs.NameRules.Programs.{Known, top_breaches, known_after, breaches_from}
use Rattle.c_tree.specs.declared.tree.Item.{Item}
use Rattle.c_types.proofs.Order.{lesser_joins, lesser_none, has_none}

pub tops_more : (k : Known) (xs : List Item) (i : ℕ) (x : Item) → i < length xs → x ≡ slice_index_or xs i x → least (breaches_from k (map placed_top (drop i xs))) ≡ lesser (least (top_breaches k (placed_top x))) (least (breaches_from (known_after k (placed_top x)) (map placed_top (drop (i + 1) xs))))
tops_more k xs i x h at =
    at_drop_more (λ ys. least (breaches_from k (map placed_top ys))) xs i x h
    ∙ ap (λ y. lesser (least (top_breaches k (placed_top y))) (least (breaches_from (known_after k (placed_top y)) (map placed_top (drop (i + 1) xs))))) (sym at)

pub tops_end : (k : Known) (xs : List Item) (i : ℕ) → length xs ≤ i → least (breaches_from k (map placed_top (drop i xs))) ≡ None
tops_end k xs i h = ap (λ ys. least (breaches_from k (map placed_top ys))) (drop_all i xs h)

abbrev Good : List Item → Type 0
Good xs = WellFormedTops (map bare_top xs)

pub good_more : (xs : List Item) (i : ℕ) (x : Item) → i < length xs → x ≡ slice_index_or xs i x → WellFormedTops (map bare_top (drop i xs)) → WellFormedTop (bare_top x) × WellFormedTops (map bare_top (drop (i + 1) xs))
good_more xs i x h at good = subst Good (at_drop_more (λ ys. ys) xs i x h ∙ ap (λ z. z ∷ drop (i + 1) xs) (sym at)) good

pub ruleset programs = (tops_more, tops_end, good_more, lesser_joins, lesser_none, has_none)
