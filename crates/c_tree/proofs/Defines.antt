-- The defines that a search has left: those of its next item and of the rest.
use Rattle.std.proofs.Common.{◌≡◌, ◌∙◌, ◌<◌, ◌≤◌, ◌+◌, sym, ap, subst, ℕ, List, ◌∷◌, length, map, drop, slice_index_or, None}
use Rattle.std.proofs.lemmas.List.{at_drop_more, drop_all}
use Rattle.c_tree.specs.Bare.{Name}
use Rattle.c_tree.specs.BareOf.{bare_top}
use Rattle.c_tree.specs.Constants.{define_named, DefinesAreHeld}
use Rattle.c_tree.specs.declared.tree.Item.{Item}

abbrev Held : List Item → Type 0
Held xs = DefinesAreHeld (map bare_top xs)

pub named_more : (xs : List Item) (i : ℕ) (x : Item) (y : Name) → i < length xs → x ≡ slice_index_or xs i x → define_named (map bare_top (drop i xs)) y ≡ define_named (bare_top x ∷ map bare_top (drop (i + 1) xs)) y
named_more xs i x y h at = at_drop_more (λ ys. define_named (map bare_top ys) y) xs i x h ∙ ap (λ z. define_named (bare_top z ∷ map bare_top (drop (i + 1) xs)) y) (sym at)

pub named_end : (xs : List Item) (i : ℕ) (y : Name) → length xs ≤ i → define_named (map bare_top (drop i xs)) y ≡ None
named_end xs i y h = ap (λ ys. define_named (map bare_top ys) y) (drop_all i xs h)

pub held_more : (xs : List Item) (i : ℕ) (x : Item) → i < length xs → x ≡ slice_index_or xs i x → DefinesAreHeld (map bare_top (drop i xs)) → DefinesAreHeld (bare_top x ∷ map bare_top (drop (i + 1) xs))
held_more xs i x h at held =
    subst Held (at_drop_more (λ ys. ys) xs i x h ∙ ap (λ z. z ∷ drop (i + 1) xs) (sym at)) held

pub ruleset defines = (named_more, named_end, held_more)
