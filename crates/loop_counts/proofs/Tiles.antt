-- What a loop over the sizes of `tile` has left.
use Rattle.std.proofs.Common.{◌≡◌, ◌∙◌, refl, ap, ◌<◌, ◌≤◌, ◌+◌, ℕ, List, [], ◌∷◌, length, drop, slice_index_or, arith}
use Rattle.std.proofs.lemmas.List.{drop_all}
use Rattle.c_tree.proofs.Walks.{rest_more, rest_none}
use Rattle.canonical_nests.specs.declared.nest.CountKind.{CountKind}
use Rattle.canonical_nests.specs.Kinds.{Part, chunk_kind, tile_kind, grid_kinds, tile_kinds}

no_size : (ks : Part) → grid_kinds ks [] ≡ []
no_size [] = refl
no_size (k ∷ ks) = refl

no_tile : (g : ℕ) (ks : Part) → tile_kinds g ks [] ≡ []
no_tile g [] = refl
no_tile g (k ∷ ks) = refl

pub grid_more : (ks : Part) (ss : List ℕ) (i : ℕ) (k : CountKind) (s : ℕ) → i < length ks → i < length ss → k ≡ slice_index_or ks i k → s ≡ slice_index_or ss i s
    → grid_kinds (drop i ks) (drop i ss) ≡ chunk_kind k s ∷ grid_kinds (drop (i + 1) ks) (drop (i + 1) ss)
grid_more ks ss i k s lt less is also =
    rest_more (λ ys. grid_kinds ys (drop i ss)) ks i k lt is
    ∙ rest_more (λ ys. grid_kinds (k ∷ drop (i + 1) ks) ys) ss i s less also

pub grid_short : (ks : Part) (ss : List ℕ) (i : ℕ) → length ks ≤ i → grid_kinds (drop i ks) (drop i ss) ≡ []
grid_short ks ss i = rest_none (λ ys. grid_kinds ys (drop i ss)) ks i

pub grid_end : (ks : Part) (ss : List ℕ) (i : ℕ) → length ss ≤ i → grid_kinds (drop i ks) (drop i ss) ≡ []
grid_end ks ss i le = ap (grid_kinds (drop i ks)) (drop_all i ss le) ∙ no_size (drop i ks)

pub tile_more : (g : ℕ) (ks : Part) (ss : List ℕ) (i : ℕ) (k : CountKind) (s : ℕ) → i < length ks → i < length ss → k ≡ slice_index_or ks i k → s ≡ slice_index_or ss i s
    → tile_kinds (g + i) (drop i ks) (drop i ss) ≡ tile_kind (g + i) k s ∷ tile_kinds (g + (i + 1)) (drop (i + 1) ks) (drop (i + 1) ss)
tile_more g ks ss i k s lt less is also =
    let e : g + i + 1 ≡ g + (i + 1) = omega arith in
    rest_more (λ ys. tile_kinds (g + i) ys (drop i ss)) ks i k lt is
    ∙ (rest_more (λ ys. tile_kinds (g + i) (k ∷ drop (i + 1) ks) ys) ss i s less also
    ∙ ap (λ n. tile_kind (g + i) k s ∷ tile_kinds n (drop (i + 1) ks) (drop (i + 1) ss)) e)

pub tile_short : (g : ℕ) (ks : Part) (ss : List ℕ) (i : ℕ) → length ks ≤ i → tile_kinds (g + i) (drop i ks) (drop i ss) ≡ []
tile_short g ks ss i = rest_none (λ ys. tile_kinds (g + i) ys (drop i ss)) ks i

pub tile_end : (g : ℕ) (ks : Part) (ss : List ℕ) (i : ℕ) → length ss ≤ i → tile_kinds (g + i) (drop i ks) (drop i ss) ≡ []
tile_end g ks ss i le = ap (tile_kinds (g + i) (drop i ks)) (drop_all i ss le) ∙ no_tile (g + i) (drop i ks)

pub tile_start : (g : ℕ) (ks : Part) (ss : List ℕ) → tile_kinds (g + 0) ks ss ≡ tile_kinds g ks ss
tile_start g ks ss = let e : g + 0 ≡ g = omega arith in ap (λ n. tile_kinds n ks ss) e

pub ruleset tiles = (grid_more, grid_short, grid_end, tile_more, tile_short, tile_end, tile_start)
