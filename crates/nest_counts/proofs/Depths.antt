-- Functions of the trees at a depth, one after another.
use Rattle.std.proofs.Common.{◌≡◌, refl, ap, ◌∙◌, ℕ, zero, suc, ◌+◌, List, [], ◌∷◌, map, length, arith}
use Rattle.c_semantics.specs.Loops.IterationTrees.{Tree, body, do_all, loop, Trees, no_trees, more_trees, to_list, of_list, nth, on_children, at_depth}
use Rattle.c_semantics.specs.Loops.Transformations.{as_one}
use Rattle.nest_counts.proofs.Ways.{to_of}

map_map : (g f : Tree → Tree) (ts : List Tree) → map g (map f ts) ≡ map (λ u. g (f u)) ts
map_map g f [] = refl
map_map g f (t ∷ ts) = ap (λ us. g (f t) ∷ us) (map_map g f ts)

on_compose : (g f : Tree → Tree) (t : Tree) → on_children g (on_children f t) ≡ on_children (λ u. g (f u)) t
on_compose g f (body b vs) = refl
on_compose g f (do_all ts) = ap (λ us. do_all (of_list us)) (ap (map g) (to_of (map f (to_list ts))) ∙ map_map g f (to_list ts))
on_compose g f (loop ts) = ap (λ us. loop (of_list us)) (ap (map g) (to_of (map f (to_list ts))) ∙ map_map g f (to_list ts))

pub at_compose : (k : ℕ) (g f : Tree → Tree) (t : Tree) → at_depth k g (at_depth k f t) ≡ at_depth k (λ u. g (f u)) t
at_compose zero g f t = refl
at_compose (suc k) g f t = on_compose (at_depth k g) (at_depth k f) t ∙ (λ i. on_children (λ u. at_compose k g f u i) t)

pub at_add : (k m n : ℕ) (f : Tree → Tree) (t : Tree) → n ≡ k + m → at_depth k (at_depth m f) t ≡ at_depth n f t
at_add zero m n f t e = ap (λ j. at_depth j f t) (let s : m ≡ n = omega arith in s)
at_add (suc k) m zero f t e = absurd (omega arith)
at_add (suc k) m (suc n) f t e = (λ i. on_children (λ u. at_add k m n f u (let s : n ≡ k + m = omega arith in s) i) t)

map_same : (ts : List Tree) → map (λ u. u) ts ≡ ts
map_same [] = refl
map_same (t ∷ ts) = ap (λ us. t ∷ us) (map_same ts)

of_to : (ts : Trees) → of_list (to_list ts) ≡ ts
of_to no_trees = refl
of_to (more_trees t ts) = ap (more_trees t) (of_to ts)

on_same : (t : Tree) → on_children (λ u. u) t ≡ t
on_same (body b vs) = refl
on_same (do_all ts) = ap (λ us. do_all (of_list us)) (map_same (to_list ts)) ∙ ap do_all (of_to ts)
on_same (loop ts) = ap (λ us. loop (of_list us)) (map_same (to_list ts)) ∙ ap loop (of_to ts)

pub at_same : (k : ℕ) (t : Tree) → at_depth k (λ u. u) t ≡ t
at_same zero t = refl
at_same (suc k) t = (λ i. on_children (λ u. at_same k u i) t) ∙ on_same t

pub one_part : (ts : List Tree) → length ts ≡ 1 → as_one ts ≡ nth 0 ts
one_part [] e = absurd (omega arith)
one_part (t ∷ []) e = refl
one_part (t ∷ u ∷ ts) e = absurd (omega arith)
