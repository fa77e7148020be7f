-- What each loop-transforming construct makes of iterations: fuse, interchange, reverse, split, tile and unroll (OpenMP
-- 6.0, 11.3, 11.4, 11.5, 11.6, 11.8, 11.9); and the clause `apply` (11.1), which puts directives on the loops that a
-- construct gives.
use Rattle.std.specs.Prelude.{ℕ, zero, suc, ◌+◌, ◌*◌, ◌-◌, ◌/◌, ◌%◌, min, max, List, [], ◌∷◌, ◌++◌, map, reverse, length, take, drop, Option, Some, None, Bool, true, false, ◌==◌, get_or, if◌then◌else◌}
use Rattle.c_semantics.specs.Loops.IterationTrees.{Tree, loop, do_all, no_trees, loop_of, do_of, children, nth, members, width, widths, pick, build, at_depth}

-- a transformation, with the values of its arguments
pub data Transformation : Type 0 where
  tile : List ℕ → Transformation
  interchange : List ℕ → Transformation
  reverse_ : Transformation
  split : List (Option ℕ) → Transformation
  fuse : Option (ℕ × ℕ) → Transformation
  unroll_full : Transformation
  unroll_partial : ℕ → Transformation

-- ---- interchange

-- the place of the first j in a list
abbrev pub place_of : ℕ → List ℕ → ℕ
place_of j [] = 0
place_of j (p ∷ ps) = if j == p then 0 else place_of j ps + 1

-- the indices in the old order: that of loop pk is the k-th of the new ones
abbrev pub old_order : List ℕ → List ℕ → List ℕ
old_order ps q = members (length ps) (λ j. get_or q (place_of (j + 1) ps) 0)

abbrev pub any_zero : List ℕ → Bool
any_zero [] = false
any_zero (w ∷ ws) = if w == 0 then true else any_zero ws

-- the k-th loop is loop number pk; no turn at all where one of the loops has none
abbrev pub interchanged : List ℕ → Tree → Tree
interchanged ps t =
    if any_zero (map (λ p. width t (p - 1)) ps) then loop no_trees
    else build (map (λ p. width t (p - 1)) ps) (λ q. pick t (old_order ps q))

-- ---- tile

abbrev pub zip_with : {A B C : Type 0} → (A → B → C) → List A → List B → List C
zip_with f [] bs = []
zip_with f (a ∷ as') [] = []
zip_with f (a ∷ as') (b ∷ bs) = f a b ∷ zip_with f as' bs

-- n / k, rounded up
abbrev pub div_up : ℕ → ℕ → ℕ
div_up n k = n / k + min 1 (n % k)

-- what is left of a width w in the g-th tile of size s
abbrev pub rest : ℕ → ℕ → ℕ → ℕ
rest w s g = min s (w - g * s)

abbrev pub rests : List ℕ → List ℕ → List ℕ → List ℕ
rests [] ss gs = []
rests (w ∷ ws) [] gs = []
rests (w ∷ ws) (s ∷ ss) [] = []
rests (w ∷ ws) (s ∷ ss) (g ∷ gs) = rest w s g ∷ rests ws ss gs

-- the grid loops round the tile loops
abbrev pub tiled : List ℕ → Tree → Tree
tiled ss t =
    build (zip_with div_up (widths (length ss) t) ss) (λ g.
    build (rests (widths (length ss) t) ss g) (λ i.
    pick t (zip_with (λ a b. a + b) (zip_with (λ a s. a * s) g ss) i)))

-- ---- split

-- the sum of the counts that are given
abbrev pub known_counts : List (Option ℕ) → ℕ
known_counts [] = 0
known_counts (None ∷ cs) = known_counts cs
known_counts (Some c ∷ cs) = c + known_counts cs

-- `omp_fill` stands for what the others leave
abbrev pub filled : ℕ → Option ℕ → ℕ
filled n None = n
filled n (Some c) = c

-- consecutive parts of a list, as far as it goes
abbrev pub cut : List ℕ → List Tree → List Tree
cut [] ts = []
cut (c ∷ cs) ts = loop_of (take c ts) ∷ cut cs (drop c ts)

abbrev pub split_up : List (Option ℕ) → Tree → List Tree
split_up cs t = cut (map (filled (length (children t) - known_counts cs)) cs) (children t)

-- ---- fuse

abbrev pub longest : List Tree → ℕ
longest [] = 0
longest (t ∷ ts) = max (length (children t)) (longest ts)

-- the i-th children that exist
abbrev pub ith_children : ℕ → List Tree → List Tree
ith_children i [] = []
ith_children i (t ∷ ts) = take 1 (drop i (children t)) ++ ith_children i ts

abbrev pub fused : List Tree → Tree
fused ts = loop_of (members (longest ts) (λ i. do_of (ith_children i ts)))

-- the loops that `looprange` selects, or all; the others stay before and after
abbrev pub fuse_some : Option (ℕ × ℕ) → List Tree → List Tree
fuse_some None ts = fused ts ∷ []
fuse_some (Some r) ts = take (r.0 - 1) ts ++ fused (take r.1 (drop (r.0 - 1) ts)) ∷ drop (r.0 - 1 + r.1) ts

-- ---- unroll

-- a loop over consecutive chunks of k, the last one maybe shorter
abbrev pub unrolled : ℕ → Tree → Tree
unrolled k t = loop_of (members (div_up (length (children t)) k) (λ c. do_of (take k (drop (c * k) (children t)))))

-- ---- all

-- of the one loop nest, or for `fuse` of the sequence
abbrev pub transform : Transformation → List Tree → List Tree
transform (tile ss) ts = tiled ss (nth 0 ts) ∷ []
transform (interchange ps) ts = interchanged ps (nth 0 ts) ∷ []
transform reverse_ ts = loop_of (reverse (children (nth 0 ts))) ∷ []
transform (split cs) ts = split_up cs (nth 0 ts)
transform (fuse r) ts = fuse_some r ts
transform unroll_full ts = do_of (children (nth 0 ts)) ∷ []
transform (unroll_partial k) ts = unrolled k (nth 0 ts) ∷ []

-- ---- with `apply`

mutual
  -- a transformation, and the directives that `apply` puts on what it gives, each at a position from 1; the last
  -- position comes first
  pub data Plan : Type 0 where
    plan : Transformation → Applied → Plan

  pub data Applied : Type 0 where
    none_applied : Applied
    applied_at : ℕ → Plan → Applied → Applied

-- one part stands as it is, several stand one after another
abbrev pub as_one : List Tree → Tree
as_one [] = do_all no_trees
as_one (t ∷ []) = t
as_one (t ∷ u ∷ ts) = do_of (t ∷ u ∷ ts)

-- the part at a place is replaced by what a function gives for it
abbrev pub at_part : ℕ → (Tree → List Tree) → List Tree → List Tree
at_part i f [] = []
at_part zero f (t ∷ ts) = f t ++ ts
at_part (suc i) f (t ∷ ts) = t ∷ at_part i f ts

-- on the outermost loop a part is replaced; further in, each tree there
abbrev pub below_loops : ℕ → (List Tree → List Tree) → Tree → List Tree
below_loops zero f t = f (t ∷ [])
below_loops (suc k) f t = at_depth (suc k) (λ u. as_one (f (u ∷ []))) t ∷ []

-- where a position is: for `split` the positions number the parts; else they number the loops of the one part, for
-- `fuse` those of the fused one
abbrev pub on_position : Transformation → ℕ → (List Tree → List Tree) → List Tree → List Tree
on_position (split cs) p f = at_part (p - 1) (below_loops 0 f)
on_position (fuse (Some r)) p f = at_part (r.0 - 1) (below_loops (p - 1) f)
on_position _ p f = at_part 0 (below_loops (p - 1) f)

abbrev mutual
  -- the transformation, then what is applied, from the last position to the first
  pub apply_plan : Plan → List Tree → List Tree
  apply_plan (plan c w) ts = apply_items c w (transform c ts)

  pub apply_items : Transformation → Applied → List Tree → List Tree
  apply_items c none_applied ts = ts
  apply_items c (applied_at p d w) ts = apply_items c w (on_position c p (apply_plan d) ts)
