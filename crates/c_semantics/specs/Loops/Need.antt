-- How many loops a directive needs of its body (OpenMP 6.0, 11: the loops that a loop-transforming construct takes and
-- generates). A directive gives parts, each a nest of so many loops, which is its depth; the loops below those that it
-- takes stay part of the nest. A directive round it may take those loops, and so may the items of `apply`.
use Rattle.std.specs.Prelude.{ℕ, zero, suc, ◌+◌, ◌-◌, List, [], ◌∷◌, ◌++◌, length, take, drop, replicate, Option, Some, None, Bool, true, false, ◌&&◌, nat_le, get_or, if◌then◌else◌, unwrap_or}
use Rattle.c_semantics.specs.Loops.Transformations.{Transformation, tile, interchange, split, fuse, unroll_full, unroll_partial, Plan, plan, Applied, none_applied, applied_at}

-- the loops that a transformation takes; `fuse` takes one of each part
abbrev pub takes : Transformation → ℕ
takes (tile ss) = length ss
takes (interchange ps) = length ps
takes _ = 1

-- ---- the depths of the parts that a directive gives, over parts of these depths

-- before its items
abbrev pub transformed_depths : Transformation → List ℕ → List ℕ
transformed_depths (tile ss) ks = (get_or ks 0 0 + length ss) ∷ []
transformed_depths (split cs) ks = replicate (length cs) (get_or ks 0 0)
transformed_depths (fuse None) ks = 1 ∷ []
transformed_depths (fuse (Some r)) ks = take (r.0 - 1) ks ++ 1 ∷ drop (r.0 - 1 + r.1) ks
transformed_depths unroll_full ks = 0 ∷ []
transformed_depths (unroll_partial k) ks = 1 ∷ []
transformed_depths _ ks = take 1 ks

abbrev pub all_at_least : ℕ → List ℕ → Bool
all_at_least d [] = true
all_at_least d (k ∷ ks) = nat_le d k && all_at_least d ks

abbrev pub if_some : Option (List ℕ) → (List ℕ → Option (List ℕ)) → Option (List ℕ)
if_some None f = None
if_some (Some ks) f = f ks

-- what an item gives below k loops: one part goes on the nest, several end it
abbrev pub nested_depths : ℕ → List ℕ → List ℕ
nested_depths zero bs = bs
nested_depths (suc k) (b ∷ []) = (suc k + b) ∷ []
nested_depths (suc k) bs = suc k ∷ []

abbrev pub part_depths : ℕ → (ℕ → Option (List ℕ)) → List ℕ → Option (List ℕ)
part_depths i f [] = None
part_depths zero f (k ∷ ks) = if_some (f k) (λ bs. Some (bs ++ ks))
part_depths (suc i) f (k ∷ ks) = if_some (part_depths i f ks) (λ bs. Some (k ∷ bs))

-- an item below k loops of a part of depth a acts on a part of depth a - k
abbrev pub below_depths : ℕ → (List ℕ → Option (List ℕ)) → ℕ → Option (List ℕ)
below_depths k f a = if nat_le k a then if_some (f ((a - k) ∷ [])) (λ bs. Some (nested_depths k bs)) else None

abbrev pub position_depths : Transformation → ℕ → (List ℕ → Option (List ℕ)) → List ℕ → Option (List ℕ)
position_depths (split cs) p f = part_depths (p - 1) (below_depths 0 f)
position_depths (fuse (Some r)) p f = part_depths (r.0 - 1) (below_depths (p - 1) f)
position_depths _ p f = part_depths 0 (below_depths (p - 1) f)

abbrev mutual
  -- None where the directive or an item doesn't find the loops that it takes
  pub depths : Plan → List ℕ → Option (List ℕ)
  depths (plan c w) ks = if all_at_least (takes c) ks then applied_depths c w (transformed_depths c ks) else None

  pub applied_depths : Transformation → Applied → List ℕ → Option (List ℕ)
  applied_depths c none_applied ks = Some ks
  applied_depths c (applied_at p d w) ks = if_some (position_depths c p (depths d) ks) (applied_depths c w)

-- ---- the need

abbrev pub each_at_least : ℕ → Option (List ℕ) → Bool
each_at_least d None = false
each_at_least d (Some ks) = all_at_least d ks

-- over a body part of depth k, each item finds its loops, and each part has depth d at least
abbrev pub serves : Plan → ℕ → ℕ → Bool
serves p d k = each_at_least d (depths p (k ∷ []))

-- the least depth that serves, of so many from k on
abbrev pub least_from : Plan → ℕ → ℕ → ℕ → Option ℕ
least_from p d k zero = None
least_from p d k (suc m) = if serves p d k then Some k else least_from p d (suc k) m

abbrev mutual
  -- no more loops than this can matter: what is taken, and the loops before each position
  pub reach : Plan → ℕ
  reach (plan c w) = takes c + applied_reach w

  pub applied_reach : Applied → ℕ
  applied_reach none_applied = 0
  applied_reach (applied_at p d w) = p + reach d + applied_reach w

-- the depths to be tried from what is taken on; for `fuse` only 1
abbrev pub tries : Transformation → ℕ → ℕ
tries (fuse r) n = 1
tries _ n = n + 1

-- the loops that a directive needs, where each of its parts is wanted to have depth d at least: the least number, no
-- less than it takes, that serves. None where no number serves
abbrev pub need : Plan → ℕ → Option ℕ
need (plan c w) d = least_from (plan c w) d (takes c) (tries c (reach (plan c w) + d))

-- what a directive asks of its body: its need, or as many loops as it takes where no number serves
abbrev pub loops_asked : Plan → ℕ → ℕ
loops_asked (plan c w) d = unwrap_or (need (plan c w) d) (takes c)
