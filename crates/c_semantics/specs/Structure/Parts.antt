-- The loops and the copies of a body that directives ask for (OpenMP 6.0, 11: the generated loops of each
-- loop-transforming construct), without the order of iterations.
use Rattle.std.specs.Prelude.{ℕ, zero, suc, ◌+◌, ◌-◌, ◌%◌, min, max, List, [], ◌∷◌, ◌++◌, map, length, take, drop, Option, Some, None, ◌==◌, nat_le, get_or, flat_map, if◌then◌else◌}
use Rattle.c_semantics.specs.Loops.Transformations.{Transformation, tile, interchange, reverse_, split, fuse, unroll_full, unroll_partial, Plan, plan, Applied, none_applied, applied_at, div_up, known_counts, filled, any_zero}

-- ---- loops and leaves

pub data LoopKind : Type 0 where
  For : LoopKind
  While : LoopKind
  Do : LoopKind

pub data LeafKind : Type 0 where
  Set : LeafKind
  Step : LeafKind
  Print : LeafKind
  Input : LeafKind
  Call : LeafKind

mutual
  -- a loop round what is in its body, or a statement
  pub data Shape : Type 0 where
    round : LoopKind → Shapes → Shape
    leaf : LeafKind → Shape

  pub data Shapes : Type 0 where
    no_shapes : Shapes
    more_shapes : Shape → Shapes → Shapes

abbrev pub shapes_of : List Shape → Shapes
shapes_of [] = no_shapes
shapes_of (x ∷ xs) = more_shapes x (shapes_of xs)

-- ---- parts

-- `for` loops round a list: the count of each, where it is a known constant
pub record Part : Type 0 where
  pub counts : List (Option ℕ)
  pub list : List Shape

abbrev pub no_part : Part
no_part = record { counts = []; list = [] }

abbrev pub first_part : List Part → Part
first_part ps = get_or ps 0 no_part

-- so many `for` loops round a list
abbrev pub nested : ℕ → List Shape → List Shape
nested zero xs = xs
nested (suc k) xs = round For (shapes_of (nested k xs)) ∷ []

abbrev pub written : Part → List Shape
written p = nested (length p.counts) p.list

-- the part below its first loop, as a list
abbrev pub below_first : Part → List Shape
below_first p = nested (length p.counts - 1) p.list

abbrev pub first_count : Part → Option ℕ
first_count p = get_or p.counts 0 None

abbrev pub copies : ℕ → List Shape → List Shape
copies zero xs = []
copies (suc k) xs = xs ++ copies k xs

-- ---- counts

abbrev pub known : Option ℕ → ℕ
known None = 0
known (Some k) = k

-- a grid loop, or an unrolled one
abbrev pub chunk_count : Option ℕ → ℕ → Option ℕ
chunk_count None s = None
chunk_count (Some c) s = Some (div_up c s)

-- a tile loop: known where every tile is as wide as the first
abbrev pub tile_count : Option ℕ → ℕ → Option ℕ
tile_count None s = None
tile_count (Some c) s = if nat_le c s then Some c else if c % s == 0 then Some s else None

abbrev pub zip_counts : (Option ℕ → ℕ → Option ℕ) → List (Option ℕ) → List ℕ → List (Option ℕ)
zip_counts f [] ss = []
zip_counts f (c ∷ cs) [] = []
zip_counts f (c ∷ cs) (s ∷ ss) = f c s ∷ zip_counts f cs ss

abbrev pub and_known : ℕ → Option (List ℕ) → Option (List ℕ)
and_known c None = None
and_known c (Some ks) = Some (c ∷ ks)

abbrev pub all_known : List (Option ℕ) → Option (List ℕ)
all_known [] = Some []
all_known (None ∷ cs) = None
all_known (Some c ∷ cs) = and_known c (all_known cs)

-- the outermost of interchanged loops, where the counts of all are known: 0 where one of them is
abbrev pub outermost : Option (List ℕ) → List (Option ℕ) → List (Option ℕ)
outermost o [] = []
outermost None (c ∷ cs) = None ∷ cs
outermost (Some ks) (c ∷ cs) = (if any_zero ks then Some 0 else c) ∷ cs

-- consecutive parts of n turns, as far as they go
abbrev pub clipped : ℕ → List ℕ → List ℕ
clipped n [] = []
clipped n (c ∷ cs) = min c n ∷ clipped (n - c) cs

abbrev pub split_counts : Option ℕ → List (Option ℕ) → List (Option ℕ)
split_counts None cs = map (λ c. None) cs
split_counts (Some n) cs = map (λ c. Some c) (clipped n (map (filled (n - known_counts cs)) cs))

abbrev pub greatest : List ℕ → ℕ
greatest [] = 0
greatest (x ∷ xs) = max x (greatest xs)

abbrev pub greatest_known : Option (List ℕ) → Option ℕ
greatest_known None = None
greatest_known (Some ks) = Some (greatest ks)

-- ---- what a transformation makes of parts

abbrev pub fused_part : List Part → Part
fused_part ps = record { counts = greatest_known (all_known (map first_count ps)) ∷ []; list = flat_map below_first ps }

abbrev pub transform_parts : Transformation → List Part → List Part
transform_parts (tile ss) ps =
    let p = first_part ps in
    record p { counts = zip_counts chunk_count p.counts ss ++ (zip_counts tile_count p.counts ss ++ drop (length ss) p.counts) } ∷ []
transform_parts (interchange qs) ps =
    let p = first_part ps in
    let taken = take (length qs) p.counts in
    record p { counts = outermost (all_known taken) (map (λ q. get_or p.counts (q - 1) None) qs) ++ drop (length qs) p.counts } ∷ []
transform_parts reverse_ ps = first_part ps ∷ []
transform_parts (split cs) ps =
    let p = first_part ps in
    map (λ c. record p { counts = c ∷ drop 1 p.counts }) (split_counts (first_count p) cs)
transform_parts (fuse None) ps = fused_part ps ∷ []
transform_parts (fuse (Some r)) ps = take (r.0 - 1) ps ++ fused_part (take r.1 (drop (r.0 - 1) ps)) ∷ drop (r.0 - 1 + r.1) ps
transform_parts unroll_full ps =
    let p = first_part ps in record { counts = []; list = copies (known (first_count p)) (below_first p) } ∷ []
transform_parts (unroll_partial k) ps =
    let p = first_part ps in record { counts = chunk_count (first_count p) k ∷ []; list = copies k (below_first p) } ∷ []

-- ---- with `apply`, at the positions of the loops

-- the part below its first k loops
abbrev pub inner : ℕ → Part → Part
inner k p = record p { counts = drop k p.counts }

-- what stands below loops with these counts: one part goes on the nest, several are its list
abbrev pub refit : List (Option ℕ) → List Part → Part
refit cs (q ∷ []) = record { counts = cs ++ q.counts; list = q.list }
refit cs qs = record { counts = cs; list = flat_map written qs }

abbrev pub at_part : ℕ → (Part → List Part) → List Part → List Part
at_part i f [] = []
at_part zero f (p ∷ ps) = f p ++ ps
at_part (suc i) f (p ∷ ps) = p ∷ at_part i f ps

abbrev pub below_loops : ℕ → (List Part → List Part) → Part → List Part
below_loops zero f p = f (p ∷ [])
below_loops (suc k) f p = refit (take (suc k) p.counts) (f (inner (suc k) p ∷ [])) ∷ []

abbrev pub on_position : Transformation → ℕ → (List Part → List Part) → List Part → List Part
on_position (split cs) p f = at_part (p - 1) (below_loops 0 f)
on_position (fuse (Some r)) p f = at_part (r.0 - 1) (below_loops (p - 1) f)
on_position _ p f = at_part 0 (below_loops (p - 1) f)

abbrev mutual
  pub plan_parts : Plan → List Part → List Part
  plan_parts (plan c w) ps = applied_parts c w (transform_parts c ps)

  pub applied_parts : Transformation → Applied → List Part → List Part
  applied_parts c none_applied ps = ps
  applied_parts c (applied_at p d w) ps = applied_parts c w (on_position c p (plan_parts d) ps)
