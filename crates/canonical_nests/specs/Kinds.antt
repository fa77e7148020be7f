-- What is known of how often each loop of a nest turns, and what each transformation makes of it (OpenMP 6.0, 11: the
-- generated loops of each loop-transforming construct). A part is a nest of loops, the outermost first, whose positions
-- are counted from 1.
use Rattle.std.specs.Prelude.{ℕ, zero, suc, ◌+◌, ◌-◌, ◌%◌, List, [], ◌∷◌, ◌++◌, map, length, take, drop, Option, Some, None, ◌==◌, nat_le, nat_lt, get_or, flat_map, if◌then◌else◌}
use Rattle.c_semantics.specs.Loops.Transformations.{Transformation, tile, interchange, split, fuse, unroll_full, unroll_partial, Plan, plan, Applied, none_applied, applied_at, place_of, any_zero, div_up}
use Rattle.c_semantics.specs.Structure.Parts.{all_known, greatest, split_counts}
use Rattle.canonical_nests.specs.declared.nest.CountKind.{CountKind}
use Rattle.canonical_nests.specs.declared.nest.CountKind.TheVariants.{Known, Entry, Depends}

abbrev pub Part : Type 0
Part = List CountKind

-- ---- positions

-- a position in its place among ascending ones, each once
abbrev pub with_position : ℕ → List ℕ → List ℕ
with_position p [] = p ∷ []
with_position p (q ∷ qs) = if nat_lt p q then p ∷ q ∷ qs else if p == q then q ∷ qs else q ∷ with_position p qs

abbrev pub ascending : List ℕ → List ℕ
ascending [] = []
ascending (p ∷ ps) = with_position p (ascending ps)

-- ---- kinds

abbrev pub depends_on : CountKind → List ℕ
depends_on (Depends ps) = ps
depends_on _ = []

-- what depends on no loop is fixed at the entry
abbrev pub some_or_entry : List ℕ → CountKind
some_or_entry [] = Entry
some_or_entry (p ∷ ps) = Depends (p ∷ ps)

abbrev pub on_positions : List ℕ → CountKind
on_positions ps = some_or_entry (ascending ps)

-- each position on which it depends is now at these
abbrev pub moved : (ℕ → List ℕ) → CountKind → CountKind
moved f (Depends ps) = on_positions (flat_map f ps)
moved f k = k

abbrev pub known_count : CountKind → Option ℕ
known_count (Known c) = Some c
known_count _ = None

-- the number where it is known, else of the same kind
abbrev pub same_kind : CountKind → Option ℕ → CountKind
same_kind k (Some c) = Known c
same_kind k None = k

abbrev pub position_up_to : ℕ → ℕ → List ℕ
position_up_to n p = if nat_le p n then p ∷ [] else []

-- no count depends on a position that its part doesn't have
abbrev pub settled : Part → Part
settled ks = map (moved (position_up_to (length ks))) ks

-- the kind of the loop at a place from 0
abbrev pub kind_at : Part → ℕ → CountKind
kind_at ks i = get_or ks i Entry

-- ---- where the loops go

-- the new positions of a loop, both counted within the loops on which the transformation acts
abbrev pub new_positions : Transformation → ℕ → List ℕ
new_positions (tile ss) p = if nat_le p (length ss) then p ∷ (length ss + p) ∷ [] else (length ss + p) ∷ []
new_positions (interchange ps) p = if nat_le p (length ps) then (place_of p ps + 1) ∷ [] else p ∷ []
new_positions _ p = p ∷ []

-- the same where k loops stand round them
abbrev pub positions_below : ℕ → Transformation → ℕ → List ℕ
positions_below k c p = if nat_le p k then p ∷ [] else map (λ q. k + q) (new_positions c (p - k))

-- ---- tile

-- the grid loop, and the loop of a partial unroll: n / s rounded up
abbrev pub chunk_kind : CountKind → ℕ → CountKind
chunk_kind (Known c) s = Known (div_up c s)
chunk_kind k s = k

-- the tile loop whose grid loop is at position g: as wide as the loop, else as the size where that divides the count,
-- else it depends on the grid loop
abbrev pub tile_kind : ℕ → CountKind → ℕ → CountKind
tile_kind g (Known c) s = if nat_le c s then Known c else if c % s == 0 then Known s else on_positions (g ∷ [])
tile_kind g k s = on_positions (g ∷ depends_on k)

abbrev pub grid_kinds : Part → List ℕ → Part
grid_kinds [] ss = []
grid_kinds (k ∷ ks) [] = []
grid_kinds (k ∷ ks) (s ∷ ss) = chunk_kind k s ∷ grid_kinds ks ss

-- of the grid loops from position g on
abbrev pub tile_kinds : ℕ → Part → List ℕ → Part
tile_kinds g [] ss = []
tile_kinds g (k ∷ ks) [] = []
tile_kinds g (k ∷ ks) (s ∷ ss) = tile_kind g k s ∷ tile_kinds (g + 1) ks ss

-- of loops below k others
abbrev pub tiled : ℕ → List ℕ → Part → Part
tiled k ss ks = grid_kinds ks ss ++ (tile_kinds (k + 1) ks ss ++ drop (length ss) ks)

-- ---- interchange

-- the first loop that interchange gives has no turn where one of the taken loops has none
abbrev pub first_known : Option (List ℕ) → CountKind → Part → CountKind
first_known (Some cs) k taken = if any_zero cs then Known 0 else k
first_known None k taken = on_positions (flat_map depends_on taken)

abbrev pub outermost : Part → Part → Part
outermost taken [] = []
outermost taken (k ∷ ks) = first_known (all_known (map known_count taken)) k taken ∷ ks

abbrev pub interchanged : List ℕ → Part → Part
interchanged ps ks = outermost (take (length ps) ks) (map (λ p. kind_at ks (p - 1)) ps) ++ drop (length ps) ks

-- ---- split and fuse

abbrev pub split_kinds : CountKind → List (Option ℕ) → Part
split_kinds k cs = map (same_kind k) (split_counts (known_count k) cs)

-- the greatest count where all are known
abbrev pub fused_kind : Option (List ℕ) → CountKind
fused_kind (Some cs) = Known (greatest cs)
fused_kind None = Entry

abbrev pub fused : List Part → Part
fused ps = fused_kind (all_known (map (λ ks. known_count (kind_at ks 0)) ps)) ∷ []

abbrev pub fused_parts : Option (ℕ × ℕ) → List Part → List Part
fused_parts None ps = fused ps ∷ []
fused_parts (Some r) ps = take (r.0 - 1) ps ++ fused (take r.1 (drop (r.0 - 1) ps)) ∷ drop (r.0 - 1 + r.1) ps

-- ---- all

-- the parts that a transformation makes of the loops of a part below its first k, each with these
abbrev pub inner_kinds : Transformation → ℕ → Part → List Part
inner_kinds (tile ss) k ks = tiled k ss ks ∷ []
inner_kinds (interchange ps) k ks = interchanged ps ks ∷ []
inner_kinds (split cs) k ks = map (λ c. c ∷ drop 1 ks) (split_kinds (kind_at ks 0) cs)
inner_kinds unroll_full k ks = [] ∷ []
inner_kinds (unroll_partial f) k ks = (chunk_kind (kind_at ks 0) f ∷ []) ∷ []
inner_kinds _ k ks = ks ∷ []

abbrev pub part_kinds : Transformation → ℕ → Part → List Part
part_kinds c k ks =
    let new = map (moved (positions_below k c)) ks in
    map (λ below. settled (take k new ++ below)) (inner_kinds c k (drop k new))

abbrev pub no_part : Part
no_part = []

-- of the parts in a directive's body; only `fuse` takes several, and it stands below no loop
abbrev pub transformed_kinds : Transformation → ℕ → List Part → List Part
transformed_kinds (fuse r) k ps = fused_parts r ps
transformed_kinds c k ps = part_kinds c k (get_or ps 0 no_part)

-- ---- with `apply`, at the positions of the loops

-- what an item gives below k loops: one part stands as it is, several end it
abbrev pub as_one_part : ℕ → Part → List Part → List Part
as_one_part k ks (q ∷ []) = q ∷ []
as_one_part k ks qs = settled (take k ks) ∷ []

abbrev pub below_loops : ℕ → ℕ → (ℕ → List Part → List Part) → Part → List Part
below_loops zero k f ks = f k (ks ∷ [])
below_loops (suc j) k f ks = as_one_part (k + suc j) ks (f (k + suc j) (ks ∷ []))

abbrev pub at_part : ℕ → (Part → List Part) → List Part → List Part
at_part i f [] = []
at_part zero f (p ∷ ps) = f p ++ ps
at_part (suc i) f (p ∷ ps) = p ∷ at_part i f ps

-- for `split` the positions number the parts, else the loops of the one part, for `fuse` of the fused one
abbrev pub on_position : Transformation → ℕ → ℕ → (ℕ → List Part → List Part) → List Part → List Part
on_position (split cs) p k f = at_part (p - 1) (below_loops 0 k f)
on_position (fuse (Some r)) p k f = at_part (r.0 - 1) (below_loops (p - 1) k f)
on_position _ p k f = at_part 0 (below_loops (p - 1) k f)

abbrev mutual
  -- the parts that a directive gives below k loops, its items from the last position to the first
  pub plan_kinds : Plan → ℕ → List Part → List Part
  plan_kinds (plan c w) k ps = applied_kinds c w k (transformed_kinds c k ps)

  pub applied_kinds : Transformation → Applied → ℕ → List Part → List Part
  applied_kinds c none_applied k ps = ps
  applied_kinds c (applied_at p d w) k ps = applied_kinds c w k (on_position c p k (plan_kinds d) ps)
