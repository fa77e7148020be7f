-- Depths that follow the number of a body's loops.
use Rattle.std.proofs.Common.{◌≡◌, ◌∙◌, refl, sym, ap, ◌<◌, ◌≤◌, ◌+◌, ◌-◌, ℕ, zero, suc, max, List, [], ◌∷◌, ◌++◌, map, length, take, drop, replicate, get_or, slice_index_or, Bool, true, false, ◌&&◌, Option, Some, None, arith}
use Rattle.std.specs.Prelude.{nat_le, if◌then◌else◌}
use Rattle.std.proofs.lemmas.Bool.Decides.{nat_tests}
use Rattle.std.proofs.lemmas.List.{drop_all, map-append, take-map, drop-map, get_or-map, get_or_default}
use Rattle.c_tree.proofs.Walks.{rest_more, rest_none}
use Rattle.c_semantics.specs.Loops.Transformations as t
use Rattle.c_semantics.specs.Loops.Need.{takes, transformed_depths, all_at_least, if_some, nested_depths, depths, applied_depths, part_depths, below_depths, each_at_least, serves}
use Rattle.canonical_nests.specs.LoopRules.PlacedPlans.{forget_plan, forget_items}
use Rattle.canonical_nests.specs.Plans.{seen_transformation, seen_plan, seen_item, gather, part_of, loops_above}
use Rattle.canonical_nests.specs.BodyDepths.{depth_over, depths_over, holds_from}
use Rattle.canonical_nests.specs.declared.body_depths.Depth.{Depth}
use Rattle.canonical_nests.specs.declared.body_depths.Depth.TheVariants.{Follows, Fixed}
use Rattle.canonical_nests.specs.declared.plan.Applied.{Applied, out-Applied}
use Rattle.canonical_nests.specs.declared.plan.Plan.{Plan, out-Plan}
use Rattle.canonical_nests.proofs.Applied.{items_more, items_end}
use Rattle.canonical_nests.proofs.DepthLists.{part_within, part_past}
use Rattle.canonical_nests.proofs.Planned.{seen_plan_out}

-- ---- cut past the end

pub take_past : {A : Type 0} (n : ℕ) (xs : List A) → length xs ≤ n → take n xs ≡ xs
take_past zero [] le = refl
take_past (suc n) [] le = refl
take_past zero (x ∷ xs) le = absurd (omega (arith, le))
take_past (suc n) (x ∷ xs) le = ap (λ ys. x ∷ ys) (take_past n xs (omega (arith, le)))

pub drop_past : {A : Type 0} (n : ℕ) (xs : List A) → length xs ≤ n → drop n xs ≡ drop (length xs) xs
drop_past n xs le = drop_all n xs le ∙ sym (drop_all (length xs) xs (omega arith))

pub ruleset cuts = (take_past, drop_past)

-- ---- the depths of lists

module _ (k : ℕ) where
  pub length_over : (ds : List Depth) → length (depths_over k ds) ≡ length ds
  length_over [] = refl
  length_over (d ∷ ds) = ap suc (length_over ds)

  pub at_over : (all ds : List Depth) (i : ℕ) (e : Depth) → all ≡ ds → i < length ds → get_or (depths_over k ds) i 0 ≡ depth_over k (get_or all i e)
  at_over all ds i e same lt = get_or-map (depth_over k) ds i e 0 lt ∙ ap (λ xs. depth_over k (get_or xs i e)) (sym same)

  pub fused_over : (ds : List Depth) (n m : ℕ) → depths_over k (take n ds ++ Fixed 1 ∷ drop m ds) ≡ take n (depths_over k ds) ++ 1 ∷ drop m (depths_over k ds)
  fused_over ds n m =
      map-append (depth_over k) (take n ds) (Fixed 1 ∷ drop m ds)
      ∙ (λ j. sym (take-map (depth_over k) n ds) j ++ 1 ∷ sym (drop-map (depth_over k) m ds) j)

  pub replicate_over : (n : ℕ) (d : Depth) → depths_over k (replicate n d) ≡ replicate n (depth_over k d)
  replicate_over zero d = refl
  replicate_over (suc n) d = ap (λ ds. depth_over k d ∷ ds) (replicate_over n d)

  pub take_over : (n : ℕ) (ds : List Depth) → depths_over k (take n ds) ≡ take n (depths_over k ds)
  take_over n ds = sym (take-map (depth_over k) n ds)

pub ruleset maps = (fused_over, replicate_over, take_over)

-- ---- numbers from which on a depth is great enough

pub both_from : (a b k : ℕ) → nat_le (max a b) k ≡ (nat_le a k && nat_le b k)
both_from a b k = grind (arith, nat_tests)

and_assoc : (a b c : Bool) → ((a && b) && c) ≡ (a && (b && c))
and_assoc true b c = refl
and_assoc false b c = refl

-- one depth more
pub all_more : (k wanted : ℕ) (ds : List Depth) (i : ℕ) (e : Depth) (so_far here : Option ℕ) (next : Bool) (all : Bool)
    → i < length ds → holds_from here k ≡ nat_le wanted (depth_over k (get_or ds i e)) → next ≡ (holds_from so_far k && holds_from here k)
    → (holds_from so_far k && all_at_least wanted (depths_over k (drop i ds))) ≡ all
    → (next && all_at_least wanted (depths_over k (drop (i + 1) ds))) ≡ all
all_more k wanted ds i e so_far here next all lt here_is next_is all_is =
    ap (λ b. b && rest) (next_is ∙ ap (λ b. holds_from so_far k && b) here_is)
    ∙ (and_assoc (holds_from so_far k) (nat_le wanted (depth_over k (get_or ds i e))) rest
    ∙ (ap (λ b. holds_from so_far k && b) (sym (rest_more (λ xs. all_at_least wanted (depths_over k xs)) ds i (get_or ds i e) lt (get_or_default ds i e (get_or ds i e) lt))) ∙ all_is))
  where
    rest : Bool
    rest = all_at_least wanted (depths_over k (drop (i + 1) ds))

pub all_end : (k wanted : ℕ) (ds : List Depth) (i : ℕ) (b all : Bool) → length ds ≤ i → (b && all_at_least wanted (depths_over k (drop i ds))) ≡ all → b ≡ all
all_end k wanted ds i b all le is = sym (and_true b) ∙ (ap (λ c. b && c) (sym (rest_none (λ xs. all_at_least wanted (depths_over k xs)) ds i le)) ∙ is)
  where
    and_true : (b : Bool) → (b && true) ≡ b
    and_true true = refl
    and_true false = refl

-- ---- parts that are found from a number of loops on

abbrev nothing : Option (List ℕ)
nothing = None

abbrev from : Bool → List ℕ → Option (List ℕ)
from b ks = if b then Some ks else None

found_then : (b : Bool) (ks : List ℕ) (f : List ℕ → Option (List ℕ)) → if_some (from b ks) f ≡ (if b then f ks else None)
found_then true ks f = refl
found_then false ks f = refl

both_found : (a b : ℕ) (k : ℕ) (xs : List ℕ) → from (nat_le (max a b) k) xs ≡ (if nat_le a k then from (nat_le b k) xs else None)
both_found a b k xs = ap (λ c. from c xs) (both_from a b k) ∙ by (nat_le a k)
  where
    by : (c : Bool) → from (c && nat_le b k) xs ≡ (if c then from (nat_le b k) xs else None)
    by true = refl
    by false = refl

module _ (k : ℕ) (p : Plan) (over : List Depth) where
  abbrev own : t.Transformation
  own = seen_transformation (out-Plan p).transformation

  abbrev items : t.Applied
  items = forget_items (gather (map seen_item (out-Plan p).items))

  plan_is : depths (forget_plan (seen_plan p)) (depths_over k over)
      ≡ (if all_at_least (takes own) (depths_over k over) then applied_depths own items (transformed_depths own (depths_over k over)) else None)
  plan_is = ap (λ q. depths (forget_plan q) (depths_over k over)) (seen_plan_out p)

  -- the loops are never found
  pub plan_lost : false ≡ all_at_least (takes own) (depths_over k over) → None ≡ depths (forget_plan (seen_plan p)) (depths_over k over)
  plan_lost is = ap (λ b. if b then applied_depths own items (transformed_depths own (depths_over k over)) else None) is ∙ sym plan_is

  pub plan_found : (least : ℕ) (given : List Depth) (left : Option (List ℕ))
      → nat_le least k ≡ all_at_least (takes own) (depths_over k over)
      → depths_over k given ≡ transformed_depths own (depths_over k over)
      → left ≡ if_some (if nat_le least k then Some (depths_over k given) else None) (applied_depths own items)
      → left ≡ depths (forget_plan (seen_plan p)) (depths_over k over)
  plan_found least given left least_is given_is left_is =
      left_is
      ∙ (found_then (nat_le least k) (depths_over k given) (applied_depths own items)
      ∙ ((λ i. if least_is i then applied_depths own items (given_is i) else None) ∙ sym plan_is))

-- ---- the items

if_some_assoc : (o : Option (List ℕ)) (f g h : List ℕ → Option (List ℕ)) → ((ks : List ℕ) → h ks ≡ if_some (f ks) g) → if_some o h ≡ if_some (if_some o f) g
if_some_assoc None f g h is = refl
if_some_assoc (Some ks) f g h is = is ks

module _ (c : t.Transformation) (xs : List Applied) (i : ℕ) where
  -- one item more
  pub item_more : (x : Applied) (so_far next all : Option (List ℕ)) (part below : ℕ)
      → i < length xs → x ≡ slice_index_or xs i x → part ≡ part_of c (out-Applied x).position → below ≡ loops_above c (out-Applied x).position
      → next ≡ if_some so_far (part_depths part (below_depths below (depths (forget_plan (seen_plan (out-Applied x).plan)))))
      → if_some so_far (applied_depths c (forget_items (gather (map seen_item (drop i xs))))) ≡ all
      → if_some next (applied_depths c (forget_items (gather (map seen_item (drop (i + 1) xs))))) ≡ all
  item_more x so_far next all part below within is part_is below_is next_is all_is =
      ap (λ o. if_some o rest) (next_is ∙ (λ j. if_some so_far (part_depths (part_is j) (below_depths (below_is j) (depths (forget_plan (seen_plan (out-Applied x).plan)))))))
      ∙ (sym (if_some_assoc so_far _ rest _ (λ ks. items_more c ks xs i x within is)) ∙ all_is)
    where
      rest : List ℕ → Option (List ℕ)
      rest = applied_depths c (forget_items (gather (map seen_item (drop (i + 1) xs))))

  pub item_end : (so_far all : Option (List ℕ)) → length xs ≤ i → if_some so_far (applied_depths c (forget_items (gather (map seen_item (drop i xs))))) ≡ all → so_far ≡ all
  item_end so_far all past is = by so_far ∙ is
    where
      by : (o : Option (List ℕ)) → o ≡ if_some o (applied_depths c (forget_items (gather (map seen_item (drop i xs)))))
      by None = refl
      by (Some ks) = sym (items_end c ks xs i past)

-- ---- one part, and the item at it

module _ (k : ℕ) (f : ℕ → Option (List ℕ)) (least : ℕ) (ds : List Depth) (i : ℕ) where
  abbrev all : Option (List ℕ)
  all = if_some (if nat_le least k then Some (depths_over k ds) else None) (part_depths i f)

  -- no such part
  pub part_missing : length ds ≤ i → None ≡ all
  part_missing past =
      sym (found_then (nat_le least k) (depths_over k ds) (part_depths i f) ∙ none (nat_le least k) (part_past f i (depths_over k ds) (omega (arith, past, length_over k ds))))
    where
      none : (b : Bool) {o : Option (List ℕ)} → o ≡ nothing → (if b then o else None) ≡ None
      none true e = e
      none false e = refl

  part_is : (xs : List Depth) (e : Depth) (o : Option (List ℕ)) → xs ≡ ds → i < length ds → o ≡ f (depth_over k (get_or xs i e))
      → (if nat_le least k then if_some o (λ bs. Some (take i (depths_over k ds) ++ (bs ++ drop (i + 1) (depths_over k ds)))) else None) ≡ all
  part_is xs e o same within o_is =
      ap (λ p. if nat_le least k then if_some p (λ bs. Some (take i (depths_over k ds) ++ (bs ++ drop (i + 1) (depths_over k ds)))) else None)
      (o_is ∙ ap f (sym (at_over k xs ds i e same within)))
      ∙ (ap (λ p. if nat_le least k then p else None) (sym (part_within f i (depths_over k ds) (omega (arith, within, length_over k ds))))
      ∙ sym (found_then (nat_le least k) (depths_over k ds) (part_depths i f)))

  -- the item never finds its loops
  pub part_lost : (xs : List Depth) (e : Depth) → xs ≡ ds → i < length ds → None ≡ f (depth_over k (get_or xs i e)) → None ≡ all
  part_lost xs e same within lost = none (nat_le least k) ∙ part_is xs e None same within lost
    where
      none : (b : Bool) → nothing ≡ (if b then None else None)
      none true = refl
      none false = refl

  pub part_found : (xs : List Depth) (e : Depth) (more n : ℕ) (given gs replaced : List Depth) → xs ≡ ds → i < length ds
      → (if nat_le more k then Some (depths_over k given) else None) ≡ f (depth_over k (get_or xs i e))
      → n ≡ max least more → gs ≡ given → replaced ≡ take i xs ++ (gs ++ drop (i + 1) xs)
      → (if nat_le n k then Some (depths_over k replaced) else None) ≡ all
  part_found xs e more n given gs replaced same within found n_is gs_is replaced_is =
      ap (λ m. from (nat_le m k) (depths_over k replaced)) n_is
      ∙ (both_found least more k (depths_over k replaced)
      ∙ (ap (λ p. if nat_le least k then p else None) (inner (nat_le more k))
      ∙ part_is xs e (from (nat_le more k) (depths_over k given)) same within found))
    where
      whole : depths_over k replaced ≡ take i (depths_over k ds) ++ (depths_over k given ++ drop (i + 1) (depths_over k ds))
      whole =
          ap (depths_over k) (replaced_is ∙ (λ j. take i (same j) ++ (gs_is j ++ drop (i + 1) (same j))))
          ∙ (map-append (depth_over k) (take i ds) (given ++ drop (i + 1) ds)
          ∙ (λ j. take_over k i ds j ++ (map-append (depth_over k) given (drop (i + 1) ds) ∙ ap (λ ys. depths_over k given ++ ys) (sym (drop-map (depth_over k) (i + 1) ds))) j))

      inner : (b : Bool) → from b (depths_over k replaced) ≡ if_some (from b (depths_over k given)) (λ bs. Some (take i (depths_over k ds) ++ (bs ++ drop (i + 1) (depths_over k ds))))
      inner true = ap Some whole
      inner false = refl

module _ (k : ℕ) (f : List ℕ → Option (List ℕ)) (below : ℕ) (d : Depth) where
  -- too few loops stand round the item
  pub item_outside : false ≡ nat_le below (depth_over k d) → None ≡ below_depths below f (depth_over k d)
  item_outside is = ap (λ b. if b then if_some (f ((depth_over k d - below) ∷ [])) (λ bs. Some (nested_depths below bs)) else None) is

  over_is : (e : Depth) (over : List Depth) → over ≡ e ∷ [] → depth_over k e ≡ depth_over k d - below → depths_over k over ≡ (depth_over k d - below) ∷ []
  over_is e over is shallower = ap (depths_over k) is ∙ ap (λ n. n ∷ []) shallower

  -- the item never finds its loops
  pub item_lost : (e : Depth) (over : List Depth) → over ≡ e ∷ [] → depth_over k e ≡ depth_over k d - below → None ≡ f (depths_over k over)
      → None ≡ below_depths below f (depth_over k d)
  item_lost e over is shallower lost =
      none (nat_le below (depth_over k d)) ∙ ap (λ o. if nat_le below (depth_over k d) then if_some o (λ bs. Some (nested_depths below bs)) else None) (lost ∙ ap f (over_is e over is shallower))
    where
      none : (b : Bool) → nothing ≡ (if b then None else None)
      none true = refl
      none false = refl

  pub item_found : (e : Depth) (over : List Depth) (least more n : ℕ) (given nested : List Depth) → n ≡ max least more
      → nat_le least k ≡ nat_le below (depth_over k d) → over ≡ e ∷ [] → depth_over k e ≡ depth_over k d - below
      → (if nat_le more k then Some (depths_over k given) else None) ≡ f (depths_over k over)
      → depths_over k nested ≡ nested_depths below (depths_over k given)
      → (if nat_le n k then Some (depths_over k nested) else None) ≡ below_depths below f (depth_over k d)
  item_found e over least more n given nested n_is least_is is shallower found nested_is =
      ap (λ m. from (nat_le m k) (depths_over k nested)) n_is
      ∙ (both_found least more k (depths_over k nested)
      ∙ ((λ i. if least_is i then inner (nat_le more k) i else None)
      ∙ ap (λ o. if nat_le below (depth_over k d) then if_some o (λ bs. Some (nested_depths below bs)) else None) (found ∙ ap f (over_is e over is shallower))))
    where
      inner : (b : Bool) → from b (depths_over k nested) ≡ if_some (from b (depths_over k given)) (λ bs. Some (nested_depths below bs))
      inner true = ap Some nested_is
      inner false = refl

-- ---- the numbers that serve

body_is : (k : ℕ) → depths_over k (Follows 0 0 ∷ []) ≡ k ∷ []
body_is k = let e : (k - 0) + 0 ≡ k = omega arith in ap (λ n. n ∷ []) e

module _ (k : ℕ) (p : t.Plan) (wanted : ℕ) (body : List Depth) (body_alone : body ≡ Follows 0 0 ∷ []) where
  given_is : (given : Option (List ℕ)) → given ≡ depths p (depths_over k body) → each_at_least wanted given ≡ serves p wanted k
  given_is given is = ap (each_at_least wanted) (is ∙ (ap (λ ds. depths p (depths_over k ds)) body_alone ∙ ap (depths p) (body_is k)))

  pub serves_never : None ≡ depths p (depths_over k body) → false ≡ serves p wanted k
  serves_never is = given_is None is

  pub serves_from : (least : ℕ) (ds : List Depth) (deep : Bool) → (if nat_le least k then Some (depths_over k ds) else None) ≡ depths p (depths_over k body)
      → deep ≡ all_at_least wanted (depths_over k ds) → (nat_le least k && deep) ≡ serves p wanted k
  serves_from least ds deep is deep_is = ap (λ b. nat_le least k && b) deep_is ∙ (by (nat_le least k) ∙ given_is (from (nat_le least k) (depths_over k ds)) is)
    where
      by : (b : Bool) → (b && all_at_least wanted (depths_over k ds)) ≡ each_at_least wanted (from b (depths_over k ds))
      by true = refl
      by false = refl
