-- A directive's items keep the kinds of the parts on which they act.
use Rattle.std.proofs.Common.{◌≡◌, refl, sym, ap, ◌∙◌, subst, ℕ, zero, suc, ◌+◌, ◌-◌, ◌<◌, List, [], ◌∷◌, ◌++◌, length, take, Some, None, ◌⊎◌, inl, inr, get_or, arith, length-append}
use Rattle.c_semantics.specs.Loops.IterationTrees.{Tree, nth, no_tree, at_depth}
use Rattle.c_semantics.specs.Loops.Transformations as trees
use Rattle.c_semantics.specs.Loops.Transformations.{Transformation, tile, interchange, reverse_, split, fuse, unroll_full, unroll_partial, Plan, plan, Applied, none_applied, applied_at, as_one, transform, apply_plan, apply_items}
use Rattle.canonical_nests.specs.Kinds as kinds
use Rattle.canonical_nests.specs.Kinds.{Part, no_part, settled, kind_at, as_one_part, transformed_kinds, plan_kinds, applied_kinds}
use Rattle.canonical_nests.specs.Weight.{loops_round}
use Rattle.nest_counts.specs.HasKinds.{HasCount, HasKinds}
use Rattle.nest_counts.specs.Plans.{place, Finds, ItemsFind, PartsHave}
use Rattle.nest_counts.proofs.Kept.{split_at, settled_has, count_above}
use Rattle.nest_counts.proofs.Rectangles.{kind_taken}
use Rattle.nest_counts.proofs.Depths.{at_compose, at_add, at_same, one_part}
use Rattle.nest_counts.proofs.Transformed.{transformed_has}

-- ---- the part that is left above an item

pub left_above : (k : ℕ) (ks : Part) (f : Tree → Tree) (t : Tree) → HasKinds ks t → HasKinds (settled (take k ks)) (at_depth k f t)
left_above k ks f t h = settled_has (take k ks) (at_depth k f t) (λ n l.
    let both : (n < k) × (n < length ks) = taken_length k ks n l in
    subst (λ K. HasCount K n (at_depth k f t)) (sym (kind_taken k ks n both.0)) (count_above (kind_at ks n) f n k t both.0 (h n both.1)))
  where
    taken_length : (k : ℕ) (ks : Part) (n : ℕ) → n < length (take k ks) → (n < k) × (n < length ks)
    taken_length zero ks n l = absurd (omega arith)
    taken_length (suc k) [] n l = absurd (omega arith)
    taken_length (suc k) (c ∷ ks) zero l = (omega arith, omega arith)
    taken_length (suc k) (c ∷ ks) (suc n) l = let b = taken_length k ks n (omega arith) in (let x : n < k = b.0 in omega arith, let y : n < length ks = b.1 in omega arith)

-- one part is the whole of what is given
single : (ks : Part) (k : ℕ) (t : Tree) → HasKinds ks t → PartsHave (ks ∷ []) k (λ u. u ∷ []) t
single ks k t h = record { many = λ u. refl; each = each }
  where
    each : (j : ℕ) → j < 1 → HasKinds (get_or (ks ∷ []) j no_part) (at_depth k (λ u. nth j (u ∷ [])) t)
    each zero l = subst (HasKinds ks) (sym (at_same k t)) h
    each (suc j) l = absurd (omega arith)

-- ---- an item below loops

below_has : (j k i : ℕ) (g : ℕ → List Part → List Part) (f : List Tree → List Tree) (ks : Part) (t : Tree) → i ≡ k + j → HasKinds ks t
    → PartsHave (g i (ks ∷ [])) i (λ u. f (u ∷ [])) t → PartsHave (kinds.below_loops j k g ks) k (λ u. trees.below_loops j f u) t
below_has zero k i g f ks t e h p = subst (λ m. PartsHave (g m (ks ∷ [])) m (λ u. f (u ∷ [])) t) (let s : i ≡ k = omega arith in s) p
below_has (suc j) k i g f ks t e h p = subst (λ m. PartsHave (as_one_part m ks (g m (ks ∷ []))) k (λ u. at_depth (suc j) (λ v. as_one (f (v ∷ []))) u ∷ []) t) e (by (g i (ks ∷ [])) p)
  where
    here : (q : Part) → HasKinds q (at_depth i (λ v. as_one (f (v ∷ []))) t) → PartsHave (q ∷ []) k (λ u. at_depth (suc j) (λ v. as_one (f (v ∷ []))) u ∷ []) t
    here q x = record { many = λ u. refl; each = each }
      where
        each : (n : ℕ) → n < 1 → HasKinds (get_or (q ∷ []) n no_part) (at_depth k (λ u. nth n (at_depth (suc j) (λ v. as_one (f (v ∷ []))) u ∷ [])) t)
        each zero l = subst (HasKinds q) (sym (at_add k (suc j) i (λ v. as_one (f (v ∷ []))) t e)) x
        each (suc n) l = absurd (omega arith)

    by : (qs : List Part) → PartsHave qs i (λ u. f (u ∷ [])) t → PartsHave (as_one_part i ks qs) k (λ u. at_depth (suc j) (λ v. as_one (f (v ∷ []))) u ∷ []) t
    by [] p = here (settled (take i ks)) (left_above i ks (λ v. as_one (f (v ∷ []))) t h)
    by (q ∷ []) p = here q (subst (λ F. HasKinds q (at_depth i F t)) (λ z v. sym (one_part (f (v ∷ [])) (p.many v)) z) (p.each 0 (omega arith)))
    by (q ∷ r ∷ qs) p = here (settled (take i ks)) (left_above i ks (λ v. as_one (f (v ∷ []))) t h)

-- ---- at the place of a part

kinds_before : (i : ℕ) (g : Part → List Part) (ps : List Part) (j : ℕ) → j < i → i < length ps → get_or (kinds.at_part i g ps) j no_part ≡ get_or ps j no_part
kinds_before i g [] j l m = absurd (omega arith)
kinds_before zero g (p ∷ ps) j l m = absurd (omega arith)
kinds_before (suc i) g (p ∷ ps) zero l m = refl
kinds_before (suc i) g (p ∷ ps) (suc j) l m = kinds_before i g ps j (omega arith) (omega arith)

trees_before : (i : ℕ) (f : Tree → List Tree) (ts : List Tree) (j : ℕ) → j < i → i < length ts → nth j (trees.at_part i f ts) ≡ nth j ts
trees_before i f [] j l m = absurd (omega arith)
trees_before zero f (t ∷ ts) j l m = absurd (omega arith)
trees_before (suc i) f (t ∷ ts) zero l m = refl
trees_before (suc i) f (t ∷ ts) (suc j) l m = trees_before i f ts j (omega arith) (omega arith)

get_append : {A : Type 0} (xs ys : List A) (j : ℕ) (d : A) → j < length xs → get_or (xs ++ ys) j d ≡ get_or xs j d
get_append [] ys j d l = absurd (omega arith)
get_append (x ∷ xs) ys zero d l = refl
get_append (x ∷ xs) ys (suc j) d l = get_append xs ys j d (omega arith)

get_after : {A : Type 0} (xs ys : List A) (j m : ℕ) (d : A) → j ≡ length xs + m → get_or (xs ++ ys) j d ≡ get_or ys m d
get_after [] ys j m d e = ap (λ i. get_or ys i d) (let s : j ≡ m = omega arith in s)
get_after (x ∷ xs) ys zero m d e = absurd (omega arith)
get_after (x ∷ xs) ys (suc j) m d e = get_after xs ys j m d (omega arith)

kinds_here : (i : ℕ) (g : Part → List Part) (ps : List Part) (j m : ℕ) → j ≡ i + m → i < length ps → m < length (g (get_or ps i no_part)) → get_or (kinds.at_part i g ps) j no_part ≡ get_or (g (get_or ps i no_part)) m no_part
kinds_here i g [] j m e l n = absurd (omega arith)
kinds_here zero g (p ∷ ps) j m e l n = ap (λ a. get_or (g p ++ ps) a no_part) (let s : j ≡ m = omega arith in s) ∙ get_append (g p) ps m no_part n
kinds_here (suc i) g (p ∷ ps) zero m e l n = absurd (omega arith)
kinds_here (suc i) g (p ∷ ps) (suc j) m e l n = kinds_here i g ps j m (omega arith) (omega arith) n

trees_here : (i : ℕ) (f : Tree → List Tree) (ts : List Tree) (j m : ℕ) → j ≡ i + m → i < length ts → m < length (f (nth i ts)) → nth j (trees.at_part i f ts) ≡ nth m (f (nth i ts))
trees_here i f [] j m e l n = absurd (omega arith)
trees_here zero f (t ∷ ts) j m e l n = ap (λ a. nth a (f t ++ ts)) (let s : j ≡ m = omega arith in s) ∙ get_append (f t) ts m no_tree n
trees_here (suc i) f (t ∷ ts) zero m e l n = absurd (omega arith)
trees_here (suc i) f (t ∷ ts) (suc j) m e l n = trees_here i f ts j m (omega arith) (omega arith) n

kinds_later : (i : ℕ) (g : Part → List Part) (ps : List Part) (j m : ℕ) → j ≡ i + (length (g (get_or ps i no_part)) + m) → i < length ps → get_or (kinds.at_part i g ps) j no_part ≡ get_or ps (suc i + m) no_part
kinds_later i g [] j m e l = absurd (omega arith)
kinds_later zero g (p ∷ ps) j m e l = get_after (g p) ps j m no_part (omega arith) ∙ ap (λ a. get_or (p ∷ ps) a no_part) (let s : suc m ≡ suc 0 + m = omega arith in s)
kinds_later (suc i) g (p ∷ ps) zero m e l = absurd (omega arith)
kinds_later (suc i) g (p ∷ ps) (suc j) m e l = kinds_later i g ps j m (omega arith) (omega arith) ∙ ap (λ a. get_or (p ∷ ps) a no_part) (let s : suc (suc i + m) ≡ suc (suc i) + m = omega arith in s)

trees_later : (i : ℕ) (f : Tree → List Tree) (ts : List Tree) (j m : ℕ) → j ≡ i + (length (f (nth i ts)) + m) → i < length ts → nth j (trees.at_part i f ts) ≡ nth (suc i + m) ts
trees_later i f [] j m e l = absurd (omega arith)
trees_later zero f (t ∷ ts) j m e l = get_after (f t) ts j m no_tree (omega arith) ∙ ap (λ a. nth a (t ∷ ts)) (let s : suc m ≡ suc 0 + m = omega arith in s)
trees_later (suc i) f (t ∷ ts) zero m e l = absurd (omega arith)
trees_later (suc i) f (t ∷ ts) (suc j) m e l = trees_later i f ts j m (omega arith) (omega arith) ∙ ap (λ a. nth a (t ∷ ts)) (let s : suc (suc i + m) ≡ suc (suc i) + m = omega arith in s)

kinds_length : (i : ℕ) (g : Part → List Part) (ps : List Part) → i < length ps → length (kinds.at_part i g ps) ≡ i + (length (g (get_or ps i no_part)) + (length ps - i - 1))
kinds_length i g [] l = absurd (omega arith)
kinds_length zero g (p ∷ ps) l = length-append (g p) ps ∙ (let s : length (g p) + length ps ≡ 0 + (length (g p) + (length (p ∷ ps) - 0 - 1)) = omega arith in s)
kinds_length (suc i) g (p ∷ ps) l = let e : length (kinds.at_part i g ps) ≡ i + (length (g (get_or ps i no_part)) + (length ps - i - 1)) = kinds_length i g ps (omega arith) in omega arith

trees_length : (i : ℕ) (f : Tree → List Tree) (ts : List Tree) → i < length ts → length (trees.at_part i f ts) ≡ i + (length (f (nth i ts)) + (length ts - i - 1))
trees_length i f [] l = absurd (omega arith)
trees_length zero f (t ∷ ts) l = length-append (f t) ts ∙ (let s : length (f t) + length ts ≡ 0 + (length (f t) + (length (t ∷ ts) - 0 - 1)) = omega arith in s)
trees_length (suc i) f (t ∷ ts) l = let e : length (trees.at_part i f ts) ≡ i + (length (f (nth i ts)) + (length ts - i - 1)) = trees_length i f ts (omega arith) in omega arith

placed_has : (i k : ℕ) (g : Part → List Part) (h : Tree → List Tree) (ps : List Part) (f : Tree → List Tree) (t : Tree) → PartsHave ps k f t → i < length ps
    → PartsHave (g (get_or ps i no_part)) k h (at_depth k (λ u. nth i (f u)) t) → PartsHave (kinds.at_part i g ps) k (λ u. trees.at_part i h (f u)) t
placed_has i k g h ps f t has l new = record { many = many; each = λ j m. by j m (split_at i j) }
  where
    within : (u : Tree) → i < length (f u)
    within u = let e : length (f u) ≡ length ps = has.many u in omega arith

    many : (u : Tree) → length (trees.at_part i h (f u)) ≡ length (kinds.at_part i g ps)
    many u =
        let a : length (trees.at_part i h (f u)) ≡ i + (length (h (nth i (f u))) + (length (f u) - i - 1)) = trees_length i h (f u) (within u) in
        let b : length (kinds.at_part i g ps) ≡ i + (length (g (get_or ps i no_part)) + (length ps - i - 1)) = kinds_length i g ps l in
        let c : length (h (nth i (f u))) ≡ length (g (get_or ps i no_part)) = new.many (nth i (f u)) in
        let d : length (f u) ≡ length ps = has.many u in
        omega arith

    after : (j m : ℕ) → j ≡ i + m → j < length (kinds.at_part i g ps) → (m < length (g (get_or ps i no_part))) ⊎ ((n : ℕ) × (m ≡ length (g (get_or ps i no_part)) + n))
        → HasKinds (get_or (kinds.at_part i g ps) j no_part) (at_depth k (λ u. nth j (trees.at_part i h (f u))) t)
    after j m e b (inl n) =
        subst (λ q. HasKinds q (at_depth k (λ u. nth j (trees.at_part i h (f u))) t)) (sym (kinds_here i g ps j m e l n))
        (subst (λ F. HasKinds (get_or (g (get_or ps i no_part)) m no_part) (at_depth k F t)) (λ z u. sym (trees_here i h (f u) j m e (within u) (let c : length (h (nth i (f u))) ≡ length (g (get_or ps i no_part)) = new.many (nth i (f u)) in omega arith)) z)
        (subst (HasKinds (get_or (g (get_or ps i no_part)) m no_part)) (at_compose k (λ u. nth m (h u)) (λ u. nth i (f u)) t) (new.each m n)))
    after j m e b (inr (n, d)) =
        let total : length (kinds.at_part i g ps) ≡ i + (length (g (get_or ps i no_part)) + (length ps - i - 1)) = kinds_length i g ps l in
        subst (λ q. HasKinds q (at_depth k (λ u. nth j (trees.at_part i h (f u))) t)) (sym (kinds_later i g ps j n (omega arith) l))
        (subst (λ F. HasKinds (get_or ps (suc i + n) no_part) (at_depth k F t)) (λ z u. sym (trees_later i h (f u) j n (let c : length (h (nth i (f u))) ≡ length (g (get_or ps i no_part)) = new.many (nth i (f u)) in omega arith) (within u)) z)
        (has.each (suc i + n) (omega arith)))

    by : (j : ℕ) → j < length (kinds.at_part i g ps) → (j < i) ⊎ ((m : ℕ) × (j ≡ i + m)) → HasKinds (get_or (kinds.at_part i g ps) j no_part) (at_depth k (λ u. nth j (trees.at_part i h (f u))) t)
    by j b (inl m) =
        subst (λ q. HasKinds q (at_depth k (λ u. nth j (trees.at_part i h (f u))) t)) (sym (kinds_before i g ps j m l))
        (subst (λ F. HasKinds (get_or ps j no_part) (at_depth k F t)) (λ z u. sym (trees_before i h (f u) j m (within u)) z) (has.each j (omega arith)))
    by j b (inr (m, e)) = after j m e b (split_at (length (g (get_or ps i no_part))) m)

-- an item at a place and below so many loops
item_has : (i j k r : ℕ) (g : ℕ → List Part → List Part) (h : List Tree → List Tree) (ps : List Part) (f : Tree → List Tree) (t : Tree) → PartsHave ps k f t → i < length ps → r ≡ k + j
    → ((x : Tree) → HasKinds (get_or ps i no_part) x → PartsHave (g r (get_or ps i no_part ∷ [])) r (λ u. h (u ∷ [])) x)
    → PartsHave (kinds.at_part i (kinds.below_loops j k g) ps) k (λ u. trees.at_part i (trees.below_loops j h) (f u)) t
item_has i j k r g h ps f t has l e item =
    let x : Tree = at_depth k (λ u. nth i (f u)) t in
    placed_has i k (kinds.below_loops j k g) (trees.below_loops j h) ps f t has l (below_has j k r g h (get_or ps i no_part) x e (has.each i l) (item x (has.each i l)))

-- ---- directives with their items

-- an item at its position
position_has : (c : Transformation) (p k : ℕ) (ps : List Part) (f : Tree → List Tree) (t : Tree) (g : ℕ → List Part → List Part) (h : List Tree → List Tree) → PartsHave ps k f t → place c p < length ps
    → ((x : Tree) → HasKinds (get_or ps (place c p) no_part) x → PartsHave (g (loops_round c k p) (get_or ps (place c p) no_part ∷ [])) (loops_round c k p) (λ u. h (u ∷ [])) x)
    → PartsHave (kinds.on_position c p k g ps) k (λ u. trees.on_position c p h (f u)) t
position_has (tile ss) p k ps f t g h has l item = item_has 0 (p - 1) k (k + (p - 1)) g h ps f t has l refl item
position_has (interchange qs) p k ps f t g h has l item = item_has 0 (p - 1) k (k + (p - 1)) g h ps f t has l refl item
position_has reverse_ p k ps f t g h has l item = item_has 0 (p - 1) k (k + (p - 1)) g h ps f t has l refl item
position_has (split cs) p k ps f t g h has l item = item_has (p - 1) 0 k k g h ps f t has l (omega arith) item
position_has (fuse None) p k ps f t g h has l item = item_has 0 (p - 1) k (k + (p - 1)) g h ps f t has l refl item
position_has (fuse (Some r)) p k ps f t g h has l item = item_has (r.0 - 1) (p - 1) k (k + (p - 1)) g h ps f t has l refl item
position_has unroll_full p k ps f t g h has l item = item_has 0 (p - 1) k (k + (p - 1)) g h ps f t has l refl item
position_has (unroll_partial s) p k ps f t g h has l item = item_has 0 (p - 1) k (k + (p - 1)) g h ps f t has l refl item

mutual
  pub plan_has : (p : Plan) (k : ℕ) (ps : List Part) (f : Tree → List Tree) (t : Tree) → PartsHave ps k f t → Finds p k ps → PartsHave (plan_kinds p k ps) k (λ u. apply_plan p (f u)) t
  plan_has (plan c w) k ps f t h finds = items_has c w k (transformed_kinds c k ps) (λ u. transform c (f u)) t (transformed_has c k ps f t h finds.0) finds.1

  pub items_has : (c : Transformation) (w : Applied) (k : ℕ) (ps : List Part) (f : Tree → List Tree) (t : Tree) → PartsHave ps k f t → ItemsFind c w k ps → PartsHave (applied_kinds c w k ps) k (λ u. apply_items c w (f u)) t
  items_has c none_applied k ps f t h finds = h
  items_has c (applied_at p d w) k ps f t h finds =
      items_has c w k (kinds.on_position c p k (plan_kinds d) ps) (λ u. trees.on_position c p (apply_plan d) (f u)) t
      (position_has c p k ps f t (plan_kinds d) (apply_plan d) h finds.0
      (λ x y. plan_has d (loops_round c k p) (get_or ps (place c p) no_part ∷ []) (λ u. u ∷ []) x (single (get_or ps (place c p) no_part) (loops_round c k p) x y) finds.1))
      finds.2
