-- From its reach on, one more loop in the body makes each part of a directive one loop deeper, or leaves it as it is.
use Rattle.std.proofs.Common.{◌≡◌, refl, sym, ap, subst, ℕ, zero, suc, ◌+◌, ◌-◌, ◌≤◌, ◌⊎◌, inl, inr, List, [], ◌∷◌, ◌++◌, length, take, drop, replicate, get_or, Option, Some, None, Bool, true, false, arith}
use Rattle.std.specs.Prelude.{nat_le, if◌then◌else◌}
use Rattle.std.proofs.lemmas.Bool.{le-leb}
use Rattle.c_semantics.specs.Loops.Transformations.{Transformation, tile, interchange, reverse_, split, fuse, unroll_full, unroll_partial, Plan, plan, Applied, none_applied, applied_at}
use Rattle.c_semantics.specs.Loops.Need.{takes, transformed_depths, all_at_least, if_some, nested_depths, part_depths, below_depths, position_depths, depths, applied_depths, each_at_least, serves, reach, applied_reach}

-- as before, or one more from e on
abbrev Grown : ℕ → ℕ → ℕ → Type 0
Grown e x y = (y ≡ x) ⊎ ((y ≡ x + 1) × (e ≤ x))

data AllGrown (e : ℕ) : List ℕ → List ℕ → Type 0 where
  no_part : AllGrown e [] []
  one_part : (x y : ℕ) {xs ys : List ℕ} → Grown e x y → AllGrown e xs ys → AllGrown e (x ∷ xs) (y ∷ ys)

-- both fail, or both give parts that have so grown
abbrev BothGrown : ℕ → Option (List ℕ) → Option (List ℕ) → Type 0
BothGrown e None None = Unit {0}
BothGrown e None (Some ys) = ⊥
BothGrown e (Some xs) None = ⊥
BothGrown e (Some xs) (Some ys) = AllGrown e xs ys

-- ---- lists

all_same : (e : ℕ) (xs : List ℕ) → AllGrown e xs xs
all_same e [] = no_part
all_same e (x ∷ xs) = one_part x x (inl refl) (all_same e xs)

both_same : (e : ℕ) (o : Option (List ℕ)) → BothGrown e o o
both_same e None = tt
both_same e (Some xs) = all_same e xs

more_grown : (e e' x y : ℕ) → e ≤ e' → Grown e' x y → Grown e x y
more_grown e e' x y le (inl p) = inl p
more_grown e e' x y le (inr p) = inr (p.0, omega (arith, le, p.1))

weaker_grown : (e e' : ℕ) → e ≤ e' → (xs ys : List ℕ) → AllGrown e' xs ys → AllGrown e xs ys
weaker_grown e e' le xs ys no_part = no_part
weaker_grown e e' le xs ys (one_part x y {xs = xs'} {ys = ys'} p h) = one_part x y (more_grown e e' x y le p) (weaker_grown e e' le xs' ys' h)

add_grown : (e n x y : ℕ) → Grown e x y → Grown e (x + n) (y + n)
add_grown e n x y (inl p) = inl (ap (λ z. z + n) p)
add_grown e n x y (inr p) = inr (omega (arith, p.0), omega (arith, p.1))

module _ (e : ℕ) where
  append_grown : (xs ys us vs : List ℕ) → AllGrown e xs ys → AllGrown e us vs → AllGrown e (xs ++ us) (ys ++ vs)
  append_grown xs ys us vs no_part k = k
  append_grown xs ys us vs (one_part x y {xs = xs'} {ys = ys'} p h) k = one_part x y p (append_grown xs' ys' us vs h k)

  take_grown : (n : ℕ) (xs ys : List ℕ) → AllGrown e xs ys → AllGrown e (take n xs) (take n ys)
  take_grown zero xs ys h = no_part
  take_grown (suc n) xs ys no_part = no_part
  take_grown (suc n) xs ys (one_part x y {xs = xs'} {ys = ys'} p h) = one_part x y p (take_grown n xs' ys' h)

  drop_grown : (n : ℕ) (xs ys : List ℕ) → AllGrown e xs ys → AllGrown e (drop n xs) (drop n ys)
  drop_grown zero xs ys h = h
  drop_grown (suc n) xs ys no_part = no_part
  drop_grown (suc n) xs ys (one_part x y {xs = xs'} {ys = ys'} p h) = drop_grown n xs' ys' h

  replicate_grown : (n x y : ℕ) → Grown e x y → AllGrown e (replicate n x) (replicate n y)
  replicate_grown zero x y p = no_part
  replicate_grown (suc n) x y p = one_part x y p (replicate_grown n x y p)

  head_grown : (xs ys : List ℕ) → AllGrown e xs ys → Grown e (get_or xs 0 0) (get_or ys 0 0)
  head_grown xs ys no_part = inl refl
  head_grown xs ys (one_part x y p h) = p

  at_least_grown : (d x y : ℕ) → d ≤ e → Grown e x y → nat_le d y ≡ nat_le d x
  at_least_grown d x y le (inl p) = ap (nat_le d) p
  at_least_grown d x y le (inr p) = rw (le-leb d x (omega (arith, le, p.1)), le-leb d y (omega (arith, le, p.0, p.1))) refl

  enough_grown : (d : ℕ) → d ≤ e → (xs ys : List ℕ) → AllGrown e xs ys → all_at_least d ys ≡ all_at_least d xs
  enough_grown d le xs ys no_part = refl
  enough_grown d le xs ys (one_part x y {xs = xs'} {ys = ys'} p h) = rw (at_least_grown d x y le p, enough_grown d le xs' ys' h) refl

  -- ---- directives

  transformed_grown : (c : Transformation) (xs ys : List ℕ) → AllGrown e xs ys → AllGrown e (transformed_depths c xs) (transformed_depths c ys)
  transformed_grown (tile ss) xs ys h = one_part _ _ (add_grown e (length ss) _ _ (head_grown xs ys h)) no_part
  transformed_grown (split cs) xs ys h = replicate_grown (length cs) _ _ (head_grown xs ys h)
  transformed_grown (fuse None) xs ys h = all_same e (1 ∷ [])
  transformed_grown (fuse (Some r)) xs ys h =
      append_grown _ _ _ _ (take_grown (r.0 - 1) xs ys h) (one_part 1 1 (inl refl) (drop_grown (r.0 - 1 + r.1) xs ys h))
  transformed_grown unroll_full xs ys h = all_same e (0 ∷ [])
  transformed_grown (unroll_partial k) xs ys h = all_same e (1 ∷ [])
  transformed_grown (interchange ps) xs ys h = take_grown 1 xs ys h
  transformed_grown reverse_ xs ys h = take_grown 1 xs ys h

  both_some : (e' : ℕ) (o o' : Option (List ℕ)) (f g : List ℕ → Option (List ℕ)) → BothGrown e' o o' → ((xs ys : List ℕ) → AllGrown e' xs ys → BothGrown e (f xs) (g ys)) → BothGrown e (if_some o f) (if_some o' g)
  both_some e' None None f g h k = tt
  both_some e' None (Some ys) f g h k = absurd h
  both_some e' (Some xs) None f g h k = absurd h
  both_some e' (Some xs) (Some ys) f g h k = k xs ys h

  nested_grown : (e' k : ℕ) → e ≤ e' + k → (xs ys : List ℕ) → AllGrown e' xs ys → AllGrown e (nested_depths k xs) (nested_depths k ys)
  nested_grown e' zero le xs ys h = weaker_grown e e' (omega (arith, le)) xs ys h
  nested_grown e' (suc k) le xs ys no_part = all_same e (suc k ∷ [])
  nested_grown e' (suc k) le xs ys (one_part x y p no_part) = one_part _ _ (by p) no_part
    where
      by : Grown e' x y → Grown e (suc k + x) (suc k + y)
      by (inl q) = inl (ap (λ z. suc k + z) q)
      by (inr q) = inr (omega (arith, q.0), omega (arith, q.1, le))
  nested_grown e' (suc k) le xs ys (one_part x y p (one_part x' y' p' h)) = all_same e (suc k ∷ [])

  part_grown : (f : ℕ → Option (List ℕ)) → ((x y : ℕ) → Grown e x y → BothGrown e (f x) (f y)) → (i : ℕ) (xs ys : List ℕ) → AllGrown e xs ys → BothGrown e (part_depths i f xs) (part_depths i f ys)
  part_grown f k i xs ys no_part = tt
  part_grown f k zero xs ys (one_part x y {xs = xs'} {ys = ys'} p h) =
      both_some e (f x) (f y) _ _ (k x y p) (λ us vs q. append_grown us vs xs' ys' q h)
  part_grown f k (suc i) xs ys (one_part x y {xs = xs'} {ys = ys'} p h) =
      both_some e (part_depths i f xs') (part_depths i f ys') _ _ (part_grown f k i xs' ys' h) (λ us vs q. one_part x y p q)

  -- what a directive does, where its reach is r
  abbrev Grows : ℕ → (List ℕ → Option (List ℕ)) → Type 0
  Grows r f = (e' : ℕ) → r ≤ e' → (xs ys : List ℕ) → AllGrown e' xs ys → BothGrown e' (f xs) (f ys)

  below_grown : (r k : ℕ) (f : List ℕ → Option (List ℕ)) → Grows r f → k + r ≤ e → (x y : ℕ) → Grown e x y → BothGrown e (below_depths k f x) (below_depths k f y)
  below_grown r k f h le x y (inl p) = subst (λ z. BothGrown e (below_depths k f x) (below_depths k f z)) (sym p) (both_same e (below_depths k f x))
  below_grown r k f h le x y (inr p) =
      let deep : Grown (e - k) (x - k) (y - k) = inr (omega (arith, p.0, p.1, le), omega (arith, p.1, le)) in
      rw (le-leb k x (omega (arith, p.1, le)), le-leb k y (omega (arith, p.0, p.1, le)))
      (both_some (e - k) (f ((x - k) ∷ [])) (f ((y - k) ∷ [])) _ _ (h (e - k) (omega (arith, le)) _ _ (one_part _ _ deep no_part))
      (λ us vs q. nested_grown (e - k) k (omega (arith, le)) us vs q))

  position_grown : (c : Transformation) (p r : ℕ) (f : List ℕ → Option (List ℕ)) → Grows r f → p + r ≤ e → (xs ys : List ℕ) → AllGrown e xs ys → BothGrown e (position_depths c p f xs) (position_depths c p f ys)
  position_grown (split cs) p r f h le xs ys g = part_grown _ (below_grown r 0 f h (omega (arith, le))) (p - 1) xs ys g
  position_grown (fuse (Some q)) p r f h le xs ys g = part_grown _ (below_grown r (p - 1) f h (omega (arith, le))) (q.0 - 1) xs ys g
  position_grown _ p r f h le xs ys g = part_grown _ (below_grown r (p - 1) f h (omega (arith, le))) 0 xs ys g

mutual
  plan_grown : (p : Plan) (e : ℕ) → reach p ≤ e → (xs ys : List ℕ) → AllGrown e xs ys → BothGrown e (depths p xs) (depths p ys)
  plan_grown (plan c w) e le xs ys h =
      subst (λ b. BothGrown e (depths (plan c w) xs) (if b then applied_depths c w (transformed_depths c ys) else None)) (sym (enough_grown e (takes c) (omega (arith, le)) xs ys h))
      (by (applied_grown c w e (omega (arith, le)) _ _ (transformed_grown e c xs ys h)) (all_at_least (takes c) xs))
    where
      by : BothGrown e (applied_depths c w (transformed_depths c xs)) (applied_depths c w (transformed_depths c ys)) → (b : Bool) →
          BothGrown e (if b then applied_depths c w (transformed_depths c xs) else None) (if b then applied_depths c w (transformed_depths c ys) else None)
      by k true = k
      by k false = tt

  applied_grown : (c : Transformation) (w : Applied) (e : ℕ) → applied_reach w ≤ e → (xs ys : List ℕ) → AllGrown e xs ys → BothGrown e (applied_depths c w xs) (applied_depths c w ys)
  applied_grown c none_applied e le xs ys h = h
  applied_grown c (applied_at p d w) e le xs ys h =
      both_some e e (position_depths c p (depths d) xs) (position_depths c p (depths d) ys) _ _
      (position_grown e c p (reach d) (depths d) (plan_grown d) (omega (arith, le)) xs ys h) (applied_grown c w e (omega (arith, le)))

served_grown : (e d : ℕ) → d ≤ e → (o o' : Option (List ℕ)) → BothGrown e o o' → each_at_least d o' ≡ each_at_least d o
served_grown e d le None None h = refl
served_grown e d le None (Some ys) h = absurd h
served_grown e d le (Some xs) None h = absurd h
served_grown e d le (Some xs) (Some ys) h = enough_grown e d le xs ys h

-- so one more loop serves where the loops before did
pub serves-suc : (p : Plan) (d x : ℕ) → reach p ≤ x → d ≤ x → serves p d (x + 1) ≡ serves p d x
serves-suc p d x le le' = served_grown x d le' _ _ (plan_grown p x le _ _ (one_part x (x + 1) (inr (refl, omega arith)) no_part))
