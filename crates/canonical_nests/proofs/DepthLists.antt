-- Lists of depths.
use Rattle.std.proofs.Common.{◌≡◌, ◌∙◌, refl, sym, ap, ◌<◌, ◌≤◌, ◌+◌, ◌-◌, ℕ, zero, suc, max, List, [], ◌∷◌, ◌++◌, length, take, drop, replicate, get_or, slice_index_or, Bool, true, false, ◌&&◌, Option, Some, None, arith}
use Rattle.std.specs.Prelude.{nat_le}
use Rattle.std.proofs.lemmas.List.{drop_all}
use Rattle.c_tree.proofs.Walks.{rest_more, rest_none}
use Rattle.c_semantics.specs.Loops.Need.{all_at_least, if_some, part_depths}

pub at_least_more : (d : ℕ) (xs : List ℕ) (i : ℕ) (x : ℕ) → i < length xs → x ≡ slice_index_or xs i x
    → all_at_least d (drop i xs) ≡ (nat_le d x && all_at_least d (drop (i + 1) xs))
at_least_more d xs i = rest_more (all_at_least d) xs i

pub at_least_end : (d : ℕ) (xs : List ℕ) (i : ℕ) → length xs ≤ i → all_at_least d (drop i xs) ≡ true
at_least_end d xs i = rest_none (all_at_least d) xs i

-- ---- cut past the end

pub take_past : (n : ℕ) (xs : List ℕ) → length xs ≤ n → take n xs ≡ xs
take_past zero [] le = refl
take_past (suc n) [] le = refl
take_past zero (x ∷ xs) le = absurd (omega (arith, le))
take_past (suc n) (x ∷ xs) le = ap (λ ys. x ∷ ys) (take_past n xs (omega (arith, le)))

pub drop_past : (n : ℕ) (xs : List ℕ) → length xs ≤ n → drop n xs ≡ drop (length xs) xs
drop_past n xs le = drop_all n xs le ∙ sym (drop_all (length xs) xs (omega arith))

-- ---- a part replaced by those that a function gives

part_inside : (f : ℕ → Option (List ℕ)) (i : ℕ) (ks : List ℕ) → i < length ks
    → part_depths i f ks ≡ if_some (f (get_or ks i 0)) (λ bs. Some (take i ks ++ (bs ++ drop (suc i) ks)))
part_inside f i [] lt = absurd (omega (arith, lt))
part_inside f zero (k ∷ ks) lt = refl
part_inside f (suc i) (k ∷ ks) lt =
    ap (λ o. if_some o (λ bs. Some (k ∷ bs))) (part_inside f i ks (omega (arith, lt))) ∙ inside (f (get_or ks i 0))
  where
    inside : (o : Option (List ℕ))
        → if_some (if_some o (λ bs. Some (take i ks ++ (bs ++ drop (suc i) ks)))) (λ bs. Some (k ∷ bs))
        ≡ if_some o (λ bs. Some ((k ∷ take i ks) ++ (bs ++ drop (suc i) ks)))
    inside None = refl
    inside (Some bs) = refl

pub part_within : (f : ℕ → Option (List ℕ)) (i : ℕ) (ks : List ℕ) → i < length ks
    → part_depths i f ks ≡ if_some (f (get_or ks i 0)) (λ bs. Some (take i ks ++ (bs ++ drop (i + 1) ks)))
part_within f i ks lt =
    let e : suc i ≡ i + 1 = omega arith in
    part_inside f i ks lt ∙ ap (λ n. if_some (f (get_or ks i 0)) (λ bs. Some (take i ks ++ (bs ++ drop n ks)))) e

pub part_past : (f : ℕ → Option (List ℕ)) (i : ℕ) (ks : List ℕ) → length ks ≤ i → part_depths i f ks ≡ None
part_past f i [] le = refl
part_past f zero (k ∷ ks) le = absurd (omega (arith, le))
part_past f (suc i) (k ∷ ks) le = ap (λ o. if_some o (λ bs. Some (k ∷ bs))) (part_past f i ks (omega (arith, le)))

pub ruleset depth_lists = (at_least_more, at_least_end, take_past, drop_past, part_within, part_past)
