-- `fuse` and its items find their loops in any sequence of as many parts, each with a loop: the items act on the fused
-- loop, and the parts beside it stay.
use Rattle.std.proofs.Common.{◌≡◌, refl, sym, ap, ◌∙◌, subst, ℕ, zero, suc, ◌+◌, ◌-◌, ◌<◌, ◌≤◌, List, [], ◌∷◌, ◌++◌, length, take, drop, Option, Some, None, Bool, true, ◌⊎◌, inl, inr, arith, length-append, length-drop}
use Rattle.std.specs.Prelude.{nat_le, if◌then◌else◌}
use Rattle.std.proofs.lemmas.Bool.{leb-true, le-leb, and_parts, and_from}
use Rattle.std.proofs.lemmas.List.{append_assoc, length-take-le}
use Rattle.c_semantics.specs.Loops.Transformations.{fuse, plan, Applied, none_applied, applied_at}
use Rattle.c_semantics.specs.Loops.Need.{transformed_depths, all_at_least, if_some, part_depths, below_depths, depths, applied_depths}
use Rattle.canonical_nests.specs.LoopRules.Structure.{ends_within}
use Rattle.nest_counts.specs.Found.{ItemsFit}
use Rattle.nest_counts.proofs.Found.{some_then, enough_loops}
use Rattle.nest_counts.proofs.SomeParts.{part_parts, below_parts, gives_parts, items_parts}

-- ---- a part among others

part_apart : (f : ℕ → Option (List ℕ)) (xs ys zs : List ℕ) → 0 < length ys → part_depths (length xs) f (xs ++ (ys ++ zs)) ≡ if_some (part_depths 0 f ys) (λ bs. Some (xs ++ (bs ++ zs)))
part_apart f [] [] zs some = absurd (omega arith)
part_apart f [] (y ∷ ys) zs some = by (f y)
  where
    by : (o : Option (List ℕ)) → if_some o (λ bs. Some (bs ++ (ys ++ zs))) ≡ if_some (if_some o (λ bs. Some (bs ++ ys))) (λ bs. Some ([] ++ (bs ++ zs)))
    by None = refl
    by (Some bs) = ap (λ l. Some l) (sym (append_assoc bs ys zs))
part_apart f (x ∷ xs) ys zs some = ap (λ o. if_some o (λ bs. Some (x ∷ bs))) (part_apart f xs ys zs some) ∙ by (part_depths 0 f ys)
  where
    by : (o : Option (List ℕ)) → if_some (if_some o (λ bs. Some (xs ++ (bs ++ zs)))) (λ bs. Some (x ∷ bs)) ≡ if_some o (λ bs. Some ((x ∷ xs) ++ (bs ++ zs)))
    by None = refl
    by (Some bs) = refl

items_apart : (r : ℕ × ℕ) (w : Applied) (xs ys zs : List ℕ) → ItemsFit w → length xs ≡ r.0 - 1 → 0 < length ys
    → applied_depths (fuse (Some r)) w (xs ++ (ys ++ zs)) ≡ if_some (applied_depths (fuse None) w ys) (λ bs. Some (xs ++ (bs ++ zs)))
items_apart r none_applied xs ys zs fit many some = refl
items_apart r (applied_at p d w) xs ys zs fit many some =
    ap (λ n. if_some (part_depths n (below_depths (p - 1) (depths d)) (xs ++ (ys ++ zs))) (applied_depths (fuse (Some r)) w)) (sym many)
    ∙ (ap (λ o. if_some o (applied_depths (fuse (Some r)) w)) (part_apart (below_depths (p - 1) (depths d)) xs ys zs some)
    ∙ by (part_depths 0 (below_depths (p - 1) (depths d)) ys)
    (λ bs e. items_apart r w xs bs zs fit.2 many (part_parts 0 (below_depths (p - 1) (depths d)) ys bs (below_parts (p - 1) (depths d) (λ k cs f. gives_parts d fit.0 fit.1 k cs f)) e)))
  where
    by : (o : Option (List ℕ)) → ((bs : List ℕ) → o ≡ Some bs → applied_depths (fuse (Some r)) w (xs ++ (bs ++ zs)) ≡ if_some (applied_depths (fuse None) w bs) (λ cs. Some (xs ++ (cs ++ zs))))
        → if_some (if_some o (λ bs. Some (xs ++ (bs ++ zs)))) (applied_depths (fuse (Some r)) w) ≡ if_some (if_some o (applied_depths (fuse None) w)) (λ bs. Some (xs ++ (bs ++ zs)))
    by None rest = refl
    by (Some bs) rest = rest bs refl

-- ---- lists of depths

pub all_append : (m : ℕ) (xs ys : List ℕ) → all_at_least m xs ≡ true → all_at_least m ys ≡ true → all_at_least m (xs ++ ys) ≡ true
all_append m [] ys h g = g
all_append m (x ∷ xs) ys h g =
    let q = and_parts (nat_le m x) (all_at_least m xs) h in
    and_from (nat_le m x) (all_at_least m (xs ++ ys)) q.0 (all_append m xs ys q.1 g)

pub all_parts : (m : ℕ) (xs ys : List ℕ) → all_at_least m (xs ++ ys) ≡ true → (all_at_least m xs ≡ true) × (all_at_least m ys ≡ true)
all_parts m [] ys h = (refl, h)
all_parts m (x ∷ xs) ys h =
    let q = and_parts (nat_le m x) (all_at_least m (xs ++ ys)) h in
    let r = all_parts m xs ys q.1 in
    (and_from (nat_le m x) (all_at_least m xs) q.0 r.0, r.1)

all_taken : (m n : ℕ) (xs : List ℕ) → all_at_least m xs ≡ true → all_at_least m (take n xs) ≡ true
all_taken m zero xs h = refl
all_taken m (suc n) [] h = refl
all_taken m (suc n) (x ∷ xs) h =
    let q = and_parts (nat_le m x) (all_at_least m xs) h in
    and_from (nat_le m x) (all_at_least m (take n xs)) q.0 (all_taken m n xs q.1)

all_left : (m n : ℕ) (xs : List ℕ) → all_at_least m xs ≡ true → all_at_least m (drop n xs) ≡ true
all_left m zero xs h = h
all_left m (suc n) [] h = refl
all_left m (suc n) (x ∷ xs) h = all_left m n xs (and_parts (nat_le m x) (all_at_least m xs) h).1

all_less : (m n : ℕ) (xs : List ℕ) → m ≤ n → all_at_least n xs ≡ true → all_at_least m xs ≡ true
all_less m n [] l h = refl
all_less m n (x ∷ xs) l h =
    let q = and_parts (nat_le n x) (all_at_least n xs) h in
    let enough : n ≤ x = leb-true n x q.0 in
    and_from (nat_le m x) (all_at_least m xs) (le-leb m x (omega arith)) (all_less m n xs l q.1)

all_of_none : (m : ℕ) (xs : List ℕ) → length xs ≡ 0 → all_at_least m xs ≡ true
all_of_none m [] e = refl
all_of_none m (x ∷ xs) e = absurd (omega arith)

-- ---- `fuse`

-- what it gives over another sequence: as many parts, and each as deep as is wanted, if no more than a loop is or the
-- fused part is all
abbrev pub ServesAlike : List ℕ → Option (List ℕ) → Type 0
ServesAlike es o =
    (fs : List ℕ) × ((o ≡ Some fs) × ((length fs ≡ length es) × ((m : ℕ) → all_at_least m es ≡ true → (m ≤ 1) ⊎ (length es ≡ 1) → all_at_least m fs ≡ true)))

enough_then : (o : Option (List ℕ)) (b : Bool) (fs : List ℕ) → b ≡ true → o ≡ Some fs → (if b then o else None) ≡ Some fs
enough_then o b fs e f = ap (λ x. if x then o else None) e ∙ f

length_round : (xs bs zs : List ℕ) → length (xs ++ (bs ++ zs)) ≡ length xs + (length bs + length zs)
length_round xs bs zs = omega (arith, length-append xs (bs ++ zs), length-append bs zs)

-- the fused part, with others round it
round_serves : (m : ℕ) (xs zs us vs bs : List ℕ) → length us ≡ length xs → length vs ≡ length zs → 0 < length bs → all_at_least 1 us ≡ true → all_at_least 1 vs ≡ true
    → all_at_least m (xs ++ (bs ++ zs)) ≡ true → (m ≤ 1) ⊎ (length (xs ++ (bs ++ zs)) ≡ 1) → all_at_least m (us ++ (bs ++ vs)) ≡ true
round_serves m xs zs us vs bs su sv some hu hv h few =
    let middle : all_at_least m bs ≡ true = (all_parts m bs zs (all_parts m xs (bs ++ zs) h).1).0 in
    by few middle
  where
    by : (m ≤ 1) ⊎ (length (xs ++ (bs ++ zs)) ≡ 1) → all_at_least m bs ≡ true → all_at_least m (us ++ (bs ++ vs)) ≡ true
    by (inl l) middle = all_append m us (bs ++ vs) (all_less m 1 us l hu) (all_append m bs vs middle (all_less m 1 vs l hv))
    by (inr e) middle =
        let all : length (xs ++ (bs ++ zs)) ≡ length xs + (length bs + length zs) = length_round xs bs zs in
        all_append m us (bs ++ vs) (all_of_none m us (omega arith)) (all_append m bs vs middle (all_of_none m vs (omega arith)))

pub other_sequence : (r : Option (ℕ × ℕ)) (w : Applied) (ks ls es : List ℕ) → ItemsFit w → ends_within (fuse r) (length ks) ≡ true → length ls ≡ length ks → all_at_least 1 ls ≡ true
    → depths (plan (fuse r) w) ks ≡ Some es → ServesAlike es (depths (plan (fuse r) w) ls)
other_sequence None w ks ls es fit ends same deep e =
    let q = enough_loops (fuse None) ks (applied_depths (fuse None) w (1 ∷ [])) es e in
    (es, (enough_then (applied_depths (fuse None) w (1 ∷ [])) (all_at_least 1 ls) es deep q.1, (refl, (λ m h few. h))))
other_sequence (Some r) w ks ls es fit ends same deep e =
    let a : ℕ = r.0 - 1 in
    let b : ℕ = r.0 - 1 + r.1 in
    let within : r.0 + r.1 ≤ length ks + 1 = leb-true (r.0 + r.1) (length ks + 1) ends in
    let la : length (take a ks) ≡ a = length-take-le a ks (omega arith) in
    let lb : length (take a ls) ≡ a = length-take-le a ls (omega arith) in
    let q = enough_loops (fuse (Some r)) ks (applied_depths (fuse (Some r)) w (transformed_depths (fuse (Some r)) ks)) es e in
    let t = some_then (applied_depths (fuse None) w (1 ∷ [])) (λ bs. Some (take a ks ++ (bs ++ drop b ks))) es (sym (items_apart r w (take a ks) (1 ∷ []) (drop b ks) fit la (omega arith)) ∙ q.1) in
    let is : take a ks ++ (t.0 ++ drop b ks) ≡ es = let g : Some (take a ks ++ (t.0 ++ drop b ks)) ≡ Some es = t.1.1 in cc in
    let fs : List ℕ = take a ls ++ (t.0 ++ drop b ls) in
    let over : applied_depths (fuse (Some r)) w (transformed_depths (fuse (Some r)) ls) ≡ Some fs = items_apart r w (take a ls) (1 ∷ []) (drop b ls) fit lb (omega arith) ∙ ap (λ o. if_some o (λ bs. Some (take a ls ++ (bs ++ drop b ls)))) t.1.0 in
    let left : length (drop b ls) ≡ length (drop b ks) = length-drop b ls ∙ (ap (λ n. n - b) same ∙ sym (length-drop b ks)) in
    let begun : length (take a ls) ≡ length (take a ks) = lb ∙ sym la in
    let many : length fs ≡ length (take a ks ++ (t.0 ++ drop b ks)) = omega (arith, length_round (take a ls) t.0 (drop b ls), length_round (take a ks) t.0 (drop b ks)) in
    let some : 0 < length t.0 = items_parts (fuse None) w (1 ∷ []) t.0 fit (omega arith) t.1.0 in
    subst (λ z. ServesAlike z (depths (plan (fuse (Some r)) w) ls)) is (
      fs,
      (
        enough_then (applied_depths (fuse (Some r)) w (transformed_depths (fuse (Some r)) ls)) (all_at_least 1 ls) fs deep over,
        (many, (λ m h few. round_serves m (take a ks) (drop b ks) (take a ls) (drop b ls) t.0 begun left some (all_taken 1 a ls deep) (all_left 1 b ls deep) h few)),
      ),
    )
