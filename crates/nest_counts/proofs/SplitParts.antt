-- The parts that split makes.
use Rattle.std.proofs.Common.{◌≡◌, refl, sym, ap, ◌∙◌, ℕ, zero, suc, ◌+◌, ◌-◌, ◌<◌, List, [], ◌∷◌, map, length, drop, Option, Some, None, get_or, arith}
use Rattle.std.specs.Prelude.{min}
use Rattle.c_semantics.specs.Loops.IterationTrees.{Tree, children, nth}
use Rattle.c_semantics.specs.Loops.Transformations.{cut, filled, split_up, known_counts}
use Rattle.c_semantics.specs.Structure.Parts.{split_counts, clipped}
use Rattle.canonical_nests.specs.declared.nest.CountKind.{CountKind}
use Rattle.canonical_nests.specs.declared.nest.CountKind.TheVariants.{Known, Entry, Depends}
use Rattle.canonical_nests.specs.Kinds.{depends_on, known_count, same_kind}
use Rattle.nest_counts.specs.HasKinds.{turns}
use Rattle.nest_counts.proofs.Selected.{Selects, stretch, stretch_selects}

-- the turns before the j-th part
abbrev pub earlier : ℕ → List ℕ → ℕ
earlier zero cs = 0
earlier (suc j) [] = 0
earlier (suc j) (c ∷ cs) = c + earlier j cs

drop_none : (n : ℕ) → drop {A = Tree} n [] ≡ []
drop_none zero = refl
drop_none (suc n) = refl

drop_drop : (c o n : ℕ) (ts : List Tree) → n ≡ c + o → drop o (drop c ts) ≡ drop n ts
drop_drop zero o n ts e = ap (λ m. drop m ts) (let s : o ≡ n = omega arith in s)
drop_drop (suc c) o n [] e = drop_none o ∙ sym (drop_none n)
drop_drop (suc c) o zero (t ∷ ts) e = absurd (omega arith)
drop_drop (suc c) o (suc n) (t ∷ ts) e = drop_drop c o n ts (omega arith)

pub nth_cut : (j : ℕ) (cs : List ℕ) (ts : List Tree) → j < length cs → nth j (cut cs ts) ≡ stretch (earlier j cs) (get_or cs j 0) ts
nth_cut j [] ts l = absurd (omega arith)
nth_cut zero (c ∷ cs) ts l = refl
nth_cut (suc j) (c ∷ cs) ts l = nth_cut j cs (drop c ts) (omega arith) ∙ ap (λ us. stretch 0 (get_or cs j 0) us) (drop_drop c (earlier j cs) (c + earlier j cs) ts refl)

pub length_cut : (cs : List ℕ) (ts : List Tree) → length (cut cs ts) ≡ length cs
length_cut [] ts = refl
length_cut (c ∷ cs) ts = ap (λ n. suc n) (length_cut cs (drop c ts))

pub length_filled : (n : ℕ) (cs : List (Option ℕ)) → length (map (filled n) cs) ≡ length cs
length_filled n [] = refl
length_filled n (c ∷ cs) = ap (λ m. suc m) (length_filled n cs)

abbrev pub sizes_of : List (Option ℕ) → ℕ → List ℕ
sizes_of cs w = map (filled (w - known_counts cs)) cs

abbrev pub split_selects : (cs : List (Option ℕ)) (j : ℕ) → j < length cs → Selects (λ t. nth j (split_up cs t))
split_selects cs j l =
    stretch_selects (λ w. earlier j (sizes_of cs w)) (λ w. get_or (sizes_of cs w) j 0) (λ t. nth j (split_up cs t))
    (λ t. nth_cut j (sizes_of cs (turns t)) (children t) (let e : length (sizes_of cs (turns t)) ≡ length cs = length_filled (turns t - known_counts cs) cs in omega arith))

clipped_at : (n j : ℕ) (cs : List ℕ) → j < length cs → get_or (clipped n cs) j 0 ≡ min (get_or cs j 0) (n - earlier j cs)
clipped_at n j [] l = absurd (omega arith)
clipped_at n zero (c ∷ cs) l = ap (λ m. min c m) (let e : n ≡ n - 0 = omega arith in e)
clipped_at n (suc j) (c ∷ cs) l = clipped_at (n - c) j cs (omega arith) ∙ ap (λ m. min (get_or cs j 0) m) (let e : n - c - earlier j cs ≡ n - (c + earlier j cs) = omega arith in e)

length_clipped : (n : ℕ) (cs : List ℕ) → length (clipped n cs) ≡ length cs
length_clipped n [] = refl
length_clipped n (c ∷ cs) = ap (λ m. suc m) (length_clipped (n - c) cs)

some_at : (xs : List ℕ) (j : ℕ) → j < length xs → get_or (map (λ c. Some c) xs) j None ≡ Some (get_or xs j 0)
some_at [] j l = absurd (omega arith)
some_at (x ∷ xs) zero l = refl
some_at (x ∷ xs) (suc j) l = some_at xs j (omega arith)

none_at : (cs : List (Option ℕ)) (j : ℕ) → get_or (split_counts None cs) j None ≡ None
none_at [] j = refl
none_at (c ∷ cs) zero = refl
none_at (c ∷ cs) (suc j) = none_at cs j

pub length_counts : (o : Option ℕ) (cs : List (Option ℕ)) → length (split_counts o cs) ≡ length cs
length_counts None [] = refl
length_counts None (c ∷ cs) = ap (λ n. suc n) (length_counts None cs)
length_counts (Some n) cs = length_somes (clipped n (sizes_of cs n)) ∙ (length_clipped n (sizes_of cs n) ∙ length_filled (n - known_counts cs) cs)
  where
    length_somes : (xs : List ℕ) → length (map (λ c. Some c) xs) ≡ length xs
    length_somes [] = refl
    length_somes (x ∷ xs) = ap (λ n. suc n) (length_somes xs)

-- what the kind of the j-th part says
pub split_says : (K : CountKind) (cs : List (Option ℕ)) (j : ℕ) (l : j < length cs)
    → (depends_on (same_kind K (get_or (split_counts (known_count K) cs) j None)) ≡ depends_on K)
    × ((v : ℕ) → known_count (same_kind K (get_or (split_counts (known_count K) cs) j None)) ≡ Some v → (w : ℕ) × ((known_count K ≡ Some w) × (min (get_or (sizes_of cs w) j 0) (w - earlier j (sizes_of cs w)) ≡ v)))
split_says (Known n) cs j l =
    let m : j < length (clipped n (sizes_of cs n)) = let e : length (clipped n (sizes_of cs n)) ≡ length cs = length_clipped n (sizes_of cs n) ∙ length_filled (n - known_counts cs) cs in omega arith in
    let s : get_or (split_counts (Some n) cs) j None ≡ Some (get_or (clipped n (sizes_of cs n)) j 0) = some_at (clipped n (sizes_of cs n)) j m in (
      ap (λ o. depends_on (same_kind (Known n) o)) s,
      (λ v e.
          let k : Some (get_or (clipped n (sizes_of cs n)) j 0) ≡ Some v = sym (ap (λ o. known_count (same_kind (Known n) o)) s) ∙ e in
          let i : get_or (clipped n (sizes_of cs n)) j 0 ≡ v = cc in
          (n, (refl, sym (clipped_at n j (sizes_of cs n) (let d : length (sizes_of cs n) ≡ length cs = length_filled (n - known_counts cs) cs in omega arith)) ∙ i))),
    )
split_says Entry cs j l = (
  ap (λ o. depends_on (same_kind Entry o)) (none_at cs j),
  (λ v e. absurd (let k : None ≡ Some v = sym (ap (λ o. known_count (same_kind Entry o)) (none_at cs j)) ∙ e in cc)),
)
split_says (Depends ps) cs j l = (
  ap (λ o. depends_on (same_kind (Depends ps) o)) (none_at cs j),
  (λ v e. absurd (let k : None ≡ Some v = sym (ap (λ o. known_count (same_kind (Depends ps) o)) (none_at cs j)) ∙ e in cc)),
)
