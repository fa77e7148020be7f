-- What a loop over counts has left.
use Rattle.std.proofs.Common.{◌≡◌, ◌∙◌, refl, sym, ap, ◌<◌, ◌≤◌, ◌+◌, ℕ, max, List, [], ◌∷◌, ◌++◌, map, length, drop, slice_index_or, Option, Some, None, true, false, arith}
use Rattle.std.proofs.lemmas.List.{append_assoc}
use Rattle.std.specs.Prelude.{◌==◌, if◌then◌else◌}
use Rattle.c_tree.proofs.Walks.{rest_more, rest_none}
use Rattle.c_semantics.specs.Loops.Transformations.{any_zero}
use Rattle.c_semantics.specs.Structure.Parts.{all_known, and_known, greatest}
use Rattle.canonical_nests.specs.declared.nest.CountKind.{CountKind}
use Rattle.canonical_nests.specs.Kinds.{Part, known_count, kind_at}

pub first_none : (ks : Part) → ks ≡ [] → known_count (kind_at ks 0) ≡ None
first_none ks e = ap (λ ys. known_count (kind_at ys 0)) e

pub first_some : (ks : Part) (k : CountKind) → 0 < length ks → k ≡ slice_index_or ks 0 k → known_count (kind_at ks 0) ≡ known_count k
first_some [] k lt is = absurd (omega (arith, lt))
first_some (j ∷ ks) k lt is = ap known_count (sym is)

pub counts_more : (xs : Part) (i : ℕ) (x : CountKind) → i < length xs → x ≡ slice_index_or xs i x → map known_count (drop i xs) ≡ known_count x ∷ map known_count (drop (i + 1) xs)
counts_more xs i = rest_more (map known_count) xs i

pub counts_end : (xs : Part) (i : ℕ) → length xs ≤ i → map known_count (drop i xs) ≡ []
counts_end xs i = rest_none (map known_count) xs i

pub firsts_more : (xs : List Part) (i : ℕ) (x : Part) → i < length xs → x ≡ slice_index_or xs i x
    → map (λ part. known_count (kind_at part 0)) (drop i xs) ≡ known_count (kind_at x 0) ∷ map (λ part. known_count (kind_at part 0)) (drop (i + 1) xs)
firsts_more xs i = rest_more (map (λ part. known_count (kind_at part 0))) xs i

pub firsts_end : (xs : List Part) (i : ℕ) → length xs ≤ i → map (λ part. known_count (kind_at part 0)) (drop i xs) ≡ []
firsts_end xs i = rest_none (map (λ part. known_count (kind_at part 0))) xs i

-- ---- all of them

-- these, and then the others, where they are known
abbrev pub with_known : List ℕ → Option (List ℕ) → Option (List ℕ)
with_known xs None = None
with_known xs (Some ys) = Some (xs ++ ys)

pub with_none : (o : Option (List ℕ)) → with_known [] o ≡ o
with_none None = refl
with_none (Some ys) = refl

one_more : (xs : List ℕ) (c : ℕ) (o : Option (List ℕ)) → with_known xs (and_known c o) ≡ with_known (xs ++ c ∷ []) o
one_more xs c None = refl
one_more xs c (Some ys) = ap Some (sym (append_assoc xs (c ∷ []) ys))

pub known_more : (all : List ℕ) (xs : List (Option ℕ)) (i : ℕ) (x : Option ℕ) (c : ℕ) → i < length xs → x ≡ slice_index_or xs i x → x ≡ Some c
    → with_known all (all_known (drop i xs)) ≡ with_known (all ++ c ∷ []) (all_known (drop (i + 1) xs))
known_more all xs i x c within is some =
    ap (with_known all) (rest_more all_known xs i x within is)
    ∙ (ap (λ o. with_known all (all_known (o ∷ drop (i + 1) xs))) some ∙ one_more all c (all_known (drop (i + 1) xs)))

pub known_fails : (all : List ℕ) (xs : List (Option ℕ)) (i : ℕ) (x : Option ℕ) → i < length xs → x ≡ slice_index_or xs i x → x ≡ None
    → with_known all (all_known (drop i xs)) ≡ None
known_fails all xs i x within is none =
    ap (with_known all) (rest_more all_known xs i x within is) ∙ ap (λ o. with_known all (all_known (o ∷ drop (i + 1) xs))) none

pub known_end : (all : List ℕ) (xs : List (Option ℕ)) (i : ℕ) → length xs ≤ i → with_known all (all_known (drop i xs)) ≡ Some (all ++ [])
known_end all xs i le = ap (with_known all) (rest_none all_known xs i le)

pub zero_more : (xs : List ℕ) (i x : ℕ) → i < length xs → x ≡ slice_index_or xs i x → any_zero (drop i xs) ≡ (if x == 0 then true else any_zero (drop (i + 1) xs))
zero_more xs i = rest_more any_zero xs i

pub zero_end : (xs : List ℕ) (i : ℕ) → length xs ≤ i → any_zero (drop i xs) ≡ false
zero_end xs i = rest_none any_zero xs i

pub greatest_more : (xs : List ℕ) (i x : ℕ) → i < length xs → x ≡ slice_index_or xs i x → greatest (drop i xs) ≡ max x (greatest (drop (i + 1) xs))
greatest_more xs i = rest_more greatest xs i

pub greatest_end : (xs : List ℕ) (i : ℕ) → length xs ≤ i → greatest (drop i xs) ≡ 0
greatest_end xs i = rest_none greatest xs i

pub ruleset known = (first_none, first_some, counts_more, counts_end, firsts_more, firsts_end, with_none, known_more, known_fails, known_end, zero_more, zero_end, greatest_more, greatest_end)
