-- What a loop over positions, or over the loops that are taken, has left.
use Rattle.std.proofs.Common.{◌≡◌, ◌∙◌, refl, sym, ap, ◌<◌, ◌≤◌, ◌+◌, ℕ, List, length, drop, slice_index_or, Option, Some, None, false, ◌&&◌, ◌||◌}
use Rattle.std.specs.Prelude.{not, is_none, is_some, ◌==◌}
use Rattle.std.specs.List.{list_any}
use Rattle.c_tree.proofs.Walks.{rest_more, rest_none}
use Rattle.canonical_nests.specs.declared.nest.CountKind.{CountKind}
use Rattle.canonical_nests.specs.Kinds.{Part, known_count, kind_at}
use Rattle.canonical_nests.specs.LoopRules.Counts.{is_among_taken, depends_on_taken, some_depends}
use Rattle.loop_counts.proofs.Parts.{kind_there, kind_past}

pub taken_more : (k n q : ℕ) (xs : List ℕ) (i x : ℕ) → i < length xs → x ≡ slice_index_or xs i x
    → list_any (λ p. is_among_taken k n p && not (p == q)) (drop i xs) ≡ ((is_among_taken k n x && not (x == q)) || list_any (λ p. is_among_taken k n p && not (p == q)) (drop (i + 1) xs))
taken_more k n q xs i = rest_more (list_any (λ p. is_among_taken k n p && not (p == q))) xs i

pub taken_end : (k n q : ℕ) (xs : List ℕ) (i : ℕ) → length xs ≤ i → list_any (λ p. is_among_taken k n p && not (p == q)) (drop i xs) ≡ false
taken_end k n q xs i = rest_none (list_any (λ p. is_among_taken k n p && not (p == q))) xs i

pub depends_more : (k n q : ℕ) (xs : Part) (i : ℕ) (x : CountKind) → i < length xs → x ≡ slice_index_or xs i x
    → some_depends k n q (drop i xs) ≡ (depends_on_taken k n q x || some_depends k n (q + 1) (drop (i + 1) xs))
depends_more k n q xs i = rest_more (some_depends k n q) xs i

pub depends_end : (k n q : ℕ) (xs : Part) (i : ℕ) → length xs ≤ i → some_depends k n q (drop i xs) ≡ false
depends_end k n q xs i = rest_none (some_depends k n q) xs i

pub ruleset dependences = (taken_more, taken_end, depends_more, depends_end)

some_is : (o : Option ℕ) → is_some o ≡ not (is_none o)
some_is None = refl
some_is (Some n) = refl

pub known_there : (ks : Part) (n : ℕ) (k : CountKind) → n < length ks → k ≡ slice_index_or ks n k → not (is_none (known_count (kind_at ks n))) ≡ is_some (known_count k)
known_there ks n k lt is = ap (λ j. not (is_none (known_count j))) (kind_there n ks k lt is) ∙ sym (some_is (known_count k))

pub known_past : (ks : Part) (n : ℕ) → length ks ≤ n → not (is_none (known_count (kind_at ks n))) ≡ false
known_past ks n le = ap (λ j. not (is_none (known_count j))) (kind_past n ks le)

pub ruleset counts = (known_there, known_past)
