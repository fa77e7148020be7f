-- What a loop over numbers has left.
use Rattle.std.proofs.Common.{◌≡◌, ◌∙◌, sym, ap, ◌<◌, ◌≤◌, ◌+◌, ℕ, suc, List, [], ◌∷◌, ◌++◌, length, drop, slice_index_or, true, false, ◌&&◌, ◌||◌, arith}
use Rattle.std.specs.Prelude.{◌==◌, not}
use Rattle.c_tree.proofs.Walks.{rest_more, rest_none}
use Rattle.canonical_nests.specs.LoopRules.Clauses.{is_in, all_different, shares, one_to}

pub is_in_more : (k : ℕ) (xs : List ℕ) (i x : ℕ) → i < length xs → x ≡ slice_index_or xs i x → is_in k (drop i xs) ≡ ((k == x) || is_in k (drop (i + 1) xs))
is_in_more k xs i = rest_more (is_in k) xs i

pub is_in_end : (k : ℕ) (xs : List ℕ) (i : ℕ) → length xs ≤ i → is_in k (drop i xs) ≡ false
is_in_end k xs i = rest_none (is_in k) xs i

pub different_more : (xs : List ℕ) (i x : ℕ) → i < length xs → x ≡ slice_index_or xs i x → all_different (drop i xs) ≡ (not (is_in x (drop (i + 1) xs)) && all_different (drop (i + 1) xs))
different_more xs i = rest_more all_different xs i

pub different_end : (xs : List ℕ) (i : ℕ) → length xs ≤ i → all_different (drop i xs) ≡ true
different_end xs i = rest_none all_different xs i

pub shares_more : (ys xs : List ℕ) (i x : ℕ) → i < length xs → x ≡ slice_index_or xs i x → shares (drop i xs) ys ≡ (is_in x ys || shares (drop (i + 1) xs) ys)
shares_more ys xs i = rest_more (λ zs. shares zs ys) xs i

pub shares_end : (ys xs : List ℕ) (i : ℕ) → length xs ≤ i → shares (drop i xs) ys ≡ false
shares_end ys xs i = rest_none (λ zs. shares zs ys) xs i

pub one_more : (i : ℕ) → one_to (i + 1) ≡ one_to i ++ (i + 1) ∷ []
one_more i = let e : i + 1 ≡ suc i = omega arith in ap one_to e ∙ ap (λ k. one_to i ++ k ∷ []) (sym e)

pub ruleset number_lists = (is_in_more, is_in_end, different_more, different_end, shares_more, shares_end, one_more)
