-- A walk over a list from its last element, with an invariant on what was seen: one element more, none, and all.
use Rattle.std.proofs.Common.{◌≡◌, ◌∙◌, refl, ap, ◌<◌, ◌≤◌, ◌+◌, ◌-◌, ℕ, zero, suc, List, [], ◌∷◌, length, drop, slice_index_or, arith}
use Rattle.c_tree.proofs.Walks.{rest_more, rest_none}

module _ {A R : Type 0} (f : List A → R) (xs : List A) (left : ℕ) where
  pub seen_more : (x : A) → 0 < left → left ≤ length xs → x ≡ slice_index_or xs (left - 1) x → f (drop (left - 1) xs) ≡ f (x ∷ drop left xs)
  seen_more x above le is =
      let lt : left - 1 < length xs = omega arith in
      let e : left - 1 + 1 ≡ left = omega arith in
      rest_more f xs (left - 1) x lt is ∙ ap (λ n. f (x ∷ drop n xs)) e

  pub seen_none : left ≡ length xs → f (drop left xs) ≡ f []
  seen_none e = let le : length xs ≤ left = omega arith in rest_none f xs left le

pub seen_all : {A : Type 0} (xs : List A) (left : ℕ) → left ≤ 0 → drop left xs ≡ xs
seen_all xs zero le = refl
seen_all xs (suc left) le = absurd (omega (arith, le))
