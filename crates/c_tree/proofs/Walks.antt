-- A walk over a list, with an invariant on what is left of it: the next element and the rest, and the end.
use Rattle.std.proofs.Common.{◌≡◌, ◌∙◌, ◌<◌, ◌≤◌, ◌+◌, sym, ap, ℕ, List, [], ◌∷◌, length, drop, slice_index_or}
use Rattle.std.proofs.lemmas.List.{at_drop_more, drop_all}

module _ {A R : Type 0} (f : List A → R) (xs : List A) (i : ℕ) where
  pub rest_more : (x : A) → i < length xs → x ≡ slice_index_or xs i x → f (drop i xs) ≡ f (x ∷ drop (i + 1) xs)
  rest_more x within is = at_drop_more f xs i x within ∙ ap (λ y. f (y ∷ drop (i + 1) xs)) (sym is)

  pub rest_none : length xs ≤ i → f (drop i xs) ≡ f []
  rest_none past = ap f (drop_all i xs past)
