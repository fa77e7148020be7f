-- Cuts of lists, and what a loop that copies one has left.
use Rattle.std.proofs.Common.{◌≡◌, ◌∙◌, refl, sym, ap, ◌<◌, ◌≤◌, ◌+◌, ℕ, zero, suc, List, [], ◌∷◌, ◌++◌, length, take, drop, get_or, slice_index_or, arith}
use Rattle.std.proofs.lemmas.List.{drop_all, append_assoc, append-nil}
use Rattle.c_tree.proofs.Walks.{rest_more, rest_none}
use Rattle.canonical_nests.specs.declared.nest.CountKind.{CountKind}
use Rattle.canonical_nests.specs.declared.nest.CountKind.TheVariants.{Entry}
use Rattle.canonical_nests.specs.Kinds.{Part, no_part, kind_at}

module _ {A : Type 0} where
  pub take_past : (n : ℕ) (xs : List A) → length xs ≤ n → take n xs ≡ xs
  take_past zero [] le = refl
  take_past (suc n) [] le = refl
  take_past zero (x ∷ xs) le = absurd (omega (arith, le))
  take_past (suc n) (x ∷ xs) le = ap (λ ys. x ∷ ys) (take_past n xs (omega (arith, le)))

  pub drop_past : (n : ℕ) (xs : List A) → length xs ≤ n → drop n xs ≡ drop (length xs) xs
  drop_past n xs le = drop_all n xs le ∙ sym (drop_all (length xs) xs (omega arith))

  pub element_past : (n : ℕ) (xs : List A) (d : A) → length xs ≤ n → get_or xs n d ≡ d
  element_past n [] d le = refl
  element_past zero (x ∷ xs) d le = absurd (omega (arith, le))
  element_past (suc n) (x ∷ xs) d le = element_past n xs d (omega (arith, le))

  pub element_there : (n : ℕ) (xs : List A) (x d : A) → n < length xs → x ≡ slice_index_or xs n x → get_or xs n d ≡ x
  element_there n [] x d lt is = absurd (omega (arith, lt))
  element_there zero (y ∷ xs) x d lt is = sym is
  element_there (suc n) (y ∷ xs) x d lt is = element_there n xs x d (omega (arith, lt)) is

pub kind_past : (n : ℕ) (ks : Part) → length ks ≤ n → kind_at ks n ≡ Entry
kind_past n ks = element_past n ks Entry

pub kind_there : (n : ℕ) (ks : Part) (k : CountKind) → n < length ks → k ≡ slice_index_or ks n k → kind_at ks n ≡ k
kind_there n ks k = element_there n ks k Entry

pub part_past : (n : ℕ) (ps : List Part) → length ps ≤ n → get_or ps n no_part ≡ []
part_past n ps = element_past n ps no_part

pub part_there : (n : ℕ) (ps : List Part) (p : Part) → n < length ps → p ≡ slice_index_or ps n p → get_or ps n no_part ≡ p
part_there n ps p = element_there n ps p no_part

pub ruleset cuts = (take_past, drop_past, kind_past, kind_there, part_past, part_there)

pub kinds_more : (xs : Part) (i : ℕ) (x : CountKind) → i < length xs → x ≡ slice_index_or xs i x → drop i xs ≡ x ∷ drop (i + 1) xs
kinds_more xs i = rest_more (λ ys. ys) xs i

pub kinds_end : (xs : Part) (i : ℕ) → length xs ≤ i → drop i xs ≡ []
kinds_end xs i = rest_none (λ ys. ys) xs i

pub parts_more : (xs : List Part) (i : ℕ) (x : Part) → i < length xs → x ≡ slice_index_or xs i x → drop i xs ≡ x ∷ drop (i + 1) xs
parts_more xs i = rest_more (λ ys. ys) xs i

pub parts_end : (xs : List Part) (i : ℕ) → length xs ≤ i → drop i xs ≡ []
parts_end xs i = rest_none (λ ys. ys) xs i

pub ruleset copied = (kinds_more, kinds_end, parts_more, parts_end)

-- ---- a list that a loop makes

module _ {A : Type 0} where
  -- one element more, which is the next of those that are left
  pub pushed_step : (all new rest left total : List A) (x y : A) → new ≡ all ++ x ∷ [] → x ≡ y → rest ≡ y ∷ left → all ++ rest ≡ total → new ++ left ≡ total
  pushed_step all new rest left total x y new_is x_is rest_is all_is =
      ap (λ zs. zs ++ left) (new_is ∙ ap (λ z. all ++ z ∷ []) x_is)
      ∙ (append_assoc all (y ∷ []) left
      ∙ (ap (λ zs. all ++ zs) (sym rest_is) ∙ all_is))

  -- several elements more
  pub pushed_more : (all new given rest left total : List A) → new ≡ all ++ given → rest ≡ given ++ left → all ++ rest ≡ total → new ++ left ≡ total
  pushed_more all new given rest left total new_is rest_is all_is =
      ap (λ zs. zs ++ left) new_is ∙ (append_assoc all given left ∙ (ap (λ zs. all ++ zs) (sym rest_is) ∙ all_is))

  -- none is left
  pub pushed_all : (all rest total : List A) → rest ≡ [] → all ++ rest ≡ total → all ≡ total
  pushed_all all rest total none is = sym (append-nil all) ∙ (ap (λ zs. all ++ zs) (sym none) ∙ is)
