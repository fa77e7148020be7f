-- The places of file-scope variables: what stays the same as variables change and are added.
use Rattle.std.proofs.Common.{◌≡◌, ◌∙◌, sym, ap, refl, ℕ, zero, suc, Bool, true, false, List, [], ◌∷◌, ◌++◌, length, set, nat_eq, arith}
use Rattle.std.specs.Prelude.{bytes_eq, if◌then◌else◌, slice_index_or, Option, Some, None}
use Rattle.std.specs.Option.{option_map}
use Rattle.c_tree.specs.Bare.{Name}
use Rattle.resolved_names.specs.Numbered.{number_name}
use Rattle.c_semantics.specs.Meaning.State.{Var}
use Rattle.c_meaning.specs.declared.place_table.PlaceTable.{PlaceTable}
use Rattle.c_meaning.specs.PlaceTables.{place_at}
use Rattle.c_meaning.specs.FileVariables.{first_of, TellsFirst}
use Rattle.c_meaning.proofs.Numbers.{number_eq}

-- ---- where a variable changes

first_set : (x : Name) (vs : List Var) (i : ℕ) (v w : Var) → v ≡ slice_index_or vs i v → w.name ≡ v.name → first_of x (set vs i w) ≡ first_of x vs
first_set x [] i v w at same = refl
first_set x (u ∷ vs) zero v w at same = ap (λ (n : Name). if bytes_eq x n then Some 0 else option_map suc (first_of x vs)) (same ∙ ap (λ z. z.name) at)
first_set x (u ∷ vs) (suc i) v w at same = ap (λ (o : Option ℕ). if bytes_eq x u.name then Some 0 else option_map suc o) (first_set x vs i v w at same)

pub tells_set : (t : PlaceTable) (vs : List Var) (i : ℕ) (v w : Var) → v ≡ slice_index_or vs i v → w.name ≡ v.name → TellsFirst t vs → TellsFirst t (set vs i w)
tells_set t vs i v w at same tells n = tells n ∙ sym (first_set (number_name n) vs i v w at same)

-- ---- where one is added

or_last : Option ℕ → Bool → ℕ → Option ℕ
or_last (Some i) b n = Some i
or_last None b n = if b then Some n else None

or_last_more : (o : Option ℕ) (b : Bool) (n : ℕ) → option_map suc (or_last o b n) ≡ or_last (option_map suc o) b (suc n)
unfolding or_last
or_last_more (Some i) b n = refl
or_last_more None true n = refl
or_last_more None false n = refl

push_here : (o : Option ℕ) (a b : Bool) (n : ℕ) → (if a then Some 0 else option_map suc (or_last o b n)) ≡ or_last (if a then Some 0 else option_map suc o) b (suc n)
unfolding or_last
push_here o true b n = refl
push_here o false b n = or_last_more o b n

first_push : (x : Name) (vs : List Var) (v : Var) → first_of x (vs ++ v ∷ []) ≡ or_last (first_of x vs) (bytes_eq x v.name) (length vs)
unfolding or_last
first_push x [] v = refl
first_push x (w ∷ vs) v =
    ap (λ (o : Option ℕ). if bytes_eq x w.name then Some 0 else option_map suc o) (first_push x vs v)
    ∙ push_here (first_of x vs) (bytes_eq x w.name) (bytes_eq x v.name) (length vs)

module _ (t u : PlaceTable) (vs : List Var) (v : Var) (k : ℕ) (named : v.name ≡ number_name k) (tells : TellsFirst t vs) where
  now : (n : ℕ) → first_of (number_name n) (vs ++ v ∷ []) ≡ or_last (place_at t n) (nat_eq n k) (length vs)
  now n =
      first_push (number_name n) vs v
      ∙ (ap (λ o. or_last o (bytes_eq (number_name n) v.name) (length vs)) (sym (tells n))
      ∙ ap (λ b. or_last (place_at t n) b (length vs)) (ap (bytes_eq (number_name n)) named ∙ number_eq n k))

  later : (n i : ℕ) (b : Bool) (o : Option ℕ) → nat_eq n k ≡ b → place_at t k ≡ Some i → place_at t n ≡ o → or_last o b (length vs) ≡ o
  unfolding or_last
  later n i b (Some j) same is at = refl
  later n i false None same is at = refl
  later n i true None same is at = let number : n ≡ k = grind arith in absurd (let both : None ≡ Some i = sym at ∙ (ap (place_at t) number ∙ is) in cc)

  -- the name has a variable before it
  pub tells_later : (i : ℕ) → place_at t k ≡ Some i → TellsFirst t (vs ++ v ∷ [])
  tells_later i is n = sym (now n ∙ later n i (nat_eq n k) (place_at t n) refl is refl)

  first : (n : ℕ) (b : Bool) (o : Option ℕ) → nat_eq n k ≡ b → place_at t k ≡ None → place_at t n ≡ o → (if b then Some (length vs) else o) ≡ or_last o b (length vs)
  unfolding or_last
  first n false (Some j) same is at = refl
  first n false None same is at = refl
  first n true None same is at = refl
  first n true (Some j) same is at = let number : n ≡ k = grind arith in absurd (let both : None ≡ Some j = sym is ∙ (ap (place_at t) (sym number) ∙ at) in cc)

  -- it is the first of its name
  pub tells_first : place_at t k ≡ None → ((n : ℕ) → place_at u n ≡ (if nat_eq n k then Some (length vs) else place_at t n)) → TellsFirst u (vs ++ v ∷ [])
  tells_first is put n = put n ∙ (first n (nat_eq n k) (place_at t n) refl is refl ∙ sym (now n))
