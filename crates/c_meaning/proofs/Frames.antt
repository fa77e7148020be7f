-- The places of a frame's variables: where a name is found, and what a table says after each change.
use Rattle.std.proofs.Common.{◌≡◌, ◌∙◌, sym, ap, refl, subst, ℕ, zero, suc, ◌+◌, ◌-◌, ◌<◌, ◌≤◌, Bool, true, false, List, [], ◌∷◌, ◌++◌, length, drop, reverse, set, arith, nat_eq}
use Rattle.std.proofs.Math.ListN.{get_or-map}
use Rattle.std.proofs.Math.Seq.{map-set_same}
use Rattle.std.proofs.lemmas.List.{reverse-append, length-reverse, length-set, length-drop, drop-drop, drop_all, map-append, map-set}
use Rattle.std.specs.Prelude.{bytes_eq, if◌then◌else◌, slice_index_or, Option, Some, None, ℤ}
use Rattle.std.specs.Option.{option_map}
use Rattle.c_tree.specs.Bare.{Name}
use Rattle.resolved_names.specs.Numbered.{number_name}
use Rattle.c_semantics.specs.Meaning.State.{Var, find, write, keep}
use Rattle.c_semantics.specs.Meaning.SimpleStatements.{changed}
use Rattle.c_meaning.specs.declared.frame.Binding.{Binding}
use Rattle.c_meaning.specs.declared.place_table.PlaceTable.{PlaceTable}
use Rattle.c_meaning.specs.PlaceTables.{place_at}
use Rattle.c_meaning.specs.Frames.{variables, places, place_of, Hide, IsFrame}
use Rattle.c_meaning.proofs.PlaceTables.{entry_within}
use Rattle.c_meaning.specs.FileVariables.{first_of}
use Rattle.c_meaning.proofs.Numbers.{number_eq}
use Rattle.c_meaning.proofs.Variables.{found, number_written, at_last, set_last}

-- ---- the place of a name

first_here : (x : Name) (vs : List Var) (i : ℕ) (b : Bool) → (place_of x vs ≡ Some i → (i < length vs) × (first_of x vs ≡ Some (length vs - 1 - i))) → (if b then Some (length vs) else place_of x vs) ≡ Some i → (i < suc (length vs)) × ((if b then Some 0 else option_map suc (first_of x vs)) ≡ Some (suc (length vs) - 1 - i))
first_here x vs i true rest is = let same : length vs ≡ i = cc in (omega arith, ap Some (omega arith))
first_here x vs i false rest is =
    let within : i < length vs = (rest is).0 in
    let further : suc (length vs - 1 - i) ≡ suc (length vs) - 1 - i = omega arith in
    (omega arith, ap (option_map suc) (rest is).1 ∙ ap Some further)

place_first : (x : Name) (vs : List Var) (i : ℕ) → place_of x vs ≡ Some i → (i < length vs) × (first_of x vs ≡ Some (length vs - 1 - i))
place_first x [] i is = absurd (cc)
place_first x (v ∷ vs) i is = first_here x vs i (bytes_eq x v.name) (place_first x vs i) is

no_place_here : (x : Name) (vs : List Var) (b : Bool) → (place_of x vs ≡ None → first_of x vs ≡ None) → (if b then Some (length vs) else place_of x vs) ≡ None → (if b then Some 0 else option_map suc (first_of x vs)) ≡ None
no_place_here x vs true rest is = absurd (cc)
no_place_here x vs false rest is = ap (option_map suc) (rest is)

pub no_place : (x : Name) (vs : List Var) → place_of x vs ≡ None → first_of x vs ≡ None
no_place x [] is = refl
no_place x (v ∷ vs) is = no_place_here x vs (bytes_eq x v.name) (no_place x vs) is

-- the variable there, of variables whose innermost is the last
module _ (x : Name) (vs : List Var) (i : ℕ) (is : place_of x (reverse vs) ≡ Some i) where
  -- where it stands from the innermost on
  k : ℕ
  k = length (reverse vs) - 1 - i

  pub place_within : i < length vs
  place_within = omega (arith, (place_first x (reverse vs) i is).0, length-reverse vs)

  is_first : first_of x (reverse vs) ≡ Some k
  unfolding k
  is_first = (place_first x (reverse vs) i is).1

  from_last : i + k + 1 ≡ length vs
  unfolding k
  from_last = omega (arith, (place_first x (reverse vs) i is).0, length-reverse vs)

  module _ (v : Var) (at : v ≡ slice_index_or vs i v) where
    at_first : v ≡ slice_index_or (reverse vs) k v
    at_first = at_last vs i k v from_last at

    pub place_found : find x (reverse vs) ≡ Some v.cell
    place_found = found x (reverse vs) k is_first v at_first

    pub place_written : (j : ℕ) (z : ℤ) → reverse (set vs i (record { name = v.name; cell = changed (Some v.cell) j z })) ≡ write x (changed (find x (reverse vs)) j z) (reverse vs)
    place_written j z = set_last vs i k (record { name = v.name; cell = changed (Some v.cell) j z }) from_last ∙ number_written x (reverse vs) j z k is_first v at_first

    pub frame_set : (w : Var) → w.name ≡ v.name → (ps : List (Option ℕ)) (t : PlaceTable) → IsFrame (reverse vs) ps t → IsFrame (reverse (set vs i w)) ps t
    frame_set w same ps t h =
        subst (λ us. IsFrame us ps t) (sym (set_last vs i k w from_last)) (frame_with (reverse vs) k v w at_first same ps t h)
      where
        place_set : (y : Name) (us : List Var) (k : ℕ) (u w : Var) → u ≡ slice_index_or us k u → w.name ≡ u.name → place_of y (set us k w) ≡ place_of y us
        place_set y [] k u w at same = refl
        place_set y (v ∷ us) zero u w at same = ap (λ (n : Name). if bytes_eq y n then Some (length us) else place_of y us) (same ∙ ap (λ z. z.name) at)
        place_set y (v ∷ us) (suc k) u w at same =
            ap (λ (n : ℕ). if bytes_eq y v.name then Some n else place_of y (set us k w)) (length-set us k w)
            ∙ ap (λ (o : Option ℕ). if bytes_eq y v.name then Some (length us) else o) (place_set y us k u w at same)

        hide_set : (us : List Var) (k : ℕ) (u w : Var) → u ≡ slice_index_or us k u → w.name ≡ u.name → (ps : List (Option ℕ)) → Hide us ps → Hide (set us k w) ps
        hide_set [] k u w at same ps h = h
        hide_set (v ∷ us) k u w at same [] h = absurd h
        hide_set (v ∷ us) zero u w at same (p ∷ ps) h = (h.0 ∙ ap (λ (n : Name). place_of n us) (sym (same ∙ ap (λ z. z.name) at)), h.1)
        hide_set (v ∷ us) (suc k) u w at same (p ∷ ps) h = (h.0 ∙ sym (place_set v.name us k u w at same), hide_set us k u w at same ps h.1)

        frame_with : (us : List Var) (k : ℕ) (u w : Var) → u ≡ slice_index_or us k u → w.name ≡ u.name → (ps : List (Option ℕ)) (t : PlaceTable) → IsFrame us ps t → IsFrame (set us k w) ps t
        frame_with us k u w at same ps t h = record {
          hidden = hide_set us k u w at same ps h.hidden;
          innermost = λ n. h.innermost n ∙ sym (place_set (number_name n) us k u w at same);
        }

-- ---- a binding

module _ (bs : List Binding) (i : ℕ) (b : Binding) (at : b ≡ slice_index_or bs i b) where
  pub variable_at : b.variable ≡ slice_index_or (variables bs) i b.variable
  variable_at = ap (λ (c : Binding). c.variable) at ∙ sym (get_or-map (λ (c : Binding). c.variable) bs i b)

  -- with another variable, it hides the same place
  module _ (v : Var) where
    pub variables_set : variables (set bs i (record b { variable = v })) ≡ set (variables bs) i v
    variables_set = map-set (λ (c : Binding). c.variable) bs i (record b { variable = v })

    pub places_set : places (set bs i (record b { variable = v })) ≡ places bs
    places_set = map-set_same (λ (c : Binding). c.hidden) bs i (record b { variable = v }) b (ap (λ (c : Binding). c.hidden) at)

-- ---- one variable less

-- the last of the variables stands first, the other way round
pub last_first : {A : Type 0} (vs us : List A) (v : A) → vs ≡ us ++ v ∷ [] → reverse vs ≡ v ∷ reverse us
last_first vs us v is = ap reverse is ∙ reverse-append us (v ∷ [])

pub frame_last : (bs cs : List Binding) (b : Binding) (t : PlaceTable) → bs ≡ cs ++ b ∷ [] → IsFrame (reverse (variables bs)) (reverse (places bs)) t → IsFrame (b.variable ∷ reverse (variables cs)) (b.hidden ∷ reverse (places cs)) t
frame_last bs cs b t is h =
    let vs : variables bs ≡ variables cs ++ b.variable ∷ [] = ap variables is ∙ map-append (λ (c : Binding). c.variable) cs (b ∷ []) in
    let ps : places bs ≡ places cs ++ b.hidden ∷ [] = ap places is ∙ map-append (λ (c : Binding). c.hidden) cs (b ∷ []) in
    subst (λ ws. IsFrame ws (b.hidden ∷ reverse (places cs)) t) (last_first (variables bs) (variables cs) b.variable vs)
    (subst (λ ws. IsFrame (reverse (variables bs)) ws t) (last_first (places bs) (places cs) b.hidden ps) h)

-- the table reaches as far as the number of the innermost variable
module _ (vs : List Var) (ps : List (Option ℕ)) (t : PlaceTable) (v : Var) (k : ℕ) (named : number_name k ≡ v.name) where
  itself : bytes_eq (number_name k) v.name ≡ nat_eq k k
  itself = ap (bytes_eq (number_name k)) (sym named) ∙ number_eq k k

  placed : (b : Bool) (o : Option ℕ) → nat_eq k k ≡ b → o ≡ (if b then Some (length vs) else place_of (number_name k) vs) → (i : ℕ) × (o ≡ Some i)
  placed true o same is = (length vs, is)
  placed false o same is = absurd (grind arith)

  pub frame_room : (p : Option ℕ) → IsFrame (v ∷ vs) (p ∷ ps) t → k < length t.places.items
  frame_room p h =
      let here : place_at t k ≡ (if nat_eq k k then Some (length vs) else place_of (number_name k) vs) = h.innermost k ∙ ap (λ (b : Bool). if b then Some (length vs) else place_of (number_name k) vs) itself in
      let q = placed (nat_eq k k) (place_at t k) refl here in
      entry_within t.places.items k q.0 q.1

-- ---- the variables that are kept

pub keep_less : (k : ℕ) (vs : List Var) → k < length vs → keep k (drop 1 vs) ≡ keep k vs
keep_less k vs h =
    let over : 1 + (length (drop 1 vs) - k) ≡ length vs - k = omega (arith, length-drop 1 vs) in
    drop-drop (length (drop 1 vs) - k) 1 vs ∙ ap (λ n. drop n vs) over

pub keep_all : (k : ℕ) (vs : List Var) → length vs ≤ k → keep k vs ≡ vs
keep_all k vs h = let none : length vs - k ≡ 0 = omega arith in ap (λ n. drop n vs) none

pub keep_none : (vs : List Var) → keep 0 vs ≡ []
keep_none vs = drop_all (length vs - 0) vs (omega arith)

pub ruleset kept = (keep_less, keep_all, keep_none)
