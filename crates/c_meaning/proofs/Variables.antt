-- The place of a name in a list of variables: what the name means, and what a write of it changes.
use Rattle.std.proofs.Common.{◌≡◌, ◌∙◌, sym, ap, refl, ℕ, zero, suc, ◌+◌, ◌-◌, ◌<◌, ◌≤◌, Bool, true, false, List, [], ◌∷◌, ◌++◌, length, reverse, set, arith}
use Rattle.std.proofs.lemmas.List.{reverse-append, length-reverse, get_or-reverse, set-append_left, set-append_right}
use Rattle.std.specs.Prelude.{bytes_eq, if◌then◌else◌, slice_index_or, is_some, Option, Some, None, ℤ}
use Rattle.std.specs.Option.{option_map}
use Rattle.c_tree.specs.Bare.{Name}
use Rattle.c_semantics.specs.Meaning.State.{Cell, Var, State, find, write, write_at, look, store, or_else, with_frame, with_globals}
use Rattle.c_semantics.specs.Meaning.SimpleStatements.{changed}
use Rattle.c_meaning.specs.FileVariables.{first_of}

-- a variable after a number was stored in it
abbrev pub with_number : Var → ℕ → ℤ → Var
with_number v k z = record { name = v.name; cell = changed (Some v.cell) k z }

-- ---- the first of a name, by where it stands

zero_here : (b : Bool) (o : Option ℕ) → (if b then Some 0 else option_map suc o) ≡ Some 0 → b ≡ true
zero_here true o is = refl
zero_here false None is = absurd (cc)
zero_here false (Some j) is = absurd (let after : suc j ≡ 0 = cc in omega arith)

suc_here : (b : Bool) (o : Option ℕ) (i : ℕ) → (if b then Some 0 else option_map suc o) ≡ Some (suc i) → (b ≡ false) × (o ≡ Some i)
suc_here true o i is = absurd (let after : 0 ≡ suc i = cc in omega arith)
suc_here false None i is = absurd (cc)
suc_here false (Some j) i is = (refl, ap Some (let after : suc j ≡ suc i = cc in omega arith))

none_here : (b : Bool) (o : Option ℕ) → (if b then Some 0 else option_map suc o) ≡ None → (b ≡ false) × (o ≡ None)
none_here true o is = absurd (cc)
none_here false None is = (refl, refl)
none_here false (Some j) is = absurd (cc)

module _ (x : Name) (w : Var) (vs : List Var) where
  first_zero : first_of x (w ∷ vs) ≡ Some 0 → bytes_eq x w.name ≡ true
  first_zero is = zero_here (bytes_eq x w.name) (first_of x vs) is

  first_suc : (i : ℕ) → first_of x (w ∷ vs) ≡ Some (suc i) → (bytes_eq x w.name ≡ false) × (first_of x vs ≡ Some i)
  first_suc i is = suc_here (bytes_eq x w.name) (first_of x vs) i is

  first_none : first_of x (w ∷ vs) ≡ None → (bytes_eq x w.name ≡ false) × (first_of x vs ≡ None)
  first_none is = none_here (bytes_eq x w.name) (first_of x vs) is

pub first_within : (x : Name) (vs : List Var) (i : ℕ) → first_of x vs ≡ Some i → i < length vs
first_within x [] i is = absurd (cc)
first_within x (w ∷ vs) zero is = omega arith
first_within x (w ∷ vs) (suc i) is = omega (arith, first_within x vs i (first_suc x w vs i is).1)

-- ---- what is found there, and what a write of it changes

pub found : (x : Name) (vs : List Var) (i : ℕ) → first_of x vs ≡ Some i → (v : Var) → v ≡ slice_index_or vs i v → find x vs ≡ Some v.cell
found x [] i is v at = absurd (cc)
found x (w ∷ vs) zero is v at = ap (λ b. if b then Some w.cell else find x vs) (first_zero x w vs is) ∙ ap (λ u. Some u.cell) (sym at)
found x (w ∷ vs) (suc i) is v at =
    let more = first_suc x w vs i is in
    ap (λ b. if b then Some w.cell else find x vs) more.0 ∙ found x vs i more.1 v at

pub written : (x : Name) (c : Cell) (vs : List Var) (i : ℕ) → first_of x vs ≡ Some i → (v : Var) → v ≡ slice_index_or vs i v → write x c vs ≡ set vs i (record { name = v.name; cell = c })
written x c [] i is v at = absurd (cc)
written x c (w ∷ vs) zero is v at =
    ap (λ b. if b then record { name = w.name; cell = c } ∷ vs else w ∷ write x c vs) (first_zero x w vs is)
    ∙ ap {B = List Var} (λ u. record { name = u.name; cell = c } ∷ vs) (sym at)
written x c (w ∷ vs) (suc i) is v at =
    let more = first_suc x w vs i is in
    ap (λ b. if b then record { name = w.name; cell = c } ∷ vs else w ∷ write x c vs) more.0
    ∙ ap (λ us. w ∷ us) (written x c vs i more.1 v at)

pub missing : (x : Name) (vs : List Var) → first_of x vs ≡ None → find x vs ≡ None
missing x [] is = refl
missing x (w ∷ vs) is =
    let more = first_none x w vs is in
    ap (λ b. if b then Some w.cell else find x vs) more.0 ∙ missing x vs more.1

unwritten_here : (x : Name) (c : Cell) (w : Var) (vs : List Var) (b : Bool) → (is_some (find x vs) ≡ false → write x c vs ≡ vs) → is_some (if b then Some w.cell else find x vs) ≡ false → (if b then record { name = w.name; cell = c } ∷ vs else w ∷ write x c vs) ≡ w ∷ vs
unwritten_here x c w vs true rest nowhere = absurd (cc)
unwritten_here x c w vs false rest nowhere = ap (λ us. w ∷ us) (rest nowhere)

pub unwritten : (x : Name) (c : Cell) (vs : List Var) → is_some (find x vs) ≡ false → write x c vs ≡ vs
unwritten x c [] nowhere = refl
unwritten x c (w ∷ vs) nowhere = unwritten_here x c w vs (bytes_eq x w.name) (unwritten x c vs) nowhere

-- a number stored in the variable, where there is one
module _ (x : Name) (vs : List Var) (k : ℕ) (z : ℤ) where
  pub number_written : (i : ℕ) → first_of x vs ≡ Some i → (v : Var) → v ≡ slice_index_or vs i v → set vs i (record { name = v.name; cell = changed (Some v.cell) k z }) ≡ write x (changed (find x vs) k z) vs
  number_written i is v at = sym (written x (changed (Some v.cell) k z) vs i is v at) ∙ ap (λ o. write x (changed o k z) vs) (sym (found x vs i is v at))

  pub no_number_written : first_of x vs ≡ None → vs ≡ write x (changed (find x vs) k z) vs
  no_number_written is = sym (unwritten x (changed (find x vs) k z) vs (ap is_some (missing x vs is)))

-- ---- a list whose innermost variable stands last

pub at_last : (vs : List Var) (i k : ℕ) (v : Var) → i + k + 1 ≡ length vs → v ≡ slice_index_or vs i v → v ≡ slice_index_or (reverse vs) k v
at_last vs i k v h at =
    let within : k < length vs = omega arith in
    let place : length vs - 1 - k ≡ i = omega arith in
    at ∙ (ap (λ j. slice_index_or vs j v) (sym place) ∙ sym (get_or-reverse vs k v within))

reverse_more : (w : Var) (vs : List Var) → reverse (w ∷ vs) ≡ reverse vs ++ w ∷ []
reverse_more w vs = reverse-append (w ∷ []) vs

pub set_last : (vs : List Var) (i k : ℕ) (v : Var) → i + k + 1 ≡ length vs → reverse (set vs i v) ≡ set (reverse vs) k v
set_last [] i k v h = absurd (omega arith)
set_last (w ∷ vs) zero k v h =
    let long : length (reverse vs) ≡ k = omega (arith, length-reverse vs) in
    let ends : k ≤ k = omega arith in
    let same : k - k ≡ 0 = omega arith in
    reverse_more v vs
    ∙ (sym (set-append_right (reverse vs) (w ∷ []) k k v long ends ∙ ap (λ j. reverse vs ++ set (w ∷ []) j v) same)
    ∙ ap (λ us. set us k v) (sym (reverse_more w vs)))
set_last (w ∷ vs) (suc i) k v h =
    let within : k < length (reverse vs) = omega (arith, length-reverse vs) in
    reverse_more w (set vs i v)
    ∙ (ap (λ us. us ++ w ∷ []) (set_last vs i k v (omega arith))
    ∙ (sym (set-append_left (reverse vs) (w ∷ []) k v within)
    ∙ ap (λ us. set us k v) (sym (reverse_more w vs))))

-- ---- in a state

module _ (s : State) (x : Name) where
  pub look_frame : (c : Cell) → find x s.frame ≡ Some c → look s x ≡ Some c
  look_frame c e = ap (λ o. or_else o (find x s.globals)) e

  pub look_globals : (o : Option Cell) → find x s.frame ≡ None → find x s.globals ≡ o → look s x ≡ o
  look_globals o e f = ap (λ p. or_else p (find x s.globals)) e ∙ f

  -- a write goes where the name was found
  pub store_frame : (k : ℕ) (z : ℤ) → is_some (find x s.frame) ≡ true → store x (changed (look s x) k z) s ≡ with_frame (write x (changed (find x s.frame) k z) s.frame) s
  store_frame k z there = by (find x s.frame) there
    where
      by : (o : Option Cell) → is_some o ≡ true → write_at o x (changed (or_else o (find x s.globals)) k z) s ≡ with_frame (write x (changed o k z) s.frame) s
      by None there = absurd (cc)
      by (Some c) there = refl

  pub store_globals : (k : ℕ) (z : ℤ) → is_some (find x s.frame) ≡ false → store x (changed (look s x) k z) s ≡ with_globals (write x (changed (find x s.globals) k z) s.globals) s
  store_globals k z nowhere = by (find x s.frame) nowhere
    where
      by : (o : Option Cell) → is_some o ≡ false → write_at o x (changed (or_else o (find x s.globals)) k z) s ≡ with_globals (write x (changed (find x s.globals) k z) s.globals) s
      by None nowhere = refl
      by (Some c) nowhere = absurd (cc)

pub ruleset places = (look_frame, look_globals)
