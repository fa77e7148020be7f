-- A table of variables by name: what a look-up finds, and what a new variable and one that is taken back change.
use Rattle.std.proofs.Common.{◌≡◌, ◌∙◌, sym, ap, refl, subst, ℕ, zero, suc, ◌-◌, ◌+◌, ◌≤◌, Bool, true, false, cond, if◌then◌else◌, List, [], ◌∷◌, ◌++◌, length, drop, reverse, map, arith, Option, Some, None, Result, Ok, Err, OnOk, OnErr}
use Rattle.std.proofs.lemmas.List.{reverse-append, length-reverse}
use Rattle.std.specs.Prelude.{bytes_eq}
use Rattle.std.specs.Cmp.Lexicographic.{nat_list_eq_equiv, bytes_decides}
use Rattle.indexmap.specs.IndexMap.{get}
use Rattle.c_tree.specs.Bare.{Name}
use Rattle.c_tree.specs.declared.tree.Ty.{Ty}
use Rattle.c_semantics.specs.Meaning.State.{scalar, Cell, Var, find, keep}
use Rattle.loop_counts.specs.declared.variables.Variable.{Variable}
use Rattle.loop_counts.specs.declared.variables.Variables.TheInside.{Inside}
use Rattle.loop_counts.specs.Variables.{variable_of, variables_of, cell_of, or_nothing, HidesEach, IsTyped}
use Rattle.loop_counts.proofs.Lookups.{map_length, map_reverse_more}

-- ---- what a look-up finds

pub type_some : (o : Option (Option Ty)) (t : Option Ty) (c : Option Cell) → cell_of (or_nothing o) ≡ c → o ≡ Some t → cell_of t ≡ c
type_some o t c h e = sym (ap (λ p. cell_of (or_nothing p)) e) ∙ h

pub type_none : (o : Option (Option Ty)) (c : Option Cell) → cell_of (or_nothing o) ≡ c → o ≡ None → c ≡ None
type_none o c h e = sym h ∙ ap (λ p. cell_of (or_nothing p)) e

pub ruleset lookups = (type_some, type_none)

pub variables_length : (vs : List Variable) → length (map variable_of (reverse vs)) ≡ length vs
variables_length vs = omega (arith, map_length variable_of (reverse vs), length-reverse vs)

pub ruleset lengths = (variables_length)

-- ---- each name has its type

abbrev pub Types : (Name → Option (Option Ty)) → List Variable → Type 0
Types g vs = (x : Name) → cell_of (or_nothing (g x)) ≡ find x (map variable_of (reverse vs))

one_name : (x y : Name) → bytes_eq x y ≡ true → x ≡ y
one_name x y h = (bytes_decides x y).0 h

not_both : (c : Cell) (o : Option Cell) → o ≡ None → o ≡ Some c → ⊥
not_both c None e f = absurd (cc)
not_both c (Some d) e f = absurd (cc)

module _ (g g' : Name → Option (Option Ty)) (vs : List Variable) (v : Variable) where
  shown : (q : Name) → find q (map variable_of (reverse (vs ++ v ∷ []))) ≡ (if bytes_eq v.name q then Some (scalar v.ty None) else find q (map variable_of (reverse vs)))
  shown q =
      ap (find q) (map_reverse_more variable_of vs v)
      ∙ (λ i. if nat_list_eq_equiv.symm q v.name i then Some (scalar v.ty None) else find q (map variable_of (reverse vs)))

  types_added : Types g vs → ((q : Name) → g' q ≡ cond (bytes_eq v.name q) (Some (Some v.ty)) (g q)) → Types g' (vs ++ v ∷ [])
  types_added old new q = ap (λ o. cell_of (or_nothing o)) (new q) ∙ (by (bytes_eq v.name q) ∙ sym (shown q))
    where
      by : (t : Bool) → cell_of (or_nothing (cond t (Some (Some v.ty)) (g q))) ≡ (if t then Some (scalar v.ty None) else find q (map variable_of (reverse vs)))
      by true = refl
      by false = old q

  types_left : Types g (vs ++ v ∷ []) → cell_of v.hides ≡ find v.name (map variable_of (reverse vs)) → ((q : Name) → g' q ≡ cond (bytes_eq v.name q) (Some v.hides) (g q)) → Types g' vs
  types_left old hides new q = ap (λ o. cell_of (or_nothing o)) (new q) ∙ by (bytes_eq v.name q) refl
    where
      by : (t : Bool) → bytes_eq v.name q ≡ t → cell_of (or_nothing (cond t (Some v.hides) (g q))) ≡ find q (map variable_of (reverse vs))
      by true e = hides ∙ ap (λ x. find x (map variable_of (reverse vs))) (one_name v.name q e)
      by false e = old q ∙ (shown q ∙ ap {B = Option Cell} (λ t. if t then Some (scalar v.ty None) else find q (map variable_of (reverse vs))) e)

  -- what is declared has an entry
  is_there : Types g (vs ++ v ∷ []) → ¬ (g v.name ≡ None)
  is_there old none =
      not_both (scalar v.ty None) (find v.name (map variable_of (reverse (vs ++ v ∷ [])))) (sym (old v.name) ∙ ap (λ o. cell_of (or_nothing o)) none)
      (shown v.name ∙ ap {B = Option Cell} (λ t. if t then Some (scalar v.ty None) else find v.name (map variable_of (reverse vs))) (nat_list_eq_equiv.refl v.name))

  hidden_added : cell_of v.hides ≡ find v.name (map variable_of (reverse vs)) → HidesEach (reverse vs) → HidesEach (reverse (vs ++ v ∷ []))
  hidden_added h rest = subst HidesEach (sym (reverse-append vs (v ∷ []))) (h, rest)

  hidden_left : HidesEach (reverse (vs ++ v ∷ [])) → (cell_of v.hides ≡ find v.name (map variable_of (reverse vs))) × HidesEach (reverse vs)
  hidden_left h = subst HidesEach (reverse-append vs (v ∷ [])) h

-- ---- one variable more, or fewer

pub only_ok : {X E : Type 0} (U A : Type 0) (r : Result X E) → OnOk r U → OnErr r A → ¬ A → U
only_ok U A (Ok a) h k n = h
only_ok U A (Err e) h k n = absurd (n k)

abbrev type_in : Inside → Name → Option (Option Ty)
type_in t x = get bytes_eq t.types x

module _ (t t' : Inside) (v : Variable) where
  pub typed_added : t'.declared.items ≡ t.declared.items ++ v ∷ [] → IsTyped t → cell_of v.hides ≡ find v.name (variables_of t)
      → ((q : Name) → type_in t' q ≡ cond (bytes_eq v.name q) (Some (Some v.ty)) (type_in t q)) → IsTyped t'
  typed_added is old hides new = record {
    types = λ x. types_added (type_in t) (type_in t') t.declared.items v old.types new x ∙ ap (λ vs. find x (map variable_of (reverse vs))) (sym is);
    hidden = subst (λ vs. HidesEach (reverse vs)) (sym is) (hidden_added (type_in t) (type_in t') t.declared.items v hides old.hidden);
  }

  pub view_added : t'.declared.items ≡ t.declared.items ++ v ∷ [] → variables_of t' ≡ variable_of v ∷ variables_of t
  view_added is = ap (λ vs. map variable_of (reverse vs)) is ∙ map_reverse_more variable_of t.declared.items v

  before : t.declared.items ≡ t'.declared.items ++ v ∷ [] → IsTyped t → Types (type_in t) (t'.declared.items ++ v ∷ [])
  before is old x = old.types x ∙ ap (λ vs. find x (map variable_of (reverse vs))) is

  pub present : t.declared.items ≡ t'.declared.items ++ v ∷ [] → IsTyped t → ¬ (type_in t v.name ≡ None)
  present is old = is_there (type_in t) (type_in t') t'.declared.items v (before is old)

  pub typed_left : t.declared.items ≡ t'.declared.items ++ v ∷ [] → IsTyped t
      → ((q : Name) → type_in t' q ≡ cond (bytes_eq v.name q) (Some v.hides) (type_in t q)) → IsTyped t'
  typed_left is old new =
      let hid = hidden_left (type_in t) (type_in t') t'.declared.items v (subst (λ vs. HidesEach (reverse vs)) is old.hidden) in
      record { types = types_left (type_in t) (type_in t') t'.declared.items v (before is old) hid.0 new; hidden = hid.1 }

  pub view_left : t.declared.items ≡ t'.declared.items ++ v ∷ [] → variables_of t' ≡ drop 1 (variables_of t)
  view_left is = sym (ap (λ vs. drop 1 (map variable_of (reverse vs))) is ∙ ap (drop 1) (map_reverse_more variable_of t'.declared.items v))

-- ---- down to so many

pub kept_less : (k : ℕ) (vs : List Var) → k + 1 ≤ length vs → keep k (drop 1 vs) ≡ keep k vs
kept_less k [] le = refl
kept_less k (v ∷ vs) le = let e : length (v ∷ vs) - k ≡ suc (length vs - k) = omega (arith, le) in sym (ap (λ n. drop n (v ∷ vs)) e)

pub kept_all : (k : ℕ) (vs : List Var) → length vs ≤ k → keep k vs ≡ vs
kept_all k vs le = let e : length vs - k ≡ 0 = omega (arith, le) in ap (λ n. drop n vs) e

pub ruleset kept = (kept_less, kept_all)
