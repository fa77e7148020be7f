-- Each variable that the name rules let be used has a type in the scope.
use Rattle.std.proofs.Common.{◌≡◌, refl, sym, subst, ℕ, List, [], ◌∷◌, ◌++◌, map, Option, Some, None, Bool, true, false}
use Rattle.std.specs.Prelude.{bytes_eq, is_some, if◌then◌else◌}
use Rattle.std.specs.Cmp.Lexicographic.{bytes_decides}
use Rattle.c_tree.specs.Bare.{Name}
use Rattle.c_tree.specs.Placed.{Param, Stmt, decl, MaybeStmt, no_stmt, a_stmt, set, step}
use Rattle.c_tree.specs.Forget.{forget_param, forget_stmt, forget_maybe}
use Rattle.c_tree.specs.WellFormed.{MayEnd}
use Rattle.c_tree.specs.declared.name_rule.Declaration.{Declaration}
use Rattle.c_tree.specs.declared.name_rule.Entity.{Entity}
use Rattle.c_tree.specs.declared.name_rule.Entity.TheVariants.{Define, Variable, Function}
use Rattle.c_tree.specs.NameRules.BreachSets.{HasNone}
use Rattle.c_tree.specs.NameRules.Scopes as names
use Rattle.c_tree.specs.NameRules.Scopes.{Scope, meaning, is_taken, declare, add, a_scalar, inner, after_stmt, after_part}
use Rattle.c_tree.specs.NameRules.Breaches.{use_breaches, assign_breaches}
use Rattle.c_semantics.specs.Meaning.State.{Cell, scalar, State, find, or_else, push, with_globals}
use Rattle.c_semantics.specs.Structure.Skeleton.{scope_after, scope_in}
use Rattle.c_scopes.specs.Types.{type_held, type_seen, type_filed, with_params}

abbrev pub Sees : Scope → State → Type 0
Sees t s = (x : Name) (d : ℕ) → meaning t x ≡ Some (Variable d) → is_some (type_seen s x) ≡ true

-- ---- a scope in another

joined : (x : Name) (ds es : List Declaration) → names.find x (ds ++ es) ≡ names.or_else (names.find x ds) (names.find x es)
joined x [] es = refl
joined x (d ∷ ds) es = by (joined x ds es) (bytes_eq x d.name)
  where
    by : names.find x (ds ++ es) ≡ names.or_else (names.find x ds) (names.find x es) → (t : Bool) → (if t then Some d.entity else names.find x (ds ++ es)) ≡ names.or_else (if t then Some d.entity else names.find x ds) (names.find x es)
    by rest true = refl
    by rest false = rest

pub seen_inside : (t : Scope) (s : State) → Sees t s → Sees (inner t) s
seen_inside t s g x d h = g x d (subst (λ o. o ≡ Some (Variable d)) (joined x t.here t.outside) h)

-- ---- one more variable

pub seen_below : (t : Scope) (s : State) (x : Name) (c : Cell) → Sees t s → Sees t (push x c s)
seen_below t s x c g y d h = by (bytes_eq y x)
  where
    by : (b : Bool) → is_some (type_held (or_else (if b then Some c else find y s.frame) (find y s.globals))) ≡ true
    by true = refl
    by false = g y d h

-- a declared name is visible from now on
pub new_name : (t : Scope) (s : State) (x : Name) (e : Entity) (u : State)
    → ((y : Name) → is_some (type_seen s y) ≡ true → is_some (type_seen u y) ≡ true)
    → ((y : Name) (d : ℕ) → bytes_eq y x ≡ true → e ≡ Variable d → is_some (type_seen u y) ≡ true)
    → Sees t s → Sees (add x e t) u
new_name t s x e u more own g y d = by (bytes_eq y x) refl
  where
    by : (b : Bool) → bytes_eq y x ≡ b → names.or_else (if b then Some e else names.find y t.here) (names.find y t.outside) ≡ Some (Variable d) → is_some (type_seen u y) ≡ true
    by true is h = own y d is (cc)
    by false is h = more y (g y d h)

pub declared_name : (t : Scope) (s : State) (x : Name) (e : Entity) (u : State)
    → ((y : Name) → is_some (type_seen s y) ≡ true → is_some (type_seen u y) ≡ true)
    → ((y : Name) (d : ℕ) → bytes_eq y x ≡ true → e ≡ Variable d → is_some (type_seen u y) ≡ true)
    → Sees t s → Sees (declare x e t) u
declared_name t s x e u more own g = by (is_taken t x)
  where
    by : (b : Bool) → Sees (if b then t else add x e t) u
    by true = λ y d h. more y (g y d h)
    by false = new_name t s x e u more own g

pushed_more : (s : State) (x : Name) (c : Cell) (y : Name) → is_some (type_seen s y) ≡ true → is_some (type_seen (push x c s) y) ≡ true
pushed_more s x c y h = by (bytes_eq y x)
  where
    by : (b : Bool) → is_some (type_held (or_else (if b then Some c else find y s.frame) (find y s.globals))) ≡ true
    by true = refl
    by false = h

pushed_own : (s : State) (x : Name) (c : Cell) (y : Name) → bytes_eq y x ≡ true → is_some (type_seen (push x c s) y) ≡ true
pushed_own s x c y h = subst (λ b. is_some (type_held (or_else (if b then Some c else find y s.frame) (find y s.globals))) ≡ true) (sym h) refl

pub seen_declared : (t : Scope) (s : State) (x : Name) (c : Cell) → Sees t s → Sees (declare x a_scalar t) (push x c s)
seen_declared t s x c g = declared_name t s x a_scalar (push x c s) (pushed_more s x c) (λ y d h e. pushed_own s x c y h) g

pub seen_params : (t : Scope) (s : State) (ps : List Param) → Sees t s → Sees (names.with_params t ps) (with_params (map forget_param ps) s)
seen_params t s [] g = g
seen_params t s (p ∷ ps) g = seen_params (declare p.name a_scalar t) (push p.name (scalar p.ty None) s) ps (seen_declared t s p.name (scalar p.ty None) g)

-- ---- statements

pub seen_after : (t : Scope) (s : State) (a : Stmt) → Sees t s → Sees (after_stmt t a) (scope_after (forget_stmt a) s)
seen_after t s (decl T x at e sp) g = seen_declared t s x (scalar T None) g
seen_after t s _ g = g

pub seen_after_part : (t : Scope) (s : State) (i : MaybeStmt) → Sees t s → Sees (after_part t i) (scope_in (forget_maybe i) s)
seen_after_part t s no_stmt g = g
seen_after_part t s (a_stmt a) g = seen_after t s a g

-- the last part of a head declares nothing
pub next_adds_nothing : (t : Scope) (i : MaybeStmt) → MayEnd (forget_maybe i) → after_part t i ≡ t
next_adds_nothing t no_stmt h = refl
next_adds_nothing t (a_stmt (set x o e sp)) h = refl
next_adds_nothing t (a_stmt (step x up sp)) h = refl
next_adds_nothing t (a_stmt _) h = absurd h

pub seen_in_loop : (t : Scope) (s : State) (i : MaybeStmt) (next : MaybeStmt) → MayEnd (forget_maybe next) → Sees t s
    → Sees (inner (after_part (after_part (inner t) i) next)) (scope_in (forget_maybe i) s)
seen_in_loop t s i next ends g =
    let begun = after_part (inner t) i in
    seen_inside (after_part begun next) (scope_in (forget_maybe i) s)
    (subst (λ u. Sees u (scope_in (forget_maybe i) s)) (sym (next_adds_nothing begun next ends)) (seen_after_part (inner t) s i (seen_inside t s g)))

-- ---- what may be assigned is a variable

pub is_variable : (m : Option Entity) (subs at at' : ℕ) → HasNone (use_breaches m subs at) → HasNone (assign_breaches m at') → (d : ℕ) × (m ≡ Some (Variable d))
is_variable None subs at at' h k = absurd h
is_variable (Some (Define c)) subs at at' h k = absurd k
is_variable (Some (Variable d)) subs at at' h k = (d, refl)
is_variable (Some (Function n d)) subs at at' h k = absurd h

-- ---- items

pub filed_more : (s : State) (x : Name) (c : Cell) (y : Name) → is_some (type_seen s y) ≡ true → is_some (type_seen (with_globals (record { name = x; cell = c } ∷ s.globals) s) y) ≡ true
filed_more s x c y h = by (find y s.frame) (bytes_eq y x) h
  where
    by : (o : Option Cell) (b : Bool) → is_some (type_held (or_else o (find y s.globals))) ≡ true → is_some (type_held (or_else o (if b then Some c else find y s.globals))) ≡ true
    by None true k = refl
    by None false k = k
    by (Some d) b k = refl

pub filed_own : (s : State) (x : Name) (c : Cell) (y : Name) → bytes_eq y x ≡ true → is_some (type_seen (with_globals (record { name = x; cell = c } ∷ s.globals) s) y) ≡ true
filed_own s x c y h = by (find y s.frame)
  where
    by : (o : Option Cell) → is_some (type_held (or_else o (if bytes_eq y x then Some c else find y s.globals))) ≡ true
    by None = subst (λ b. is_some (type_held (if b then Some c else find y s.globals)) ≡ true) (sym h) refl
    by (Some d) = refl

-- a file-scope variable of that name is there
pub held_filed : (s : State) (x y : Name) → bytes_eq y x ≡ true → is_some (type_filed s x) ≡ true → is_some (type_seen s y) ≡ true
held_filed s x y same h = by (find y s.frame)
  where
    filed : is_some (type_held (find y s.globals)) ≡ true
    filed = subst (λ z. is_some (type_held (find z s.globals)) ≡ true) (sym ((bytes_decides y x).0 same)) h

    by : (o : Option Cell) → is_some (type_held (or_else o (find y s.globals))) ≡ true
    by None = filed
    by (Some c) = refl
