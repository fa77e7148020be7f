-- Fresh variables above a state: what is found there, and the values of generated expressions.
use Rattle.std.proofs.Common.{◌≡◌, refl, sym, ap, ◌∙◌, subst, ℕ, ◌+◌, ◌-◌, ◌*◌, ◌^◌, ◌≤◌, ◌<◌, List, [], ◌∷◌, ◌++◌, length, drop, Some, None, Ok, Bool, true, false, pos, ◌-ℤ◌, arith}
use Rattle.std.specs.Prelude.{bytes_eq, nat_lt, if◌then◌else◌}
use Rattle.std.proofs.lemmas.Bool.{lt-ltb}
use Rattle.std.proofs.lemmas.Int.{ints}
use Rattle.std.proofs.lemmas.List.{length-append}
use Rattle.std.proofs.lemmas.Slice.Eq.{bytes_eq-Decides}
use Rattle.c_tree.specs.Bare.{Name, Expr, num, read, bin}
use Rattle.c_tree.specs.declared.tree.Ty.TheVariants.{Long}
use Rattle.c_tree.specs.declared.tree.BinOp.TheVariants.{Add, Sub, Mul}
use Rattle.c_semantics.specs.Meaning.State.{Cell, scalar, Var, State, find, or_else, look, keep}
use Rattle.c_tree.specs.declared.arithmetic.Trap.TheVariants.{Overflow, Narrow}
use Rattle.c_semantics.specs.Meaning.Expressions.{Define, type_of, name_type, scalar_value}
use Rattle.c_tree.specs.Arithmetic.{or_trap, convert, in_range}
use Rattle.c_semantics.specs.Laws.Apart.{Differ}
use Rattle.loop_normal.specs.Frames.{above, long, Agrees, AgreesBut}
use Rattle.loop_normal.specs.Denotes.{Value}

-- ---- lists of variables

pub same_name : (t : Name) → bytes_eq t t ≡ true
same_name t = (bytes_eq-Decides t t).1 refl

no_both : false ≡ true → ⊥
no_both e = subst (λ t. elim t as (λ y. Type 0) [ true ↦ ⊥ | false ↦ Unit {0} ]) e tt

pub differ_sym : (x y : Name) → Differ x y → Differ y x
differ_sym x y h = by (bytes_eq y x) refl
  where
    by : (t : Bool) → bytes_eq y x ≡ t → t ≡ false
    by true e = absurd (no_both (sym h ∙ (bytes_eq-Decides x y).1 (sym ((bytes_eq-Decides y x).0 e))))
    by false e = refl

pub find_append : (x : Name) (f l : List Var) → find x (f ++ l) ≡ or_else (find x f) (find x l)
find_append x [] l = refl
find_append x (v ∷ f) l = by (bytes_eq x v.name) (find_append x f l)
  where
    by : (t : Bool) → find x (f ++ l) ≡ or_else (find x f) (find x l) → (if t then Some v.cell else find x (f ++ l)) ≡ or_else (if t then Some v.cell else find x f) (find x l)
    by true h = refl
    by false h = h

pub agrees_same : (p : List Var) → Agrees p p
agrees_same p x c h = h

pub agrees_then : (p q f : List Var) → Agrees p q → Agrees q f → Agrees p f
agrees_then p q f h k x c e = k x c (h x c e)

-- a variable more in both
pub agrees_push : (v : Var) (p f : List Var) → Agrees p f → Agrees (v ∷ p) (v ∷ f)
agrees_push v p f h x c = by (bytes_eq x v.name)
  where
    by : (t : Bool) → (if t then Some v.cell else find x p) ≡ Some c → (if t then Some v.cell else find x f) ≡ Some c
    by true e = e
    by false e = h x c e

pub not_none : {A : Type 0} (a : A) → None ≡ Some a → ⊥
not_none {A} a e = subst (λ o. elim o as (λ x. Type 0) [ None ↦ Unit {0} | Some b ↦ ⊥ ]) e tt

-- a new variable hides nothing
pub agrees_new : (v : Var) (p f : List Var) → find v.name p ≡ None → Agrees p f → Agrees p (v ∷ f)
agrees_new v p f new h x c e = by (bytes_eq x v.name) refl
  where
    by : (t : Bool) → bytes_eq x v.name ≡ t → (if t then Some v.cell else find x f) ≡ Some c
    by true q = absurd (not_none c (sym new ∙ subst (λ y. find y p ≡ Some c) ((bytes_eq-Decides x v.name).0 q) e))
    by false q = h x c e

pub found_top : (x : Name) (k : ℕ) (p : List Var) → find x (long x k ∷ p) ≡ Some (scalar Long (Some (pos k)))
found_top x k p = ap (λ t. if t then Some (scalar Long (Some (pos k))) else find x p) (same_name x)

-- what a frame has is seen above any state
pub look_found : (f : List Var) (s : State) (x : Name) (c : Cell) → find x f ≡ Some c → look (above f s) x ≡ Some c
look_found f s x c e = ap (λ o. or_else o (find x s.globals)) (find_append x f s.frame ∙ ap (λ o. or_else o (find x s.frame)) e)

pub agrees_but : (x : Name) (p f : List Var) → Agrees p f → AgreesBut x p f
agrees_but x p f h y c d e = h y c e

pub agrees_but_then : (x : Name) (p q f : List Var) → Agrees p q → AgreesBut x q f → AgreesBut x p f
agrees_but_then x p q f h k y c d e = k y c d (h y c e)

-- a variable of that name on top
pub agrees_but_top : (v : Var) (p f : List Var) → Agrees p f → AgreesBut v.name p (v ∷ f)
agrees_but_top v p f h y c d e = ap (λ t. if t then Some v.cell else find y f) d ∙ h y c e

pub agrees_but_under : (v : Var) (p f : List Var) → AgreesBut v.name (v ∷ p) f → AgreesBut v.name p f
agrees_but_under v p f h y c d e = h y c d (ap (λ t. if t then Some v.cell else find y p) d ∙ e)

pub found_but : (x y : Name) (c : Cell) (p f : List Var) → AgreesBut x p f → Differ y x → find y p ≡ Some c → find y f ≡ Some c
found_but x y c p f h d e = h y c d e

drop_length : (g m : List Var) → drop (length g) (g ++ m) ≡ m
drop_length [] m = refl
drop_length (v ∷ g) m = drop_length g m

-- what stands above a list of that length is dropped
pub keep_append : (k : ℕ) (g m : List Var) → length m ≡ k → keep k (g ++ m) ≡ m
keep_append k g m e = let d : length (g ++ m) - k ≡ length g = omega (arith, length-append g m, e) in ap (λ i. drop i (g ++ m)) d ∙ drop_length g m

-- ---- values

lt_true : (k : ℕ) → k < 2 ^ 63 → nat_lt k (2 ^ 63) ≡ true
lt_true k h = lt-ltb k (2 ^ 63) h

pub converts : (k : ℕ) → k < 2 ^ 63 → convert Long (pos k) ≡ Ok (pos k)
converts k h = ap (λ b. or_trap b Narrow (pos k)) (lt_true k h)

pub ranged : (k : ℕ) → k < 2 ^ 63 → in_range Long (pos k) ≡ Ok (pos k)
ranged k h = ap (λ b. or_trap b Overflow (pos k)) (lt_true k h)

module _ (ds : List Define) (F : List Var → Type 0) where
  pub value_num : (k : ℕ) → k < 2 ^ 63 → Value ds F (num k Long) k
  value_num k h = (h, λ f s a. (refl, refl))

  -- a variable that each frame of the kind has
  pub value_read : (x : Name) (k : ℕ) → k < 2 ^ 63 → ((f : List Var) → F f → find x f ≡ Some (scalar Long (Some (pos k)))) → Value ds F (read x) k
  value_read x k h e =
      (h, λ f s a. let l = look_found f s x _ (e f a) in (ap (λ o. scalar_value o ds x) l, ap (λ o. name_type o ds x) l))

  -- a static type that is `long long`
  abbrev pub IsLong : Expr → Type 0
  IsLong e = (f : List Var) (s : State) → F f → type_of ds (above f s) e ≡ Long

  pub long_value : (e : Expr) (k : ℕ) → Value ds F e k → IsLong e
  long_value e k v f s g = (v.1 f s g).1

  pub long_add : (a b : Expr) → IsLong a → IsLong (bin Add a b)
  long_add a b h f s g = rw (h f s g) refl

  pub value_add : (a b : Expr) (i j : ℕ) → Value ds F a i → Value ds F b j → i + j < 2 ^ 63 → Value ds F (bin Add a b) (i + j)
  value_add a b i j x y h = (h, λ f s g. let u = x.1 f s g in let v = y.1 f s g in (rw (u.0, v.0, u.1) (ranged (i + j) h), rw (u.1) refl))

  pub value_mul : (a b : Expr) (i j : ℕ) → Value ds F a i → Value ds F b j → i * j < 2 ^ 63 → Value ds F (bin Mul a b) (i * j)
  value_mul a b i j x y h = (h, λ f s g. let u = x.1 f s g in let v = y.1 f s g in (rw (u.0, v.0, u.1) (ranged (i * j) h), rw (u.1) refl))

  pub value_sub : (a b : Expr) (i j : ℕ) → Value ds F a i → Value ds F b j → j ≤ i → Value ds F (bin Sub a b) (i - j)
  value_sub a b i j x y h =
      let l : i - j < 2 ^ 63 = omega (arith, x.0) in
      let e : pos i -ℤ pos j ≡ pos (i - j) = omega (arith, ints, h) in
      (l, λ f s g. let u = x.1 f s g in let v = y.1 f s g in (rw (u.0, v.0, u.1, e) (ranged (i - j) l), rw (u.1) refl))

-- a value stays in fewer frames
pub value_in : (ds : List Define) (F G : List Var → Type 0) (e : Expr) (k : ℕ) → ((f : List Var) → G f → F f) → Value ds F e k → Value ds G e k
value_in ds F G e k h v = (v.0, λ f s a. v.1 f s (h f a))

-- a name that isn't declared isn't found
pub find_other : (x : Name) (v : Var) (p : List Var) → Differ x v.name → find x p ≡ None → find x (v ∷ p) ≡ None
find_other x v p h e = ap (λ t. if t then Some v.cell else find x p) h ∙ e
