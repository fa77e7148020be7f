-- A target with subscripts is no variable.
use Rattle.std.proofs.Common.{◌≡◌, ◌∙◌, sym, ap, refl, List, [], ◌∷◌, Option, Some, None, Bool, true, false}
use Rattle.std.proofs.lemmas.Bool.{false≢true, true≢false}
use Rattle.std.specs.Prelude.{bytes_eq, ℤ, pos, negsuc, if◌then◌else◌}
use Rattle.c_tree.specs.Bare.{Name, Expr, no_exprs, more_exprs, Target, target, set, step, a_stmt}
use Rattle.c_tree.specs.BareOf.{bare_exprs}
use Rattle.c_tree.specs.declared.tree.Expr as e
use Rattle.c_tree.specs.declared.tree.SetOp.{SetOp}
use Rattle.c_tree.specs.declared.tree.SetOp.TheVariants.{Plain, Add, Sub, Mul, Div, Rem}
use Rattle.c_semantics.specs.Meaning.Expressions.{Define, constant, where_true}
use Rattle.c_semantics.specs.Loops.CanonicalForm.{Init, init, increment, added, negated}
use Rattle.canonical_nests.specs.Canonical.{is_scalar, small}

pub no_subscripts : (x y : Name) (es : List e.Expr) → es ≡ [] → is_scalar x (target y (bare_exprs es)) ≡ bytes_eq x y
no_subscripts x y es none = ap (λ fs. is_scalar x (target y (bare_exprs fs))) none

pub some_subscripts : (x y : Name) (es : List e.Expr) → (es ≡ [] → ⊥) → is_scalar x (target y (bare_exprs es)) ≡ false
some_subscripts x y [] some = absurd (some refl)
some_subscripts x y (e ∷ es) some = refl

pub init_of_variable : (y : Name) (es : List e.Expr) (v : Expr) → es ≡ [] → init (a_stmt (set (target y (bare_exprs es)) Plain v)) ≡ Some (record { var = y; ty = None; lb = v })
init_of_variable y es v none = ap (λ fs. init (a_stmt (set (target y (bare_exprs fs)) Plain v))) none

pub init_of_element : (y : Name) (es : List e.Expr) (v : Expr) → (es ≡ [] → ⊥) → init (a_stmt (set (target y (bare_exprs es)) Plain v)) ≡ None
init_of_element y [] v some = absurd (some refl)
init_of_element y (e ∷ es) v some = refl

where_is : (b : Bool) (o : Option ℤ) → b ≡ true → where_true b o ≡ o
where_is b o is = ap (λ c. where_true c o) is

where_not : (b : Bool) (o : Option ℤ) → b ≡ false → where_true b o ≡ None
where_not b o is = ap (λ c. where_true c o) is

module _ (ds : List Define) (x : Name) where
  pub step_of : (t : Target) (up : Bool) → is_scalar x t ≡ true → increment ds x (a_stmt (step t up)) ≡ Some (if up then pos 1 else negsuc 0)
  step_of (target y no_exprs) up is = where_is (bytes_eq x y) _ is
  step_of (target y (more_exprs e es)) up is = absurd (false≢true is)

  pub step_of_other : (t : Target) (up : Bool) → is_scalar x t ≡ false → increment ds x (a_stmt (step t up)) ≡ None
  step_of_other (target y no_exprs) up is = where_not (bytes_eq x y) _ is
  step_of_other (target y (more_exprs e es)) up is = refl

  pub set_of_other : (t : Target) (o : SetOp) (v : Expr) → is_scalar x t ≡ false → increment ds x (a_stmt (set t o v)) ≡ None
  set_of_other (target y no_exprs) Add v is = where_not (bytes_eq x y) _ is
  set_of_other (target y no_exprs) Sub v is = where_not (bytes_eq x y) _ is
  set_of_other (target y no_exprs) Plain v is = where_not (bytes_eq x y) _ is
  set_of_other (target y no_exprs) Mul v is = refl
  set_of_other (target y no_exprs) Div v is = refl
  set_of_other (target y no_exprs) Rem v is = refl
  set_of_other (target y (more_exprs e es)) o v is = refl

  pub add_of : (t : Target) (v : Expr) → is_scalar x t ≡ true → increment ds x (a_stmt (set t Add v)) ≡ constant ds v
  add_of (target y no_exprs) v is = where_is (bytes_eq x y) _ is
  add_of (target y (more_exprs e es)) v is = absurd (false≢true is)

  pub sub_of : (t : Target) (v : Expr) → is_scalar x t ≡ true → increment ds x (a_stmt (set t Sub v)) ≡ negated (constant ds v)
  sub_of (target y no_exprs) v is = where_is (bytes_eq x y) _ is
  sub_of (target y (more_exprs e es)) v is = absurd (false≢true is)

  pub plain_of : (t : Target) (v : Expr) → is_scalar x t ≡ true → increment ds x (a_stmt (set t Plain v)) ≡ added ds x v
  plain_of (target y no_exprs) v is = where_is (bytes_eq x y) _ is
  plain_of (target y (more_exprs e es)) v is = absurd (false≢true is)

pub ruleset targets = (no_subscripts, some_subscripts, init_of_variable, init_of_element, step_of, step_of_other, set_of_other, add_of, sub_of, plain_of)
