-- What is known at a place: the latest define of a name, found from the end.
use Rattle.std.proofs.Common.{◌≡◌, ◌∙◌, sym, ap, refl, ℕ, ◌+◌, ◌-◌, ◌<◌, ◌≤◌, Bool, true, false, List, [], ◌∷◌, ◌++◌, length, map, take, Option, Some, None, Result, Ok, Err, ℤ, arith}
use Rattle.std.proofs.lemmas.List.{take_all}
use Rattle.std.specs.Prelude.{slice_index_or, bytes_eq, if◌then◌else◌, is_some}
use Rattle.c_tree.specs.Bare.{Name, Top, Program}
use Rattle.resolved_names.specs.Numbered.{numbered_top, number_name}
use Rattle.c_tree.specs.declared.arithmetic.Trap.{Trap}
use Rattle.c_tree.specs.declared.arithmetic.Trap.TheVariants.{Unset}
use Rattle.c_tree.specs.declared.constant.TypedValue.{TypedValue}
use Rattle.c_tree.specs.Constants.{defined_as}
use Rattle.resolved_names.specs.declared.tree.Item.{Item}
use Rattle.resolved_names.specs.declared.tree.Item.TheVariants.{Define, Extern, Global, Function, Main}
use Rattle.c_tree.specs.declared.tree.Ty.{Ty}
use Rattle.c_tree.specs.declared.tree.Ty.TheVariants.{Int}
use Rattle.c_semantics.specs.Meaning.Expressions as meaning
use Rattle.c_semantics.specs.Meaning.Expressions.{define_type, define_value, is_define}
use Rattle.c_semantics.specs.Meaning.SimpleStatements.{Env}
use Rattle.c_semantics.specs.Meaning.Programs.{env_after, env_with, no_env}
use Rattle.c_meaning.specs.Scopes.{constant_in}
use Rattle.c_meaning.proofs.Lists.{tops_before, good_at}

pub env_more : (n : ℕ) (env : Env) (tops : Program) (t : Top) → env_after n env (tops ++ t ∷ []) ≡ env_with n (env_after n env tops) t
env_more n env [] t = refl
env_more n env (u ∷ tops) t = env_more n (env_with n env u) tops t

pub env_next : (n : ℕ) (xs : List Item) (i : ℕ) (y : Item) → i < length xs → y ≡ slice_index_or xs i y → env_after n no_env (map numbered_top (take (i + 1) xs)) ≡ env_with n (env_after n no_env (map numbered_top (take i xs))) (numbered_top y)
env_next n xs i y h at = ap (env_after n no_env) (tops_before xs i y h at) ∙ env_more n no_env (map numbered_top (take i xs)) (numbered_top y)

-- ---- at an item that is looked at, of those that are left

not_define : (y : Item) → ((d : ℕ) (neg : Bool) (k : ℕ) (t : Ty) → y ≡ Define d neg k t → ⊥) → (n : ℕ) (env : Env) → (env_with n env (numbered_top y)).defines ≡ env.defines
not_define (Define d neg k t) other n env = absurd (other d neg k t refl)
not_define (Extern port) other n env = refl
not_define (Global t d dims e) other n env = refl
not_define (Function d ps body) other n env = refl
not_define (Main body) other n env = refl

module _ (n : ℕ) (xs : List Item) (left : ℕ) (y : Item) (above : 0 < left) (within : left ≤ length xs) (at : y ≡ slice_index_or xs (left - 1) y) where
  abbrev before : Env
  before = env_after n no_env (map numbered_top (take (left - 1) xs))

  pub env_here : env_after n no_env (map numbered_top (take left xs)) ≡ env_with n before (numbered_top y)
  env_here =
      let more : left - 1 + 1 ≡ left = omega arith in
      let less : left - 1 < length xs = omega arith in
      ap (λ k. env_after n no_env (map numbered_top (take k xs))) (sym more) ∙ env_next n xs (left - 1) y less at

  pub define_found : (x : Name) (d : ℕ) (neg : Bool) (k : ℕ) (t : Ty) → y ≡ Define d neg k t → bytes_eq x (number_name d) ≡ true → constant_in (env_after n no_env (map numbered_top (take left xs))).defines x ≡ Some (defined_as neg k t)
  define_found x d neg k t is hit =
      ap (λ e. constant_in e.defines x) env_here
      ∙ (ap (λ z. constant_in (env_with n before (numbered_top z)).defines x) is
      ∙ ap {B = Option TypedValue} (λ b. if b then Some (defined_as neg k t) else constant_in before.defines x) hit)

  pub define_passed : (x : Name) (d : ℕ) (neg : Bool) (k : ℕ) (t : Ty) → y ≡ Define d neg k t → bytes_eq x (number_name d) ≡ false → constant_in (env_after n no_env (map numbered_top (take left xs))).defines x ≡ constant_in before.defines x
  define_passed x d neg k t is miss =
      ap (λ e. constant_in e.defines x) env_here
      ∙ (ap (λ z. constant_in (env_with n before (numbered_top z)).defines x) is
      ∙ ap {B = Option TypedValue} (λ b. if b then Some (defined_as neg k t) else constant_in before.defines x) miss)

  pub define_other : (x : Name) → ((d : ℕ) (neg : Bool) (k : ℕ) (t : Ty) → y ≡ Define d neg k t → ⊥) → constant_in (env_after n no_env (map numbered_top (take left xs))).defines x ≡ constant_in before.defines x
  define_other x other = ap (λ e. constant_in e.defines x) env_here ∙ ap (λ ds. constant_in ds x) (not_define y other n before)

pub define_all : (n : ℕ) (xs : List Item) (x : Name) → constant_in (env_after n no_env (map numbered_top (take (length xs) xs))).defines x ≡ constant_in (env_after n no_env (map numbered_top xs)).defines x
define_all n xs x = ap (λ ys. constant_in (env_after n no_env (map numbered_top ys)).defines x) (take_all (length xs) xs (omega arith))

pub ruleset scopes = (define_all, good_at)

-- ---- what a define gives

type_here : (b : Bool) (d : meaning.Define) (ds : List meaning.Define) (x : Name) (c : TypedValue) → (constant_in ds x ≡ Some c → define_type ds x ≡ c.ty) → (if b then Some (record { ty = d.ty; value = d.value }) else constant_in ds x) ≡ Some c → (if b then d.ty else define_type ds x) ≡ c.ty
type_here true d ds x c rest h = ap {B = Ty} ty_of h
  where
    ty_of : Option TypedValue → Ty
    ty_of None = Int
    ty_of (Some v) = v.ty
type_here false d ds x c rest h = rest h

pub define_type_is : (ds : List meaning.Define) (x : Name) (c : TypedValue) → constant_in ds x ≡ Some c → define_type ds x ≡ c.ty
define_type_is [] x c h = absurd (cc)
define_type_is (d ∷ ds) x c h = type_here (bytes_eq x d.name) d ds x c (define_type_is ds x c) h

value_here : (b : Bool) (d : meaning.Define) (ds : List meaning.Define) (x : Name) (c : TypedValue) → (constant_in ds x ≡ Some c → define_value ds x ≡ Ok c.value) → (if b then Some (record { ty = d.ty; value = d.value }) else constant_in ds x) ≡ Some c → (if b then Ok d.value else define_value ds x) ≡ Ok c.value
value_here true d ds x c rest h = ap {B = Result ℤ Trap} value_of h
  where
    value_of : Option TypedValue → Result ℤ Trap
    value_of None = Err Unset
    value_of (Some v) = Ok v.value
value_here false d ds x c rest h = rest h

pub define_value_is : (ds : List meaning.Define) (x : Name) (c : TypedValue) → constant_in ds x ≡ Some c → define_value ds x ≡ Ok c.value
define_value_is [] x c h = absurd (cc)
define_value_is (d ∷ ds) x c h = value_here (bytes_eq x d.name) d ds x c (define_value_is ds x c) h

type_not_here : (b : Bool) (d : meaning.Define) (ds : List meaning.Define) (x : Name) → (constant_in ds x ≡ None → define_type ds x ≡ Int) → (if b then Some (record { ty = d.ty; value = d.value }) else constant_in ds x) ≡ None → (if b then d.ty else define_type ds x) ≡ Int
type_not_here true d ds x rest h = absurd (cc)
type_not_here false d ds x rest h = rest h

pub no_define_type : (ds : List meaning.Define) (x : Name) → constant_in ds x ≡ None → define_type ds x ≡ Int
no_define_type [] x h = refl
no_define_type (d ∷ ds) x h = type_not_here (bytes_eq x d.name) d ds x (no_define_type ds x) h

value_not_here : (b : Bool) (d : meaning.Define) (ds : List meaning.Define) (x : Name) → (constant_in ds x ≡ None → define_value ds x ≡ Err Unset) → (if b then Some (record { ty = d.ty; value = d.value }) else constant_in ds x) ≡ None → (if b then Ok d.value else define_value ds x) ≡ Err Unset
value_not_here true d ds x rest h = absurd (cc)
value_not_here false d ds x rest h = rest h

pub no_define_value : (ds : List meaning.Define) (x : Name) → constant_in ds x ≡ None → define_value ds x ≡ Err Unset
no_define_value [] x h = refl
no_define_value (d ∷ ds) x h = value_not_here (bytes_eq x d.name) d ds x (no_define_value ds x) h

is_here : (b : Bool) (d : meaning.Define) (ds : List meaning.Define) (x : Name) → is_some (constant_in ds x) ≡ is_define ds x → is_some (if b then Some (record { ty = d.ty; value = d.value }) else constant_in ds x) ≡ (if b then true else is_define ds x)
is_here true d ds x rest = refl
is_here false d ds x rest = rest

pub constant_is_define : (ds : List meaning.Define) (x : Name) → is_some (constant_in ds x) ≡ is_define ds x
constant_is_define [] x = refl
constant_is_define (d ∷ ds) x = is_here (bytes_eq x d.name) d ds x (constant_is_define ds x)

pub ruleset constants = (constant_is_define, define_type_is, define_value_is, no_define_type, no_define_value)
