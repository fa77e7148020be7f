-- What a define gives: whether there is one, its type and its value.
use Rattle.std.proofs.Common.{◌≡◌, ◌∙◌, sym, ap, refl, Bool, true, false, List, [], ◌∷◌, Option, Some, None, Result, Ok, Err, ℤ}
use Rattle.std.specs.Prelude.{bytes_eq, if◌then◌else◌}
use Rattle.c_tree.specs.Bare.{Name}
use Rattle.c_tree.specs.declared.arithmetic.Trap.{Trap}
use Rattle.c_tree.specs.declared.arithmetic.Trap.TheVariants.{Unset}
use Rattle.c_tree.specs.declared.constant.TypedValue.{TypedValue}
use Rattle.c_tree.specs.declared.tree.Ty.{Ty}
use Rattle.c_tree.specs.declared.tree.Ty.TheVariants.{Int}
use Rattle.c_semantics.specs.Meaning.State.{Cell, scalar}
use Rattle.c_semantics.specs.Meaning.Expressions.{Define, define_type, define_value, is_define, name_type, scalar_value}
use Rattle.loop_counts.specs.ConstantNames.{constant_named}

type_of : Option TypedValue → Ty
type_of None = Int
type_of (Some v) = v.ty

value_of : Option TypedValue → Result ℤ Trap
value_of None = Err Unset
value_of (Some v) = Ok v.value

there : Option TypedValue → Bool
there None = false
there (Some v) = true

module _ (d : Define) (o : Option TypedValue) where
  type_if : (b : Bool) (t : Ty) → type_of o ≡ t → type_of (if b then Some (record { ty = d.ty; value = d.value }) else o) ≡ (if b then d.ty else t)
  unfolding type_of
  type_if true t h = refl
  type_if false t h = h

  value_if : (b : Bool) (r : Result ℤ Trap) → value_of o ≡ r → value_of (if b then Some (record { ty = d.ty; value = d.value }) else o) ≡ (if b then Ok d.value else r)
  unfolding value_of
  value_if true r h = refl
  value_if false r h = h

  there_if : (b c : Bool) → there o ≡ c → there (if b then Some (record { ty = d.ty; value = d.value }) else o) ≡ (if b then true else c)
  unfolding there
  there_if true c h = refl
  there_if false c h = h

type_is : (ds : List Define) (x : Name) → type_of (constant_named ds x) ≡ define_type ds x
unfolding type_of
type_is [] x = refl
type_is (d ∷ ds) x = type_if d (constant_named ds x) (bytes_eq x d.name) (define_type ds x) (type_is ds x)

value_is : (ds : List Define) (x : Name) → value_of (constant_named ds x) ≡ define_value ds x
unfolding value_of
value_is [] x = refl
value_is (d ∷ ds) x = value_if d (constant_named ds x) (bytes_eq x d.name) (define_value ds x) (value_is ds x)

there_is : (ds : List Define) (x : Name) → there (constant_named ds x) ≡ is_define ds x
unfolding there
there_is [] x = refl
there_is (d ∷ ds) x = there_if d (constant_named ds x) (bytes_eq x d.name) (is_define ds x) (there_is ds x)

pub some_define : (ds : List Define) (x : Name) (c : TypedValue) → Some c ≡ constant_named ds x → is_define ds x ≡ true
unfolding there
some_define ds x c e = sym (there_is ds x) ∙ ap there (sym e)

pub no_define : (ds : List Define) (x : Name) → None ≡ constant_named ds x → is_define ds x ≡ false
unfolding there
no_define ds x e = sym (there_is ds x) ∙ ap there (sym e)

pub variable_typed : (ds : List Define) (x : Name) (t : Ty) (o : Option Cell) → Some (scalar t None) ≡ o → name_type o ds x ≡ t
variable_typed ds x t o e = ap (λ p. name_type p ds x) (sym e)

pub variable_unset : (ds : List Define) (x : Name) (t : Ty) (o : Option Cell) → Some (scalar t None) ≡ o → scalar_value o ds x ≡ Err Unset
variable_unset ds x t o e = ap (λ p. scalar_value p ds x) (sym e)

pub define_typed : (ds : List Define) (x : Name) (c : TypedValue) (o : Option Cell) → None ≡ o → Some c ≡ constant_named ds x → name_type o ds x ≡ c.ty
unfolding type_of
define_typed ds x c o none e = ap (λ p. name_type p ds x) (sym none) ∙ (sym (type_is ds x) ∙ ap type_of (sym e))

pub nothing_typed : (ds : List Define) (x : Name) (o : Option Cell) → None ≡ o → None ≡ constant_named ds x → name_type o ds x ≡ Int
unfolding type_of
nothing_typed ds x o none e = ap (λ p. name_type p ds x) (sym none) ∙ (sym (type_is ds x) ∙ ap type_of (sym e))

pub define_valued : (ds : List Define) (x : Name) (c : TypedValue) (o : Option Cell) → None ≡ o → Some c ≡ constant_named ds x → scalar_value o ds x ≡ Ok c.value
unfolding value_of
define_valued ds x c o none e = ap (λ p. scalar_value p ds x) (sym none) ∙ (sym (value_is ds x) ∙ ap value_of (sym e))

pub ruleset define_values = (some_define, no_define, variable_typed, variable_unset, define_typed, nothing_typed, define_valued)
