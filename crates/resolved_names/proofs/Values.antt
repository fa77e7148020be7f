-- Variables, expressions and constants under a renaming.
use Rattle.std.proofs.Common.{◌≡◌, refl, ap, ◌∙◌, ℕ, List, [], ◌∷◌, map, Option, Some, None, Result, Ok, Err, Bool, true, false, bytes_eq, pos}
use Rattle.std.specs.Prelude.{if◌then◌else◌, unwrap_or, replicate}
use Rattle.std.specs.Option.{option_map}
use Rattle.c_tree.specs.Bare.{Name, Expr, num, read, item, un, bin, cond, cast, Exprs, no_exprs, more_exprs, expr_list}
use Rattle.c_tree.specs.declared.tree.Ty.{Ty}
use Rattle.c_tree.specs.declared.arithmetic.Trap.{Trap}
use Rattle.c_tree.specs.Arithmetic.{and_then, un_type}
use Rattle.c_semantics.specs.Meaning.State.{Cell, scalar, array, Var, State, find, write, look, store, write_at, with_globals, with_frame, nowhere}
use Rattle.c_semantics.specs.Meaning.Expressions.{Define, define_type, define_value, is_define, name_type, scalar_value, type_of, eval, place, in_dim, only_constants, constant}
use Rattle.c_semantics.specs.Meaning.Programs.{initial, product}
use Rattle.c_semantics.specs.Loops.Directives.{number}
use Rattle.resolved_names.specs.Renaming.{Renaming, renamed_expr, renamed_exprs}
use Rattle.resolved_names.specs.RenamedRuns.{renamed_var, renamed_vars, renamed_state, Injective}

abbrev pub renamed_define : Renaming → Define → Define
renamed_define f d = record { name = f d.name; ty = d.ty; value = d.value }

pub value_same : {A B : Type 0} (r : Result A Trap) (f g : A → Result B Trap) → ((a : A) → f a ≡ g a) → and_then r f ≡ and_then r g
value_same (Err t) f g h = refl
value_same (Ok a) f g h = h a

module _ (f : Renaming) (same : Injective f) where
  -- ---- variables

  pub find_same : (x : Name) (vs : List Var) → find (f x) (renamed_vars f vs) ≡ find x vs
  find_same x [] = refl
  find_same x (v ∷ vs) = rw (same x v.name, find_same x vs) refl

  pub look_same : (x : Name) (s : State) → look (renamed_state f s) (f x) ≡ look s x
  look_same x s = rw (find_same x s.frame, find_same x s.globals) refl

  pub write_renamed : (x : Name) (c : Cell) (vs : List Var) → write (f x) c (renamed_vars f vs) ≡ renamed_vars f (write x c vs)
  write_renamed x c [] = refl
  write_renamed x c (v ∷ vs) = rw (same x v.name, write_renamed x c vs) (by (bytes_eq x v.name))
    where
      by : (b : Bool) → (if b then record { name = f v.name; cell = c } ∷ renamed_vars f vs else renamed_var f v ∷ renamed_vars f (write x c vs)) ≡ renamed_vars f (if b then record { name = v.name; cell = c } ∷ vs else v ∷ write x c vs)
      by true = refl
      by false = refl

  pub store_renamed : (x : Name) (c : Cell) (s : State) → store (f x) c (renamed_state f s) ≡ renamed_state f (store x c s)
  store_renamed x c s = rw (find_same x s.frame) (by (find x s.frame))
    where
      by : (o : Option Cell) → write_at o (f x) c (renamed_state f s) ≡ renamed_state f (write_at o x c s)
      by None = ap (λ g. with_globals g (renamed_state f s)) (write_renamed x c s.globals)
      by (Some d) = ap (λ g. with_frame g (renamed_state f s)) (write_renamed x c s.frame)

  -- ---- expressions

  module _ (ds : List Define) where
    abbrev ds' : List Define
    ds' = map (renamed_define f) ds

    define_type_same : (ds : List Define) (x : Name) → define_type (map (renamed_define f) ds) (f x) ≡ define_type ds x
    define_type_same [] x = refl
    define_type_same (d ∷ ds) x = rw (same x d.name, define_type_same ds x) refl

    define_value_same : (ds : List Define) (x : Name) → define_value (map (renamed_define f) ds) (f x) ≡ define_value ds x
    define_value_same [] x = refl
    define_value_same (d ∷ ds) x = rw (same x d.name, define_value_same ds x) refl

    is_define_same : (ds : List Define) (x : Name) → is_define (map (renamed_define f) ds) (f x) ≡ is_define ds x
    is_define_same [] x = refl
    is_define_same (d ∷ ds) x = rw (same x d.name, is_define_same ds x) refl

    name_type_same : (o : Option Cell) (x : Name) → name_type o ds' (f x) ≡ name_type o ds x
    name_type_same None x = define_type_same ds x
    name_type_same (Some c) x = refl

    scalar_value_same : (o : Option Cell) (x : Name) → scalar_value o ds' (f x) ≡ scalar_value o ds x
    scalar_value_same None x = define_value_same ds x
    scalar_value_same (Some (scalar t v)) x = refl
    scalar_value_same (Some (array t dims es)) x = refl

    module _ (s : State) where
      abbrev s' : State
      s' = renamed_state f s

      type_at : (x : Name) → name_type (look s' (f x)) ds' (f x) ≡ name_type (look s x) ds x
      type_at x = ap (λ o. name_type o ds' (f x)) (look_same x s) ∙ name_type_same (look s x) x

      pub type_same : (e : Expr) → type_of ds' s' (renamed_expr f e) ≡ type_of ds s e
      type_same (num n u) = refl
      type_same (read x) = type_at x
      type_same (item x es) = type_at x
      type_same (un op a) = ap (un_type op) (type_same a)
      type_same (bin op a b) = rw (type_same a, type_same b) refl
      type_same (cond a b c) = rw (type_same b, type_same c) refl
      type_same (cast u a) = refl

      mutual
        pub eval_same : (e : Expr) → eval ds' s' (renamed_expr f e) ≡ eval ds s e
        eval_same (num n u) = refl
        eval_same (read x) = ap (λ o. scalar_value o ds' (f x)) (look_same x s) ∙ scalar_value_same (look s x) x
        eval_same (item x es) = rw (look_same x s, place_same es _ _) refl
        eval_same (un op a) = rw (eval_same a, type_same a) refl
        eval_same (bin op a b) = rw (eval_same a, eval_same b, type_same a, type_same b) refl
        eval_same (cond a b c) = rw (eval_same a, eval_same b, eval_same c) refl
        eval_same (cast u a) = rw (eval_same a) refl

        pub place_same : (es : Exprs) (dims : List ℕ) (i : ℕ) → place ds' s' dims i (renamed_exprs f es) ≡ place ds s dims i es
        place_same no_exprs dims i = refl
        place_same (more_exprs e es) [] i = refl
        place_same (more_exprs e es) (d ∷ dims) i =
            rw (eval_same e) (value_same (eval ds s e) _ _ (λ z. value_same (in_dim d z) _ _ (λ j. place_same es dims _)))

    -- ---- constants

    pub only_constants_same : (e : Expr) → only_constants ds' (renamed_expr f e) ≡ only_constants ds e
    only_constants_same (num n u) = refl
    only_constants_same (read x) = is_define_same ds x
    only_constants_same (item x es) = refl
    only_constants_same (un op a) = only_constants_same a
    only_constants_same (bin op a b) = rw (only_constants_same a, only_constants_same b) refl
    only_constants_same (cond a b c) = rw (only_constants_same a, only_constants_same b, only_constants_same c) refl
    only_constants_same (cast u a) = only_constants_same a

    pub constant_same : (e : Expr) → constant ds' (renamed_expr f e) ≡ constant ds e
    constant_same e = rw (only_constants_same e, eval_same nowhere e) refl

    pub numbers_same : (es : Exprs) → map (number ds') (expr_list (renamed_exprs f es)) ≡ map (number ds) (expr_list es)
    numbers_same no_exprs = refl
    numbers_same (more_exprs e es) = rw (constant_same e, numbers_same es) refl

    pub initial_same : (t : Ty) (dims : Exprs) (o : Option Expr) → initial ds' t (expr_list (renamed_exprs f dims)) (option_map (renamed_expr f) o) ≡ initial ds t (expr_list dims) o
    initial_same t no_exprs None = refl
    initial_same t no_exprs (Some e) = ap (λ v. scalar t (Some (unwrap_or v (pos 0)))) (constant_same e)
    initial_same t (more_exprs d dims) o = ap (λ ks. array t ks (replicate (product ks) (pos 0))) (numbers_same (more_exprs d dims))
