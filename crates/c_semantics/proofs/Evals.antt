-- Expressions have the same value with and without a variable that they don't name.
use Rattle.std.proofs.Common.{◌≡◌, refl, ap, ℕ, List, [], ◌∷◌, Result, Ok, Err}
use Rattle.c_tree.specs.Bare.{Name, Expr, num, read, item, un, bin, cond, cast, Exprs, no_exprs, more_exprs}
use Rattle.c_semantics.specs.Meaning.State.{State, look}
use Rattle.c_tree.specs.declared.arithmetic.Trap.{Trap}
use Rattle.c_tree.specs.Arithmetic.{and_then}
use Rattle.c_semantics.specs.Meaning.Expressions.{Define, type_of, eval, place, name_type, in_dim}
use Rattle.c_tree.specs.Arithmetic.{un_type}
use Rattle.c_semantics.specs.Laws.Names.{Names, NamesEach}

pub value_same : {A B : Type 0} (r : Result A Trap) (f g : A → Result B Trap) → ((a : A) → f a ≡ g a) → and_then r f ≡ and_then r g
value_same (Err t) f g h = refl
value_same (Ok a) f g h = h a

module _ (ds : List Define) (P : Name → Type 0) (s t : State) (looks : (x : Name) → P x → look t x ≡ look s x) where
  pub type_same : (e : Expr) → Names P e → type_of ds t e ≡ type_of ds s e
  type_same (num n u) h = refl
  type_same (read x) h = ap (λ o. name_type o ds x) (looks x h)
  type_same (item x es) h = ap (λ o. name_type o ds x) (looks x h.0)
  type_same (un op a) h = ap (un_type op) (type_same a h)
  type_same (bin op a b) h = rw (type_same a h.0, type_same b h.1) refl
  type_same (cond a b c) h = rw (type_same b h.1, type_same c h.2) refl
  type_same (cast u a) h = refl

  mutual
    pub eval_same : (e : Expr) → Names P e → eval ds t e ≡ eval ds s e
    eval_same (num n u) h = refl
    eval_same (read x) h = rw (looks x h) refl
    eval_same (item x es) h = rw (looks x h.0, place_same es h.1 _ _) refl
    eval_same (un op a) h = rw (eval_same a h, type_same a h) refl
    eval_same (bin op a b) h = rw (eval_same a h.0, eval_same b h.1, type_same a h.0, type_same b h.1) refl
    eval_same (cond a b c) h = rw (eval_same a h.0, eval_same b h.1, eval_same c h.2) refl
    eval_same (cast u a) h = rw (eval_same a h) refl

    pub place_same : (es : Exprs) → NamesEach P es → (dims : List ℕ) (i : ℕ) → place ds t dims i es ≡ place ds s dims i es
    place_same no_exprs h dims i = refl
    place_same (more_exprs e es) h [] i = refl
    place_same (more_exprs e es) h (d ∷ dims) i =
        rw (eval_same e h.0) (value_same (eval ds s e) _ _ (λ z. value_same (in_dim d z) _ _ (λ j. place_same es h.1 dims _)))
