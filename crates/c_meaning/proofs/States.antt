-- What doesn't depend on lines and turns: expressions, and statements that print nothing.
use Rattle.std.proofs.Common.{◌≡◌, ap, refl, ℕ, List, [], ◌∷◌, Option, Some, None, Result, Ok, Err, ℤ}
use Rattle.c_tree.specs.Bare.{Name, Expr, num, read, item, un, bin, cond, cast, Exprs, no_exprs, more_exprs, Target, target, Param}
use Rattle.c_tree.specs.Arithmetic.{and_then, un_type, convert}
use Rattle.c_tree.specs.declared.arithmetic.Trap.{Trap}
use Rattle.c_tree.specs.declared.tree.Ty.{Ty}
use Rattle.c_tree.specs.declared.tree.SetOp.{SetOp}
use Rattle.c_semantics.specs.Meaning.State.{State, Var, Cell, scalar, find, look, store, write_at, push}
use Rattle.c_semantics.specs.Meaning.Expressions.{Define, type_of, eval, place, in_dim, dims_of}
use Rattle.c_semantics.specs.Meaning.Runs.{Run, ends, Next, with_value}
use Rattle.c_semantics.specs.Meaning.SimpleStatements.{holds_in, head_test, declared, set_to, take_input, next_input, rest_of, target_place, changed, type_in, new_value, arguments}
use Rattle.c_semantics.proofs.Evals.{value_same}
use Rattle.c_meaning.specs.Running.{in_full}

module _ (ds : List Define) (m : State) (lines : List ℤ) (turns : ℕ) where
  pub type_full : (e : Expr) → type_of ds (in_full m lines turns) e ≡ type_of ds m e
  type_full (num n u) = refl
  type_full (read x) = refl
  type_full (item x es) = refl
  type_full (un op a) = ap (un_type op) (type_full a)
  type_full (bin op a b) = rw (type_full a, type_full b) refl
  type_full (cond a b c) = rw (type_full b, type_full c) refl
  type_full (cast u a) = refl

  mutual
    pub eval_full : (e : Expr) → eval ds (in_full m lines turns) e ≡ eval ds m e
    eval_full (num n u) = refl
    eval_full (read x) = refl
    eval_full (item x es) = rw (place_full es (dims_of (look m x)) 0) refl
    eval_full (un op a) = rw (eval_full a, type_full a) refl
    eval_full (bin op a b) = rw (eval_full a, eval_full b, type_full a, type_full b) refl
    eval_full (cond a b c) = rw (eval_full a, eval_full b, eval_full c) refl
    eval_full (cast u a) = rw (eval_full a) refl

    pub place_full : (es : Exprs) (dims : List ℕ) (i : ℕ) → place ds (in_full m lines turns) dims i es ≡ place ds m dims i es
    place_full no_exprs dims i = refl
    place_full (more_exprs e es) [] i = refl
    place_full (more_exprs e es) (d ∷ dims) i =
        rw (eval_full e) (value_same (eval ds m e) _ _ (λ z. value_same (in_dim d z) _ _ (λ j. place_full es dims _)))

  pub holds_full : (e : Expr) → holds_in ds e (in_full m lines turns) ≡ holds_in ds e m
  holds_full e = rw (eval_full e) refl

  pub test_full : (e : Option Expr) → head_test ds e (in_full m lines turns) ≡ head_test ds e m
  test_full None = refl
  test_full (Some e) = holds_full e

  pub arguments_full : (ps : List Param) (es : Exprs) (vs : List Var) → arguments ds (in_full m lines turns) ps es vs ≡ arguments ds m ps es vs
  arguments_full [] es vs = refl
  arguments_full (p ∷ ps) no_exprs vs = arguments_full ps no_exprs _
  arguments_full (p ∷ ps) (more_exprs e es) vs =
      rw (eval_full e) (value_same (eval ds m e) _ _ (λ z. value_same (convert p.ty z) _ _ (λ y. arguments_full ps es _)))

  -- ---- statements

  -- a run with these lines and turns
  abbrev pub run_full : Run → Run
  run_full r = record { state = in_full r.state lines turns; end = r.end }

  value_full : {A : Type 0} (r : Result A Trap) (s : State) (f g : A → Run) → ((a : A) → f a ≡ run_full (g a)) → with_value r (in_full s lines turns) f ≡ run_full (with_value r s g)
  value_full (Err t) s f g h = refl
  value_full (Ok a) s f g h = h a

  write_full : (o : Option Cell) (x : Name) (c : Cell) (s : State) → write_at o x c (in_full s lines turns) ≡ in_full (write_at o x c s) lines turns
  write_full None x c s = refl
  write_full (Some d) x c s = refl

  store_full : (x : Name) (c : Cell) (s : State) → store x c (in_full s lines turns) ≡ in_full (store x c s) lines turns
  store_full x c s = write_full (find x s.frame) x c s

module _ (ds : List Define) (m : State) (lines : List ℤ) (turns : ℕ) where
  pub declared_full : (t : Ty) (x : Name) (e : Option Expr) → declared ds t x e (in_full m lines turns) ≡ run_full ds m lines turns (declared ds t x e m)
  declared_full t x None = refl
  declared_full t x (Some e) =
      rw (eval_full ds (push x (scalar t None) m) lines turns e) (value_full ds m lines turns (and_then (eval ds (push x (scalar t None) m) e) (convert t)) (push x (scalar t None) m) _ _ (λ z. refl))

  pub set_full : (t : Target) (op : SetOp) (e : Expr) → set_to ds t op e (in_full m lines turns) ≡ run_full ds m lines turns (set_to ds t op e m)
  set_full (target x es) op e =
      rw (place_full ds m lines turns es (dims_of (look m x)) 0, eval_full ds m lines turns e, type_full ds m lines turns e)
      (value_full ds m lines turns (target_place ds m (look m x) es) m _ _ (λ k.
      value_full ds m lines turns (and_then (new_value op (look m x) k (type_of ds m e) (eval ds m e)) (convert (type_in (look m x)))) m _ _ (λ z.
      ap (ends Next) (store_full ds m lines turns x (changed (look m x) k z) m))))

  pub input_full : (t : Target) → take_input ds t (in_full m lines turns) ≡ run_full ds m lines turns (take_input ds t m)
  input_full (target x es) =
      let rest : State = record m { input = rest_of m.input } in
      rw (place_full ds m lines turns es (dims_of (look m x)) 0)
      (value_full ds m lines turns (target_place ds m (look m x) es) m _ _ (λ k.
      value_full ds m lines turns (next_input m.input) m _ _ (λ z.
      value_full ds m lines turns (convert (type_in (look m x)) z) rest _ _ (λ y.
      ap (ends Next) (store_full ds m lines turns x (changed (look m x) k y) rest)))))
