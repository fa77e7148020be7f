-- Calls: the function that a name means, found from the end, and the arguments one by one.
use Rattle.std.proofs.Common.{◌≡◌, ◌∙◌, sym, ap, refl, subst, ℕ, ◌+◌, ◌-◌, ◌<◌, true, false, ◌≤◌, List, [], ◌∷◌, length, map, take, drop, Option, Some, None, Result, Ok, Err, ℤ, arith}
use Rattle.std.proofs.lemmas.List.{take_all, at_drop_more, drop_all, drop-drop}
use Rattle.std.specs.Prelude.{slice_index_or, bytes_eq, if◌then◌else◌}
use Rattle.c_tree.specs.Bare.{Name}
use Rattle.resolved_names.specs.Numbered.{number_name, numbered_top, numbered_param, numbered_expr, numbered_exprs, numbered_stmts}
use Rattle.c_tree.specs.Arithmetic.{and_then, convert}
use Rattle.c_tree.specs.declared.arithmetic.Trap.{Trap}
use Rattle.resolved_names.specs.declared.tree.Expr.{Expr}
use Rattle.resolved_names.specs.declared.tree.Item.{Item}
use Rattle.resolved_names.specs.declared.tree.Item.TheVariants.{Define, Extern, Global, Function, Main}
use Rattle.resolved_names.specs.declared.tree.Stmt.{Stmt}
use Rattle.resolved_names.specs.declared.tree.Param.{Param}
use Rattle.c_tree.specs.declared.tree.Ty.{Ty}
use Rattle.c_semantics.specs.Meaning.State.{Var, State, scalar}
use Rattle.c_semantics.specs.Meaning.Expressions as meaning
use Rattle.c_semantics.specs.Meaning.Expressions.{eval}
use Rattle.c_semantics.specs.Meaning.SimpleStatements.{Env, function_named}
use Rattle.c_semantics.specs.Meaning.Statements.{exec_all}
use Rattle.c_semantics.specs.Meaning.SimpleStatements as simple
use Rattle.c_semantics.specs.Meaning.Programs.{env_after, env_with, no_env}
use Rattle.c_meaning.specs.Functions.{argument_at}
use Rattle.c_meaning.proofs.Lists.{good_at, body_smaller, well_formed_at}
use Rattle.c_meaning.proofs.Scopes.{env_here}
use Rattle.c_meaning.specs.Runnable.{RunnableTop, RunnableTops, RunnableStmts}
use Rattle.c_meaning.specs.Sizes.{stmts_size, top_size, tops_size}

not_function : (y : Item) → ((d : ℕ) (ps : List Param) (body : List Stmt) → y ≡ Function d ps body → ⊥) → (n : ℕ) (env : Env) → (env_with n env (numbered_top y)).functions ≡ env.functions
not_function (Define d neg k t) other n env = refl
not_function (Extern port) other n env = refl
not_function (Global t d dims e) other n env = refl
not_function (Function d ps body) other n env = absurd (other d ps body refl)
not_function (Main body) other n env = refl

module _ (n : ℕ) (xs : List Item) (left : ℕ) (y : Item) (above : 0 < left) (within : left ≤ length xs) (at : y ≡ slice_index_or xs (left - 1) y) where
  abbrev before : Env
  before = env_after n no_env (map numbered_top (take (left - 1) xs))

  abbrev pub function_at : ℕ → List Param → List Stmt → simple.Function
  function_at d ps body = record { name = number_name d; params = map numbered_param ps; run = exec_all n before (numbered_stmts body) }

  pub function_found : (x : Name) (d : ℕ) (ps : List Param) (body : List Stmt) → y ≡ Function d ps body → bytes_eq x (number_name d) ≡ true → function_named x (env_after n no_env (map numbered_top (take left xs))).functions ≡ Some (function_at d ps body)
  function_found x d ps body is hit =
      ap (λ e. function_named x e.functions) (env_here n xs left y above within at)
      ∙ (ap (λ z. function_named x (env_with n before (numbered_top z)).functions) is
      ∙ ap {B = Option simple.Function} (λ b. if b then Some (function_at d ps body) else function_named x before.functions) hit)

  pub function_passed : (x : Name) (d : ℕ) (ps : List Param) (body : List Stmt) → y ≡ Function d ps body → bytes_eq x (number_name d) ≡ false → function_named x (env_after n no_env (map numbered_top (take left xs))).functions ≡ function_named x before.functions
  function_passed x d ps body is miss =
      ap (λ e. function_named x e.functions) (env_here n xs left y above within at)
      ∙ (ap (λ z. function_named x (env_with n before (numbered_top z)).functions) is
      ∙ ap {B = Option simple.Function} (λ b. if b then Some (function_at d ps body) else function_named x before.functions) miss)

  pub function_other : (x : Name) → ((d : ℕ) (ps : List Param) (body : List Stmt) → y ≡ Function d ps body → ⊥) → function_named x (env_after n no_env (map numbered_top (take left xs))).functions ≡ function_named x before.functions
  function_other x other = ap (λ e. function_named x e.functions) (env_here n xs left y above within at) ∙ ap (function_named x) (not_function y other n before)

  pub function_body : (d : ℕ) (ps : List Param) (body : List Stmt) → y ≡ Function d ps body → RunnableTops (map numbered_top xs) → RunnableStmts (numbered_stmts body)
  function_body d ps body is good = subst (λ z. RunnableTop (numbered_top z)) is (good_at xs (left - 1) y (omega arith) at good)

  pub function_smaller : (d : ℕ) (ps : List Param) (body : List Stmt) → y ≡ Function d ps body → tops_size (map numbered_top (take (left - 1) xs)) + stmts_size (numbered_stmts body) < tops_size (map numbered_top xs)
  function_smaller d ps body is =
      let here : top_size (numbered_top y) ≡ stmts_size (numbered_stmts body) + 1 = ap (λ z. top_size (numbered_top z)) is in
      let all : tops_size (map numbered_top (take (left - 1) xs)) + top_size (numbered_top y) ≤ tops_size (map numbered_top xs) = body_smaller xs (left - 1) y (omega arith) at in
      omega arith

pub function_all : (n : ℕ) (xs : List Item) (x : Name) → function_named x (env_after n no_env (map numbered_top (take (length xs) xs))).functions ≡ function_named x (env_after n no_env (map numbered_top xs)).functions
function_all n xs x = ap (λ ys. function_named x (env_after n no_env (map numbered_top ys)).functions) (take_all (length xs) xs (omega arith))

pub ruleset functions = (function_all)

-- ---- arguments

pub argument_first : (ds : List meaning.Define) (s : State) (p : Param) (ps : List Param) (es : List Expr) (vs : List Var) → simple.arguments ds s (numbered_param p ∷ map numbered_param ps) (numbered_exprs es) vs ≡ and_then (argument_at ds s p.ty es) (λ o. simple.arguments ds s (map numbered_param ps) (numbered_exprs (drop 1 es)) (record { name = number_name p.name; cell = scalar p.ty o } ∷ vs))
argument_first ds s p ps [] vs = refl
argument_first ds s p ps (e ∷ es) vs = by (eval ds s (numbered_expr e))
  where
    go : ℤ → Result (List Var) Trap
    go z = simple.arguments ds s (map numbered_param ps) (numbered_exprs es) (record { name = number_name p.name; cell = scalar p.ty (Some z) } ∷ vs)

    inner : (r : Result ℤ Trap) → and_then r go ≡ and_then (and_then r (λ y. Ok (Some y))) (λ o. simple.arguments ds s (map numbered_param ps) (numbered_exprs es) (record { name = number_name p.name; cell = scalar p.ty o } ∷ vs))
    inner (Ok z) = refl
    inner (Err t) = refl

    by : (r : Result ℤ Trap) → and_then r (λ z. and_then (convert p.ty z) go) ≡ and_then (and_then r (λ z. and_then (convert p.ty z) (λ y. Ok (Some y)))) (λ o. simple.arguments ds s (map numbered_param ps) (numbered_exprs es) (record { name = number_name p.name; cell = scalar p.ty o } ∷ vs))
    by (Ok z) = inner (convert p.ty z)
    by (Err t) = refl

-- the argument at an index
pub argument_some : (ds : List meaning.Define) (s : State) (t : Ty) (xs : List Expr) (i : ℕ) (x : Expr) → i < length xs → x ≡ slice_index_or xs i x → argument_at ds s t (drop i xs) ≡ and_then (eval ds s (numbered_expr x)) (λ z. and_then (convert t z) (λ y. Ok (Some y)))
argument_some ds s t xs i x h at = at_drop_more (argument_at ds s t) xs i x h ∙ ap (λ z. argument_at ds s t (z ∷ drop (i + 1) xs)) (sym at)

pub argument_none : (ds : List meaning.Define) (s : State) (t : Ty) (xs : List Expr) (i : ℕ) → length xs ≤ i → argument_at ds s t (drop i xs) ≡ Ok None
argument_none ds s t xs i h = ap (argument_at ds s t) (drop_all i xs h)

pub ruleset one_argument = (argument_some, argument_none, well_formed_at)

-- one parameter more
module _ (ds : List meaning.Define) (s : State) (ps : List Param) (es : List Expr) (i : ℕ) (p : Param) (vs : List Var) where
  drop_next : drop 1 (drop i es) ≡ drop (i + 1) es
  drop_next = drop-drop 1 i es

  pub arguments_more : (o : Option ℤ) → i < length ps → p ≡ slice_index_or ps i p → argument_at ds s p.ty (drop i es) ≡ Ok o → simple.arguments ds s (map numbered_param (drop i ps)) (numbered_exprs (drop i es)) vs ≡ simple.arguments ds s (map numbered_param (drop (i + 1) ps)) (numbered_exprs (drop (i + 1) es)) (record { name = number_name p.name; cell = scalar p.ty o } ∷ vs)
  arguments_more o h at is =
      at_drop_more (λ qs. simple.arguments ds s (map numbered_param qs) (numbered_exprs (drop i es)) vs) ps i p h
      ∙ (ap (λ q. simple.arguments ds s (map numbered_param (q ∷ drop (i + 1) ps)) (numbered_exprs (drop i es)) vs) (sym at)
      ∙ (argument_first ds s p (drop (i + 1) ps) (drop i es) vs
      ∙ (ap (λ r. and_then r (λ q. simple.arguments ds s (map numbered_param (drop (i + 1) ps)) (numbered_exprs (drop 1 (drop i es))) (record { name = number_name p.name; cell = scalar p.ty q } ∷ vs))) is
      ∙ ap (λ fs. simple.arguments ds s (map numbered_param (drop (i + 1) ps)) (numbered_exprs fs) (record { name = number_name p.name; cell = scalar p.ty o } ∷ vs)) drop_next)))

  pub arguments_trap : (t : Trap) → i < length ps → p ≡ slice_index_or ps i p → argument_at ds s p.ty (drop i es) ≡ Err t → simple.arguments ds s (map numbered_param (drop i ps)) (numbered_exprs (drop i es)) vs ≡ Err t
  arguments_trap t h at is =
      at_drop_more (λ qs. simple.arguments ds s (map numbered_param qs) (numbered_exprs (drop i es)) vs) ps i p h
      ∙ (ap (λ q. simple.arguments ds s (map numbered_param (q ∷ drop (i + 1) ps)) (numbered_exprs (drop i es)) vs) (sym at)
      ∙ (argument_first ds s p (drop (i + 1) ps) (drop i es) vs
      ∙ ap (λ r. and_then r (λ q. simple.arguments ds s (map numbered_param (drop (i + 1) ps)) (numbered_exprs (drop 1 (drop i es))) (record { name = number_name p.name; cell = scalar p.ty q } ∷ vs))) is))

pub arguments_done : (ds : List meaning.Define) (s : State) (ps : List Param) (es : List Expr) (i : ℕ) (vs : List Var) → length ps ≤ i → simple.arguments ds s (map numbered_param (drop i ps)) (numbered_exprs (drop i es)) vs ≡ Ok vs
arguments_done ds s ps es i vs h = ap (λ qs. simple.arguments ds s (map numbered_param qs) (numbered_exprs (drop i es)) vs) (drop_all i ps h)

pub ruleset calls = (arguments_more, arguments_trap, arguments_done)
