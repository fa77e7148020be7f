-- What is visible at a place fits a state there: a name stands for a variable with as many dimensions, for a define that
-- no variable hides, or for a function that can be called.
use Rattle.std.proofs.Common.{◌≡◌, refl, sym, ap, ◌∙◌, subst, ℕ, zero, suc, List, [], ◌∷◌, ◌++◌, length, Option, Some, None, Result, Ok, Err, Bool, true, false, not, ◌==◌, ℤ, arith, eqb-true}
use Rattle.std.specs.Prelude.{bytes_eq, if◌then◌else◌, unwrap_or, map}
use Rattle.std.specs.Option.{option_map}
use Rattle.c_tree.specs.Bare as b
use Rattle.c_tree.specs.Bare.{Name, num, read, item, un, bin, cond, cast, no_exprs, more_exprs, Target, target, Param}
use Rattle.c_tree.specs.Placed as p
use Rattle.c_tree.specs.WellFormed.{WellFormedExpr, WellFormedExprs, WellFormedOption, WellFormedTarget}
use Rattle.c_tree.specs.declared.name_rule.NameRule.{NameRule}
use Rattle.c_tree.specs.declared.name_rule.NameRule.TheVariants.{N2, N3}
use Rattle.c_tree.specs.declared.name_rule.Entity.{Entity}
use Rattle.c_tree.specs.declared.name_rule.Entity.TheVariants.{Define, Variable, Function}
use Rattle.c_tree.specs.declared.name_rule.Declaration.{Declaration}
use Rattle.c_tree.specs.NameRules.BreachSets.{HasNone}
use Rattle.c_tree.specs.NameRules.Scopes.{Scope, meaning, is_taken, add, declare, a_scalar, inner}
use Rattle.c_tree.specs.NameRules.Scopes as scopes
use Rattle.c_tree.specs.NameRules.Breaches.{breach_if, use_breaches, assign_breaches, expr_breaches, exprs_breaches, option_breaches, target_breaches}
use Rattle.c_tree.specs.NameRules.Programs.{params_breaches}
use Rattle.c_tree.specs.declared.tree.Ty.{Ty}
use Rattle.c_tree.specs.declared.arithmetic.Trap.{Trap}
use Rattle.c_tree.specs.Arithmetic.{and_then, convert}
use Rattle.c_semantics.specs.Meaning.State.{Cell, scalar, array, Var, State, find, or_else, look, push, with_frame}
use Rattle.c_semantics.specs.Meaning.Expressions as values
use Rattle.c_semantics.specs.Meaning.Expressions.{eval, is_define}
use Rattle.c_semantics.specs.Meaning.SimpleStatements as calls
use Rattle.c_semantics.specs.Meaning.SimpleStatements.{function_named, arguments}
use Rattle.c_soundness.specs.Unplaced.{unplaced_expr, unplaced_exprs, unplaced_target, unplaced_param}
use Rattle.c_soundness.specs.NeverStuck.{IsReadable, IsArrayOf, IsVariableOf, Found, EachFound, FoundIf, TargetFound}
use Rattle.c_soundness.proofs.Shapes.{form, Shape, shapes, Same}

-- ---- breaches

pub none_if : (c : Bool) (r : NameRule) (at : ℕ) → HasNone (breach_if c r at) → c ≡ false
none_if true r at h = absurd h
none_if false r at h = refl

not_not : (c : Bool) → not c ≡ false → c ≡ true
not_not true h = refl
not_not false h = absurd (cc)

pub as_many : (j k : ℕ) (r : NameRule) (at : ℕ) → HasNone (breach_if (not (j == k)) r at) → j ≡ k
as_many j k r at h = eqb-true j k (not_not (j == k) (none_if (not (j == k)) r at h))

-- ---- shapes

abbrev pub find_shape : Name → List Shape → Option ℕ
find_shape x [] = None
find_shape x (v ∷ vs) = if bytes_eq x v.0 then Some v.1 else find_shape x vs

abbrev pub or_outer : Option ℕ → Option ℕ → Option ℕ
or_outer None o = o
or_outer (Some k) o = Some k

-- the dimensions of the variable that a name means
abbrev pub seen : List Shape → List Shape → Name → Option ℕ
seen frame globals x = or_outer (find_shape x frame) (find_shape x globals)

abbrev pub shape_of : Option Cell → Option ℕ
shape_of None = None
shape_of (Some c) = Some (form c)

find_shapes : (x : Name) (vs : List Var) → shape_of (find x vs) ≡ find_shape x (shapes vs)
find_shapes x [] = refl
find_shapes x (v ∷ vs) = by (find_shapes x vs) (bytes_eq x v.name)
  where
    by : shape_of (find x vs) ≡ find_shape x (shapes vs) → (t : Bool) → shape_of (if t then Some v.cell else find x vs) ≡ (if t then Some (form v.cell) else find_shape x (shapes vs))
    by rest true = refl
    by rest false = rest

pub look_shape : (x : Name) (s : State) → shape_of (look s x) ≡ seen (shapes s.frame) (shapes s.globals) x
look_shape x s = by (find x s.frame) (find x s.globals) ∙ (λ i. or_outer (find_shapes x s.frame i) (find_shapes x s.globals i))
  where
    by : (o q : Option Cell) → shape_of (or_else o q) ≡ or_outer (shape_of o) (shape_of q)
    by None q = refl
    by (Some c) q = refl

-- the parameters of a function as a frame holds them
abbrev pub param_shapes : List Param → List Shape → List Shape
param_shapes [] vs = vs
param_shapes (x ∷ ps) vs = param_shapes ps ((x.name, 0) ∷ vs)

abbrev ok_or : Result (List Var) Trap → List Var → List Var
ok_or (Ok a) d = a
ok_or (Err t) d = d

pub arguments_fit : (ds : List values.Define) (s : State) (ps : List Param) (es : b.Exprs) (done vs : List Var) → arguments ds s ps es done ≡ Ok vs → shapes vs ≡ param_shapes ps (shapes done)
arguments_fit ds s [] es done vs e = ap (λ r. shapes (ok_or r done)) (sym e)
arguments_fit ds s (x ∷ ps) no_exprs done vs e = arguments_fit ds s ps no_exprs (record { name = x.name; cell = scalar x.ty None } ∷ done) vs e
arguments_fit ds s (x ∷ ps) (more_exprs a es) done vs e = first (λ z. arguments_fit ds s ps es (record { name = x.name; cell = scalar x.ty (Some z) } ∷ done) vs) (eval ds s a) e
  where
    second : ((z : ℤ) → arguments ds s ps es (record { name = x.name; cell = scalar x.ty (Some z) } ∷ done) ≡ Ok vs → shapes vs ≡ param_shapes ps ((x.name, 0) ∷ shapes done))
        → (r : Result ℤ Trap) → and_then r (λ z. arguments ds s ps es (record { name = x.name; cell = scalar x.ty (Some z) } ∷ done)) ≡ Ok vs → shapes vs ≡ param_shapes ps ((x.name, 0) ∷ shapes done)
    second rest (Err t) e = absurd (cc)
    second rest (Ok z) e = rest z e

    first : ((z : ℤ) → arguments ds s ps es (record { name = x.name; cell = scalar x.ty (Some z) } ∷ done) ≡ Ok vs → shapes vs ≡ param_shapes ps ((x.name, 0) ∷ shapes done))
        → (r : Result ℤ Trap) → and_then r (λ z. and_then (convert x.ty z) (λ y. arguments ds s ps es (record { name = x.name; cell = scalar x.ty (Some y) } ∷ done))) ≡ Ok vs → shapes vs ≡ param_shapes ps ((x.name, 0) ∷ shapes done)
    first rest (Err t) e = absurd (cc)
    first rest (Ok z) e = second rest (convert x.ty z) e

-- ---- what fits

-- a variable that is declared with so many dimensions
abbrev pub form_of : ℕ → ℕ
form_of zero = 0
form_of (suc d) = suc (suc d)

-- in the file's scope, variables are there and defines are hidden by none
abbrev pub FitsGlobal : Option ℕ → Option Entity → Type 0
FitsGlobal o (Some (Variable d)) = o ≡ Some (form_of d)
FitsGlobal o (Some (Define c)) = o ≡ None
FitsGlobal o _ = Unit {0}

abbrev pub GlobalsFit : Scope → List Shape → Type 0
GlobalsFit file globals = (x : Name) → FitsGlobal (find_shape x globals) (meaning file x)

-- a function with so many parameters, whose body may run wherever the file's variables fit
abbrev pub CanCall : Scope → List calls.Function → (Name → State → Type 0) → Name → ℕ → Type 0
CanCall file fs Runs x k =
    (f : calls.Function) × (function_named x fs ≡ Some f) × (k ≡ length f.params)
    × ((vs : List Var) (t : State) → GlobalsFit file (shapes t.globals) → shapes vs ≡ param_shapes f.params [] → Runs x (with_frame vs t))

module _ (ds : List values.Define) (fs : List calls.Function) (Runs : Name → State → Type 0) (file : Scope) where
  abbrev pub Fit : Option ℕ → Name → Option Entity → Type 0
  Fit o x None = Unit {0}
  Fit o x (Some (Variable d)) = o ≡ Some (form_of d)
  Fit o x (Some (Define c)) = (o ≡ None) × (is_define ds x ≡ true)
  Fit o x (Some (Function k depth)) = CanCall file fs Runs x k

  abbrev pub Fits : Scope → List Shape → List Shape → Type 0
  Fits sc frame globals = (x : Name) → Fit (seen frame globals x) x (meaning sc x)

  abbrev pub Good : Scope → State → Type 0
  Good sc s = Fits sc (shapes s.frame) (shapes s.globals) × GlobalsFit file (shapes s.globals)

  pub good_same : (sc : Scope) (s u : State) → Same s u → Good sc s → Good sc u
  good_same sc s u h g = (
    subst (λ vs. Fits sc vs (shapes u.globals)) (sym h.0) (subst (λ vs. Fits sc (shapes s.frame) vs) (sym h.1) g.0),
    subst (GlobalsFit file) (sym h.1) g.1,
  )

  -- ---- scopes

  find_in_both : (x : Name) (here outside : List Declaration) → scopes.find x (here ++ outside) ≡ scopes.or_else (scopes.find x here) (scopes.find x outside)
  find_in_both x [] outside = refl
  find_in_both x (d ∷ here) outside = by (find_in_both x here outside) (bytes_eq x d.name)
    where
      by : scopes.find x (here ++ outside) ≡ scopes.or_else (scopes.find x here) (scopes.find x outside) → (t : Bool) → (if t then Some d.entity else scopes.find x (here ++ outside)) ≡ scopes.or_else (if t then Some d.entity else scopes.find x here) (scopes.find x outside)
      by rest true = refl
      by rest false = rest

  pub fits_inner : (sc : Scope) (frame globals : List Shape) → Fits sc frame globals → Fits (inner sc) frame globals
  fits_inner sc frame globals g x = subst (Fit (seen frame globals x) x) (sym (find_in_both x sc.here sc.outside)) (g x)

  pub good_inner : (sc : Scope) (s : State) → Good sc s → Good (inner sc) s
  good_inner sc s g = (fits_inner sc (shapes s.frame) (shapes s.globals) g.0, g.1)

  pub fits_push : (sc : Scope) (frame globals : List Shape) (x : Name) → is_taken sc x ≡ false → Fits sc frame globals → Fits (declare x a_scalar sc) ((x, 0) ∷ frame) globals
  fits_push sc frame globals x free g = subst (λ u. Fits u ((x, 0) ∷ frame) globals) (sym (ap (λ t. if t then sc else add x a_scalar sc) free)) (λ y. by y (bytes_eq y x))
    where
      by : (y : Name) (t : Bool) → Fit (or_outer (if t then Some 0 else find_shape y frame) (find_shape y globals)) y (scopes.or_else (if t then Some a_scalar else scopes.find y sc.here) (scopes.find y sc.outside))
      by y true = refl
      by y false = g y

  pub good_push : (sc : Scope) (s : State) (x : Name) (t : Ty) (v : Option ℤ) → is_taken sc x ≡ false → Good sc s → Good (declare x a_scalar sc) (push x (scalar t v) s)
  good_push sc s x t v free g = (fits_push sc (shapes s.frame) (shapes s.globals) x free g.0, g.1)

  pub fits_params : (ps : List Param) (sc : Scope) (frame globals : List Shape) → HasNone (params_breaches sc (map unplaced_param ps)) → Fits sc frame globals → Fits (scopes.with_params sc (map unplaced_param ps)) (param_shapes ps frame) globals
  fits_params [] sc frame globals h g = g
  fits_params (x ∷ ps) sc frame globals h g =
      fits_params ps (declare x.name a_scalar sc) ((x.name, 0) ∷ frame) globals h.1 (fits_push sc frame globals x.name (none_if (is_taken sc x.name) N2 0 h.0) g)

  -- ---- expressions

  count_bare : (es : b.Exprs) → length (p.expr_list (unplaced_exprs es)) ≡ length (b.expr_list es)
  count_bare no_exprs = refl
  count_bare (more_exprs e es) = ap suc (count_bare es)

  pub args_count : (es : b.Exprs) → length (p.expr_list (unplaced_exprs es)) ≡ length (b.expr_list es)
  args_count = count_bare

  is_scalar : (o : Option Cell) (d : Bool) → shape_of o ≡ Some 0 → IsReadable o d
  is_scalar None d h = absurd (cc)
  is_scalar (Some (scalar t v)) d h = tt
  is_scalar (Some (array t dims es)) d h = absurd (cc)

  is_missing : (o : Option Cell) (d : Bool) → shape_of o ≡ None → d ≡ true → IsReadable o d
  is_missing None d h k = k
  is_missing (Some c) d h k = absurd (cc)

  is_array : (o : Option Cell) (j : ℕ) → shape_of o ≡ Some (suc (suc j)) → IsArrayOf (suc j) o
  is_array None j h = absurd (cc)
  is_array (Some (scalar t v)) j h = absurd (cc)
  is_array (Some (array t dims es)) j h = let same : suc (length dims) ≡ suc (suc j) = ap (λ o. unwrap_or o 0) h in omega (arith, same)

  is_variable : (o : Option Cell) (d : ℕ) → shape_of o ≡ Some (form_of d) → IsVariableOf d o
  is_variable None d h = absurd (cc)
  is_variable (Some (scalar t v)) zero h = refl
  is_variable (Some (scalar t v)) (suc j) h = absurd (cc)
  is_variable (Some (array t dims es)) zero h = absurd (cc)
  is_variable (Some (array t dims es)) (suc j) h = let same : suc (length dims) ≡ suc (suc j) = ap (λ o. unwrap_or o 0) h in omega (arith, same)

  -- a name that is used with so many subscripts
  read_found : (o : Option Cell) (x : Name) (m : Option Entity) → HasNone (use_breaches m 0 0) → Fit (shape_of o) x m → IsReadable o (is_define ds x)
  read_found o x None h f = absurd h
  read_found o x (Some (Define c)) h f = is_missing o (is_define ds x) f.0 f.1
  read_found o x (Some (Variable d)) h f = is_scalar o (is_define ds x) (f ∙ ap (λ k. Some (form_of k)) (sym (as_many 0 d N3 0 h)))
  read_found o x (Some (Function k depth)) h f = absurd h

  item_found : (o : Option Cell) (x : Name) (m : Option Entity) (j : ℕ) → HasNone (use_breaches m (suc j) 0) → Fit (shape_of o) x m → IsArrayOf (suc j) o
  item_found o x None j h f = absurd h
  item_found o x (Some (Define c)) j h f = let none : suc j ≡ 0 = as_many (suc j) 0 N3 0 h in absurd (omega (arith, none))
  item_found o x (Some (Variable d)) j h f = is_array o j (f ∙ ap (λ k. Some (form_of k)) (sym (as_many (suc j) d N3 0 h)))
  item_found o x (Some (Function k depth)) j h f = absurd h

  target_is : (o : Option Cell) (x : Name) (m : Option Entity) (k : ℕ) → HasNone (use_breaches m k 0) → HasNone (assign_breaches m 0) → Fit (shape_of o) x m → IsVariableOf k o
  target_is o x None k h a f = absurd h
  target_is o x (Some (Define c)) k h a f = absurd a
  target_is o x (Some (Variable d)) k h a f = is_variable o k (f ∙ ap (λ j. Some (form_of j)) (sym (as_many k d N3 0 h)))
  target_is o x (Some (Function j depth)) k h a f = absurd h

  module _ (sc : Scope) (s : State) (g : Fits sc (shapes s.frame) (shapes s.globals)) where
    -- what a name means fits what is looked up
    looked : (x : Name) → Fit (shape_of (look s x)) x (meaning sc x)
    looked x = subst (λ o. Fit o x (meaning sc x)) (sym (look_shape x s)) (g x)

    mutual
      pub found : (e : b.Expr) → HasNone (expr_breaches sc (unplaced_expr e)) → WellFormedExpr e → Found ds s e
      found (num k t) h w = tt
      found (read x) h w = read_found (look s x) x (meaning sc x) h (looked x)
      found (item x no_exprs) h w = absurd w.1
      found (item x (more_exprs e es)) h w = (
        subst (λ k. IsArrayOf (suc k) (look s x)) (count_bare es) (item_found (look s x) x (meaning sc x) (length (p.expr_list (unplaced_exprs es))) h.0 (looked x)),
        each_found (more_exprs e es) h.1 w.2,
      )
      found (un op a) h w = found a h w
      found (bin op l r) h w = (found l h.0 w.0, found r h.1 w.1)
      found (cond a y n) h w = (found a h.0 w.0, found y h.1.0 w.1, found n h.1.1 w.2)
      found (cast t a) h w = found a h w

      pub each_found : (es : b.Exprs) → HasNone (exprs_breaches sc (unplaced_exprs es)) → WellFormedExprs es → EachFound ds s es
      each_found no_exprs h w = tt
      each_found (more_exprs e es) h w = (found e h.0 w.0, each_found es h.1 w.1)

    pub found_if : (o : Option b.Expr) → HasNone (option_breaches sc (option_map unplaced_expr o)) → WellFormedOption o → FoundIf ds s o
    found_if None h w = tt
    found_if (Some e) h w = found e h w

    pub target_found : (t : Target) → HasNone (target_breaches sc (unplaced_target t)) → WellFormedTarget t → TargetFound ds s t
    target_found (target x es) h w = (
      subst (λ k. IsVariableOf k (look s x)) (count_bare es) (target_is (look s x) x (meaning sc x) (length (p.expr_list (unplaced_exprs es))) h.0 h.1.0 (looked x)),
      each_found es h.1.1 w.1,
    )
