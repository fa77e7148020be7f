-- What is known after the items of a file fits the file's variables, defines and functions.
use Rattle.std.proofs.Common.{◌≡◌, refl, sym, ap, ◌∙◌, subst, ℕ, suc, List, [], ◌∷◌, ◌++◌, length, map, Option, Some, None, is_some, Bool, true, false, ◌||◌}
use Rattle.std.specs.Prelude.{bytes_eq, if◌then◌else◌}
use Rattle.std.specs.Cmp.Lexicographic.{bytes_decides}
use Rattle.c_tree.specs.Bare.{Name, Expr}
use Rattle.c_tree.specs.Placed as p
use Rattle.c_tree.specs.declared.tree.Ty.{Ty}
use Rattle.c_tree.specs.declared.name_rule.Entity.{Entity}
use Rattle.c_tree.specs.declared.name_rule.Entity.TheVariants as e
use Rattle.c_tree.specs.NameRules.DeclaredNames as names
use Rattle.c_tree.specs.NameRules.DeclaredNames.{is_among, with_name}
use Rattle.c_tree.specs.NameRules.Scopes.{Scope, meaning, is_taken, add, declare, inner}
use Rattle.c_tree.specs.NameRules.Scopes as scopes
use Rattle.c_tree.specs.NameRules.Programs.{Known}
use Rattle.c_semantics.specs.Meaning.State.{Var, State, with_frame}
use Rattle.c_semantics.specs.Meaning.Expressions.{Define, is_define}
use Rattle.c_semantics.specs.Meaning.SimpleStatements.{Function, Env, function_named}
use Rattle.c_semantics.specs.Meaning.Programs.{initial}
use Rattle.c_semantics.specs.Loops.Directives.{number}
use Rattle.c_soundness.proofs.Shapes.{Shape, form, shapes, FunctionKeeps}
use Rattle.c_soundness.proofs.Fits.{find_shape, or_outer, form_of, FitsGlobal, GlobalsFit, CanCall, Fit, Fits}

-- ---- names stay noted

or_right : (a c : Bool) → c ≡ true → (a || c) ≡ true
or_right true c h = refl
or_right false c h = h

or_more : (c a d : Bool) → (a ≡ true → d ≡ true) → (c || a) ≡ true → (c || d) ≡ true
or_more true a d f h = refl
or_more false a d f h = f h

or_none : (a c : Bool) → (a || c) ≡ false → a ≡ false
or_none true c h = h
or_none false c h = refl

unless : (a c : Bool) → (a ≡ true → c ≡ true) → c ≡ false → a ≡ false
unless true c f h = sym (f refl) ∙ h
unless false c f h = refl

no_entity : (o : Option Entity) → is_some o ≡ false → o ≡ None
no_entity None h = refl
no_entity (Some x) h = absurd (cc)

no_shape : (o : Option ℕ) → is_some o ≡ false → o ≡ None
no_shape None h = refl
no_shape (Some x) h = absurd (cc)

pub one_name : (x y : Name) → bytes_eq x y ≡ true → x ≡ y
one_name x y h = (bytes_decides x y).0 h

is_itself : (x : Name) → bytes_eq x x ≡ true
is_itself x = (bytes_decides x x).1 refl

pub stays_in : (x y : Name) (ns : List Name) → is_among x ns ≡ true → is_among x (with_name y ns) ≡ true
stays_in x y [] h = absurd (cc)
stays_in x y (z ∷ ns) h = by (stays_in x y ns) (bytes_eq y z)
  where
    by : (is_among x ns ≡ true → is_among x (with_name y ns) ≡ true) → (t : Bool) → is_among x (if t then z ∷ ns else z ∷ with_name y ns) ≡ true
    by rest true = h
    by rest false = or_more (bytes_eq x z) (is_among x ns) (is_among x (with_name y ns)) rest h

own_in : (y : Name) (ns : List Name) → is_among y (with_name y ns) ≡ true
own_in y [] = ap (λ t. t || false) (is_itself y)
own_in y (z ∷ ns) = by (own_in y ns) (bytes_eq y z) refl
  where
    by : is_among y (with_name y ns) ≡ true → (t : Bool) → bytes_eq y z ≡ t → is_among y (if t then z ∷ ns else z ∷ with_name y ns) ≡ true
    by rest true q = ap (λ t. t || is_among y ns) q
    by rest false q = or_right (bytes_eq y z) (is_among y (with_name y ns)) rest

mutual
  stmt_keeps : (x : Name) (ns : List Name) (a : p.Stmt) → is_among x ns ≡ true → is_among x (names.with_stmt ns a) ≡ true
  stmt_keeps x ns (p.decl t y at init s) h = stays_in x y ns h
  stmt_keeps x ns (p.if_ e a s) h = stmts_keep x ns a h
  stmt_keeps x ns (p.if_else e a c s) h = stmts_keep x (names.with_stmts ns a) c (stmts_keep x ns a h)
  stmt_keeps x ns (p.while_ e a s) h = stmts_keep x ns a h
  stmt_keeps x ns (p.do_ a e s) h = stmts_keep x ns a h
  stmt_keeps x ns (p.for_ u a s) h = stmts_keep x (names.with_head ns u) a (head_keeps x ns u h)
  stmt_keeps x ns (p.block a s) h = stmts_keep x ns a h
  stmt_keeps x ns (p.omp d a s) h = stmts_keep x ns a h
  stmt_keeps x ns _ h = h

  pub stmts_keep : (x : Name) (ns : List Name) (as' : p.Stmts) → is_among x ns ≡ true → is_among x (names.with_stmts ns as') ≡ true
  stmts_keep x ns p.no_stmts h = h
  stmts_keep x ns (p.more_stmts a as') h = stmts_keep x (names.with_stmt ns a) as' (stmt_keeps x ns a h)

  part_keeps : (x : Name) (ns : List Name) (a : p.MaybeStmt) → is_among x ns ≡ true → is_among x (names.with_part ns a) ≡ true
  part_keeps x ns p.no_stmt h = h
  part_keeps x ns (p.a_stmt a) h = stmt_keeps x ns a h

  head_keeps : (x : Name) (ns : List Name) (u : p.Head) → is_among x ns ≡ true → is_among x (names.with_head ns u) ≡ true
  head_keeps x ns (p.head init init_at test test_at next next_at) h = part_keeps x (names.with_part ns init) next (part_keeps x ns init h)

pub params_keep : (x : Name) (ns : List Name) (ps : List p.Param) → is_among x ns ≡ true → is_among x (names.with_params ns ps) ≡ true
params_keep x ns [] h = h
params_keep x ns (y ∷ ps) h = params_keep x (with_name y.name ns) ps (stays_in x y.name ns h)

-- ---- what fits still fits

module _ (ds ds' : List Define) (fs fs' : List Function) (Runs Runs' : Name → State → Type 0) (file file' : Scope) where
  can_moved : (y : Name) (k : ℕ) → function_named y fs' ≡ function_named y fs → ((t : State) → Runs y t → Runs' y t) → ((gs : List Shape) → GlobalsFit file' gs → GlobalsFit file gs)
      → CanCall file fs Runs y k → CanCall file' fs' Runs' y k
  can_moved y k same up back can = (can.0, same ∙ can.1, can.2, λ vs t g e. up (with_frame vs t) (can.3 vs t (back (shapes t.globals) g) e))

  moved : (o o' : Option ℕ) (y : Name) (m : Option Entity) → o' ≡ o → (is_define ds y ≡ true → is_define ds' y ≡ true) → ((k : ℕ) → CanCall file fs Runs y k → CanCall file' fs' Runs' y k)
      → Fit ds fs Runs file o y m → Fit ds' fs' Runs' file' o' y m
  moved o o' y None same defined can h = tt
  moved o o' y (Some (e.Variable d)) same defined can h = same ∙ h
  moved o o' y (Some (e.Define c)) same defined can h = (same ∙ h.0, defined h.1)
  moved o o' y (Some (e.Function k depth)) same defined can h = can k h

module _ (ds : List Define) (fs : List Function) (Runs : Name → State → Type 0) (file : Scope) where
  -- the file's variables may be others that fit
  pub refit : (o o' : Option ℕ) (y : Name) (m : Option Entity) → Fit ds fs Runs file o y m → FitsGlobal o' m → Fit ds fs Runs file o' y m
  refit o o' y None h g = tt
  refit o o' y (Some (e.Variable d)) h g = g
  refit o o' y (Some (e.Define c)) h g = (g, h.1)
  refit o o' y (Some (e.Function k depth)) h g = h

  pub global_fits : (o : Option ℕ) (y : Name) (m : Option Entity) → Fit ds fs Runs file o y m → FitsGlobal o m
  global_fits o y None h = tt
  global_fits o y (Some (e.Variable d)) h = h
  global_fits o y (Some (e.Define c)) h = h.0
  global_fits o y (Some (e.Function k depth)) h = tt

-- one more name in the file's scope
module _ (sc : Scope) (x : Name) (new : Entity) (absent : meaning sc x ≡ None) where
  pub without : (gs : List Shape) → GlobalsFit (add x new sc) gs → GlobalsFit sc gs
  without gs g y = by (bytes_eq y x) refl (g y)
    where
      by : (t : Bool) → bytes_eq y x ≡ t → FitsGlobal (find_shape y gs) (scopes.or_else (if t then Some new else scopes.find y sc.here) (scopes.find y sc.outside)) → FitsGlobal (find_shape y gs) (meaning sc y)
      by true q h = subst (FitsGlobal (find_shape y gs)) (sym (ap (meaning sc) (one_name y x q) ∙ absent)) tt
      by false q h = h

  pub extended : (ds ds' : List Define) (fs fs' : List Function) (Runs Runs' : Name → State → Type 0) (gs gs' : List Shape)
      → Fits ds fs Runs sc sc [] gs
      → ((y : Name) → bytes_eq y x ≡ false → find_shape y gs' ≡ find_shape y gs)
      → ((y : Name) → is_define ds y ≡ true → is_define ds' y ≡ true)
      → ((y : Name) → bytes_eq y x ≡ false → function_named y fs' ≡ function_named y fs)
      → ((y : Name) → bytes_eq y x ≡ false → (t : State) → Runs y t → Runs' y t)
      → ((y : Name) → bytes_eq y x ≡ true → Fit ds' fs' Runs' (add x new sc) (find_shape y gs') y (Some new))
      → Fits ds' fs' Runs' (add x new sc) (add x new sc) [] gs'
  extended ds ds' fs fs' Runs Runs' gs gs' fits same defined named up own y = by (bytes_eq y x) refl
    where
      by : (t : Bool) → bytes_eq y x ≡ t → Fit ds' fs' Runs' (add x new sc) (find_shape y gs') y (scopes.or_else (if t then Some new else scopes.find y sc.here) (scopes.find y sc.outside))
      by true q = own y q
      by false q =
          moved ds ds' fs fs' Runs Runs' sc (add x new sc) (find_shape y gs) (find_shape y gs') y (meaning sc y) (same y q) (defined y)
          (λ k. can_moved ds ds' fs fs' Runs Runs' sc (add x new sc) y k (named y q) (up y q) without) (fits y)

-- ---- what is known of a file

pub record Filed (k : Known) (env : Env) (Runs : Name → State → Type 0) (globals : List Var) : Type 0 where
  pub fits : Fits env.defines env.functions Runs k.scope k.scope [] (shapes globals)
  pub keeps : (x : Name) → FunctionKeeps (function_named x env.functions)
  pub outside : k.scope.outside ≡ []
  pub noted : (x : Name) → is_some (scopes.find x k.scope.here) ≡ true → is_among x k.names ≡ true
  pub declared : (x : Name) → is_some (find_shape x (shapes globals)) ≡ true → is_some (scopes.find x k.scope.here) ≡ true

module _ (k : Known) (env : Env) (Runs : Name → State → Type 0) (globals : List Var) (filed : Filed k env Runs globals) where
  pub free : (x : Name) → is_taken k.scope x ≡ false → is_some (scopes.find x k.scope.here) ≡ false
  free x h = or_none (is_some (scopes.find x k.scope.here)) _ h

  pub new_name : (x : Name) → is_among x k.names ≡ false → is_some (scopes.find x k.scope.here) ≡ false
  new_name x h = unless (is_some (scopes.find x k.scope.here)) (is_among x k.names) (filed.noted x) h

  pub absent : (x : Name) → is_some (scopes.find x k.scope.here) ≡ false → meaning k.scope x ≡ None
  absent x h = λ i. scopes.or_else (no_entity (scopes.find x k.scope.here) h i) (scopes.find x (filed.outside i))

  pub no_global : (x : Name) → is_some (scopes.find x k.scope.here) ≡ false → find_shape x (shapes globals) ≡ None
  no_global x h = no_shape (find_shape x (shapes globals)) (unless (is_some (find_shape x (shapes globals))) (is_some (scopes.find x k.scope.here)) (filed.declared x) h)

  pub noted_more : (x : Name) (new : Entity) (ns : List Name) → ((y : Name) → is_among y k.names ≡ true → is_among y ns ≡ true) → (y : Name)
      → is_some (scopes.find y (add x new k.scope).here) ≡ true → is_among y (with_name x ns) ≡ true
  noted_more x new ns more y = by (bytes_eq y x) refl
    where
      by : (t : Bool) → bytes_eq y x ≡ t → is_some (if t then Some new else scopes.find y k.scope.here) ≡ true → is_among y (with_name x ns) ≡ true
      by true q h = subst (λ z. is_among z (with_name x ns) ≡ true) (sym (one_name y x q)) (own_in x ns)
      by false q h = stays_in y x ns (more y (filed.noted y h))

  pub declared_more : (x y : Name) (new : Entity) → is_some (scopes.find y k.scope.here) ≡ true → is_some (scopes.find y (add x new k.scope).here) ≡ true
  declared_more x y new h = by (bytes_eq y x)
    where
      by : (t : Bool) → is_some (if t then Some new else scopes.find y k.scope.here) ≡ true
      by true = refl
      by false = h

  pub declared_own : (x y : Name) (new : Entity) → bytes_eq y x ≡ true → is_some (scopes.find y (add x new k.scope).here) ≡ true
  declared_own x y new q = ap (λ t. is_some (if t then Some new else scopes.find y k.scope.here)) q

-- ---- a define

pub defined_still : (d : Define) (ds : List Define) (y : Name) → is_define ds y ≡ true → is_define (d ∷ ds) y ≡ true
defined_still d ds y h = by (bytes_eq y d.name)
  where
    by : (t : Bool) → (if t then true else is_define ds y) ≡ true
    by true = refl
    by false = h

-- ---- a variable

pub find_last : (y : Name) (gs : List Shape) (v : Shape) → find_shape y (gs ++ v ∷ []) ≡ or_outer (find_shape y gs) (if bytes_eq y v.0 then Some v.1 else None)
find_last y [] v = refl
find_last y (g ∷ gs) v = by (find_last y gs v) (bytes_eq y g.0)
  where
    by : find_shape y (gs ++ v ∷ []) ≡ or_outer (find_shape y gs) (if bytes_eq y v.0 then Some v.1 else None) → (t : Bool) → (if t then Some g.1 else find_shape y (gs ++ v ∷ [])) ≡ or_outer (if t then Some g.1 else find_shape y gs) (if bytes_eq y v.0 then Some v.1 else None)
    by rest true = refl
    by rest false = rest

pub or_nothing : (o : Option ℕ) → or_outer o None ≡ o
or_nothing None = refl
or_nothing (Some k) = refl

pub shapes_last : (vs : List Var) (v : Var) → shapes (vs ++ v ∷ []) ≡ shapes vs ++ (v.name, form v.cell) ∷ []
shapes_last [] v = refl
shapes_last (w ∷ vs) v = ap (λ r. (w.name, form w.cell) ∷ r) (shapes_last vs v)

map_length : (ds : List Define) (es : List Expr) → length (map (number ds) es) ≡ length es
map_length ds [] = refl
map_length ds (d ∷ es) = ap suc (map_length ds es)

pub initial_form : (ds : List Define) (t : Ty) (es : List Expr) (o : Option Expr) → form (initial ds t es o) ≡ form_of (length es)
initial_form ds t [] None = refl
initial_form ds t [] (Some a) = refl
initial_form ds t (d ∷ es) o = ap (λ j. suc (suc j)) (map_length ds es)
