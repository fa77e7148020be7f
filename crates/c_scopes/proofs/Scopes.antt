-- What a scope says of a state stays true.
use Rattle.std.proofs.Common.{◌≡◌, refl, sym, ap, ◌∙◌, subst, ℕ, List, [], ◌∷◌, ◌++◌, Option, Some, None, Result, Ok, Err, Bool, true, false, ℤ}
use Rattle.std.specs.Prelude.{bytes_eq, is_some, if◌then◌else◌}
use Rattle.std.specs.Cmp.Lexicographic.{bytes_decides}
use Rattle.c_tree.specs.Bare.{Name, Expr, Exprs, expr_list, no_exprs, more_exprs, Stmt, decl, MaybeStmt, no_stmt, a_stmt, Param, Top, define, extern_, global, function, main, Program}
use Rattle.c_tree.specs.declared.tree.Ty.{Ty}
use Rattle.c_tree.specs.declared.arithmetic.Trap.{Trap}
use Rattle.c_tree.specs.Arithmetic.{and_then, convert}
use Rattle.c_semantics.specs.Meaning.State.{Cell, scalar, Var, State, find, or_else, push, with_frame, with_globals}
use Rattle.c_semantics.specs.Meaning.Expressions.{Define, cell_type, eval}
use Rattle.c_semantics.specs.Meaning.Runs.{Next, ends, with_value}
use Rattle.c_semantics.specs.Meaning.SimpleStatements.{Function, Env, function_named, arguments}
use Rattle.c_semantics.specs.Meaning.Statements.{exec, exec_all, exec_maybe}
use Rattle.c_semantics.specs.Meaning.Programs.{initial, env_with, env_after, globals_with, no_env}
use Rattle.c_semantics.specs.Structure.Skeleton.{scope_after, scope_in}
use Rattle.c_scopes.specs.Types.{types, type_held, type_seen, type_filed, FileHasTypes, HasTypes, FileIs, with_params, KeepsFile, EachKeepsFile}
use Rattle.c_scopes.specs.Laws.{StatementsKeepTypes, BlocksKeepTypes, ProgramsKeepTypes, CallsHaveTypes, scope_with, ItemsHaveTypes, LaterScopes}
use Rattle.c_scopes.proofs.Kept.{Same, block_same, all_grown, exec_same}

-- ---- what is seen depends on names and types only

abbrev type_named : Name → List (Name × Ty) → Option Ty
type_named x [] = None
type_named x (v ∷ vs) = if bytes_eq x v.0 then Some v.1 else type_named x vs

abbrev or_outer : Option Ty → Option Ty → Option Ty
or_outer None o = o
or_outer (Some t) o = Some t

find_type : (x : Name) (vs : List Var) → type_held (find x vs) ≡ type_named x (types vs)
find_type x [] = refl
find_type x (v ∷ vs) = by (find_type x vs) (bytes_eq x v.name)
  where
    by : type_held (find x vs) ≡ type_named x (types vs) → (t : Bool) → type_held (if t then Some v.cell else find x vs) ≡ (if t then Some (cell_type v.cell) else type_named x (types vs))
    by rest true = refl
    by rest false = rest

look_type : (x : Name) (s : State) → type_seen s x ≡ or_outer (type_named x (types s.frame)) (type_named x (types s.globals))
look_type x s = by (find x s.frame) (find x s.globals) ∙ (λ i. or_outer (find_type x s.frame i) (find_type x s.globals i))
  where
    by : (o q : Option Cell) → type_held (or_else o q) ≡ or_outer (type_held o) (type_held q)
    by None q = refl
    by (Some c) q = refl

same_seen : (s u : State) → Same s u → (x : Name) → type_seen u x ≡ type_seen s x
same_seen s u h x = look_type x u ∙ (λ i. or_outer (type_named x (h.0 i)) (type_named x (h.1 i))) ∙ sym (look_type x s)

same_filed : (s u : State) → Same s u → (x : Name) → type_filed u x ≡ type_filed s x
same_filed s u h x = find_type x u.globals ∙ ap (type_named x) h.1 ∙ sym (find_type x s.globals)

pub kept : (scope s u : State) → Same s u → HasTypes scope s → HasTypes scope u
kept scope s u h g = record { seen = λ x t e. same_seen s u h x ∙ g.seen x t e; filed = λ x t e. same_filed s u h x ∙ g.filed x t e }

-- ---- one more variable

pub pushed : (scope s : State) (x : Name) (c d : Cell) → cell_type d ≡ cell_type c → HasTypes scope s → HasTypes (push x c scope) (push x d s)
pushed scope s x c d same g = record { seen = λ y t. by y t (bytes_eq y x); filed = g.filed }
  where
    by : (y : Name) (t : Ty) (b : Bool) → type_held (or_else (if b then Some c else find y scope.frame) (find y scope.globals)) ≡ Some t → type_held (or_else (if b then Some d else find y s.frame) (find y s.globals)) ≡ Some t
    by y t true e = ap {B = Option Ty} Some same ∙ e
    by y t false e = g.seen y t e

-- ---- statements

module _ (n : ℕ) (env : Env) (functions : EachKeepsFile env) where
  set_up : (scope s : State) (t : Ty) (x : Name) (r : Result ℤ Trap) → HasTypes scope s
      → (with_value r (push x (scalar t None) s) (λ z. ends Next (push x (scalar t (Some z)) s))).end ≡ Next
      → HasTypes (push x (scalar t None) scope) (with_value r (push x (scalar t None) s) (λ z. ends Next (push x (scalar t (Some z)) s))).state
  set_up scope s t x (Err y) g e = absurd (cc)
  set_up scope s t x (Ok z) g e = pushed scope s x (scalar t None) (scalar t (Some z)) refl g

  pub after : (scope s : State) → HasTypes scope s → (a : Stmt) → (exec n env a s).end ≡ Next → HasTypes (scope_after a scope) (exec n env a s).state
  after scope s g (decl t x None) e = pushed scope s x (scalar t None) (scalar t None) refl g
  after scope s g (decl t x (Some a)) e = set_up scope s t x (and_then (eval env.defines (push x (scalar t None) s) a) (convert t)) g e
  after scope s g a e = kept scope s (exec n env a s).state (exec_same n env functions a (λ d. d) s) g

  pub after_part : (scope s : State) → HasTypes scope s → (a : MaybeStmt) → (exec_maybe n env a s).end ≡ Next → HasTypes (scope_in a scope) (exec_maybe n env a s).state
  after_part scope s g no_stmt e = g
  after_part scope s g (a_stmt a) e = after scope s g a e

pub statements_keep_types : StatementsKeepTypes
statements_keep_types = λ n env functions scope s g. (
  after n env functions scope s g,
  λ a none. kept scope s (exec n env a s).state (exec_same n env functions a none s) g,
  after_part n env functions scope s g,
)

pub blocks_keep_types : BlocksKeepTypes
blocks_keep_types = λ n env functions scope s g as'. kept scope s _ (block_same (exec_all n env as') (all_grown n env functions as') s) g

-- ---- functions

module _ (n : ℕ) where
  one_more : (env : Env) → EachKeepsFile env → (i : Top) → EachKeepsFile (env_with n env i)
  one_more env h (define x minus k t) = h
  one_more env h (extern_ port) = h
  one_more env h (global t x dims e) = h
  one_more env h (main a) = h
  one_more env h (function x ps a) = λ y. by (function_named y env.functions) (bytes_eq y x) (h y)
    where
      by : (o : Option Function) (b : Bool) → KeepsFile o → KeepsFile (if b then Some (record { name = x; params = ps; run = exec_all n env a }) else o)
      by o true k = λ vs s. (all_grown n env h a (with_frame vs s)).2
      by o false k = k

  each_more : (p : Program) (env : Env) → EachKeepsFile env → EachKeepsFile (env_after n env p)
  each_more [] env h = h
  each_more (i ∷ is) env h = each_more is (env_with n env i) (one_more env h i)

pub programs_keep_types : ProgramsKeepTypes
programs_keep_types = λ n p. each_more n p no_env (λ x. tt)

-- ---- calls

module _ (ds : List Define) (s : State) where
  abbrev held : Param → Option ℤ → Var
  held p o = record { name = p.name; cell = scalar p.ty o }

  abbrev ok_or : Result (List Var) Trap → List Var → List Var
  ok_or (Ok a) d = a
  ok_or (Err t) d = d

  -- further arguments above those that are there
  fill : (scope : State) (ps : List Param) (es : Exprs) (done vs : List Var) → HasTypes scope (with_frame done s) → arguments ds s ps es done ≡ Ok vs → HasTypes (with_params ps scope) (with_frame vs s)
  fill scope [] es done vs g e = subst (λ l. HasTypes scope (with_frame l s)) (ap (λ r. ok_or r done) e) g
  fill scope (p ∷ ps) no_exprs done vs g e =
      fill (push p.name (scalar p.ty None) scope) ps no_exprs (held p None ∷ done) vs (pushed scope (with_frame done s) p.name (scalar p.ty None) (scalar p.ty None) refl g) e
  fill scope (p ∷ ps) (more_exprs a es) done vs g e =
      first (λ z. fill (push p.name (scalar p.ty None) scope) ps es (held p (Some z) ∷ done) vs (pushed scope (with_frame done s) p.name (scalar p.ty None) (scalar p.ty (Some z)) refl g)) (eval ds s a) e
    where
      second : ((z : ℤ) → arguments ds s ps es (held p (Some z) ∷ done) ≡ Ok vs → HasTypes (with_params (p ∷ ps) scope) (with_frame vs s)) → (r : Result ℤ Trap) → and_then r (λ z. arguments ds s ps es (held p (Some z) ∷ done)) ≡ Ok vs → HasTypes (with_params (p ∷ ps) scope) (with_frame vs s)
      second rest (Err t) e = absurd (cc)
      second rest (Ok z) e = rest z e

      first : ((z : ℤ) → arguments ds s ps es (held p (Some z) ∷ done) ≡ Ok vs → HasTypes (with_params (p ∷ ps) scope) (with_frame vs s)) → (r : Result ℤ Trap) → and_then r (λ z. and_then (convert p.ty z) (λ y. arguments ds s ps es (held p (Some y) ∷ done))) ≡ Ok vs → HasTypes (with_params (p ∷ ps) scope) (with_frame vs s)
      first rest (Err t) e = absurd (cc)
      first rest (Ok z) e = second rest (convert p.ty z) e

-- without a frame only the file's variables are seen
pub outside : (scope s : State) → FileHasTypes scope s → HasTypes (with_frame [] scope) (with_frame [] s)
outside scope s g = record { seen = g; filed = g }

pub calls_have_types : CallsHaveTypes
calls_have_types = λ ds scope s ps es vs g e. fill ds s (with_frame [] scope) ps es [] vs (outside scope s g) e

-- ---- items

file_has : (scope s : State) → FileIs scope s → HasTypes scope s
file_has scope s h = record {
  seen = λ x t e. ap (λ l. type_held (or_else (find x l) (find x s.globals))) h.frame ∙ h.filed x ∙ sym (ap (λ l. type_held (or_else (find x l) (find x scope.globals))) h.scope_frame) ∙ e;
  filed = λ x t e. h.filed x ∙ e;
}

find_last : (y : Name) (gs : List Var) (v : Var) → find y (gs ++ v ∷ []) ≡ or_else (find y gs) (if bytes_eq y v.name then Some v.cell else None)
find_last y [] v = refl
find_last y (g ∷ gs) v = by (find_last y gs v) (bytes_eq y g.name)
  where
    by : find y (gs ++ v ∷ []) ≡ or_else (find y gs) (if bytes_eq y v.name then Some v.cell else None) → (t : Bool) → (if t then Some g.cell else find y (gs ++ v ∷ [])) ≡ or_else (if t then Some g.cell else find y gs) (if bytes_eq y v.name then Some v.cell else None)
    by rest true = refl
    by rest false = rest

initial_type : (ds : List Define) (t : Ty) (es : List Expr) (o : Option Expr) → cell_type (initial ds t es o) ≡ t
initial_type ds t [] None = refl
initial_type ds t [] (Some a) = refl
initial_type ds t (d ∷ es) o = refl

last_type : (o : Option Cell) (c : Cell) (t : Ty) → type_held o ≡ None → cell_type c ≡ t → type_held (or_else o (Some c)) ≡ Some t
last_type None c t h e = ap {B = Option Ty} Some e
last_type (Some d) c t h e = absurd (cc)

or_none : (o : Option Cell) → or_else o None ≡ o
or_none None = refl
or_none (Some c) = refl

or_some : (o q : Option Cell) → is_some (type_held o) ≡ true → or_else o q ≡ o
or_some None q h = absurd (cc)
or_some (Some c) q h = refl

none_held : (o : Option Ty) → is_some o ≡ false → o ≡ None
none_held None h = refl
none_held (Some t) h = absurd (cc)

-- one more variable of the file
module _ (scope s : State) (t : Ty) (x : Name) where
  abbrev added : Bool → State
  added b = if b then scope else with_globals (record { name = x; cell = scalar t None } ∷ scope.globals) scope

  added_frame : (b : Bool) → (added b).frame ≡ scope.frame
  added_frame true = refl
  added_frame false = refl

  file_more : (c : Cell) → cell_type c ≡ t → FileIs scope s → (b : Bool) → is_some (type_filed scope x) ≡ b → FileIs (added b) (with_globals (s.globals ++ record { name = x; cell = c } ∷ []) s)
  file_more c same h b q = record {
    filed = λ y. ap type_held (find_last y s.globals (record { name = x; cell = c })) ∙ by b q y (bytes_eq y x) refl;
    scope_frame = added_frame b ∙ h.scope_frame;
    frame = h.frame;
  }
    where
      by : (b : Bool) → is_some (type_filed scope x) ≡ b → (y : Name) (r : Bool) → bytes_eq y x ≡ r → type_held (or_else (find y s.globals) (if r then Some c else None)) ≡ type_filed (added b) y
      by true q y true e =
          let one : y ≡ x = (bytes_decides y x).0 e in
          ap type_held (or_some (find y s.globals) (Some c) (ap is_some (h.filed y ∙ ap (type_filed scope) one) ∙ q)) ∙ h.filed y
      by true q y false e = ap type_held (or_none (find y s.globals)) ∙ h.filed y
      by false q y true e =
          let one : y ≡ x = (bytes_decides y x).0 e in
          last_type (find y s.globals) c t (h.filed y ∙ ap (type_filed scope) one ∙ none_held (type_filed scope x) q) same ∙ sym (ap (λ r. type_held (if r then Some (scalar t None) else find y scope.globals)) e)
      by false q y false e = ap type_held (or_none (find y s.globals)) ∙ h.filed y ∙ sym (ap (λ r. type_held (if r then Some (scalar t None) else find y scope.globals)) e)

  later : (b : Bool) → is_some (type_filed scope x) ≡ b → FileHasTypes (added b) s → FileHasTypes scope s
  later true q g = g
  later false q g = λ y u e. by y u e (bytes_eq y x) refl (g y u)
    where
      by : (y : Name) (u : Ty) → type_filed scope y ≡ Some u → (r : Bool) → bytes_eq y x ≡ r → (type_held (if r then Some (scalar t None) else find y scope.globals) ≡ Some u → type_filed s y ≡ Some u) → type_filed s y ≡ Some u
      by y u e true a k = absurd (let none : type_filed scope y ≡ None = ap (type_filed scope) ((bytes_decides y x).0 a) ∙ none_held (type_filed scope x) q in cc)
      by y u e false a k = k e

pub items_have_types : ItemsHaveTypes
items_have_types = λ ds scope s i h. (file_has scope s h, by ds scope s i h)
  where
    by : (ds : List Define) (scope s : State) (i : Top) → FileIs scope s → FileIs (scope_with scope i) (with_globals (globals_with ds s.globals i) s)
    by ds scope s (global t x dims e) h = file_more scope s t x (initial ds t (expr_list dims) e) (initial_type ds t (expr_list dims) e) h (is_some (type_filed scope x)) refl
    by ds scope s (define x minus k t) h = h
    by ds scope s (extern_ port) h = h
    by ds scope s (function x ps a) h = h
    by ds scope s (main a) h = h

pub later_scopes : LaterScopes
later_scopes = by
  where
    by : (scope s : State) (i : Top) → FileHasTypes (scope_with scope i) s → FileHasTypes scope s
    by scope s (global t x dims e) g = later scope s t x (is_some (type_filed scope x)) refl g
    by scope s (define x minus k t) g = g
    by scope s (extern_ port) g = g
    by scope s (function x ps a) g = g
    by scope s (main a) g = g
