-- A program has the same outcome when its stacks are replaced.
use Rattle.std.proofs.Common.{◌≡◌, refl, ap, ◌∙◌, sym, subst, ℕ, List, [], ◌∷◌, Option, Some, None, Ok, Bool, true, false}
use Rattle.std.specs.Prelude.{bytes_eq, if◌then◌else◌}
use Rattle.c_tree.specs.Bare.{Name, Exprs, Param, Stmts, Top, define, extern_, global, function, main, Program}
use Rattle.c_semantics.specs.Meaning.State.{scalar, Var, State, push, with_frame, with_globals, nowhere}
use Rattle.c_semantics.specs.Meaning.Expressions.{Define}
use Rattle.c_semantics.specs.Meaning.SimpleStatements.{Function, function_named, arguments}
use Rattle.c_semantics.specs.Meaning.Statements.{exec_all}
use Rattle.c_semantics.specs.Meaning.FileVariables.{defines_with}
use Rattle.c_semantics.specs.Meaning.Programs.{Outcome, finish, globals_with, run_items, run_program}
use Rattle.c_scopes.specs.Types.{FileHasTypes, HasTypes, FileIs, with_params, KeepsFile, EachKeepsFile}
use Rattle.c_scopes.specs.Laws.{scope_with}
use Rattle.c_scopes.proofs.Kept.{all_grown}
use Rattle.c_scopes.proofs.Scopes.{calls_have_types, items_have_types, later_scopes}
use Rattle.c_scopes.proofs.Alike.{block_alike}
use Rattle.apply_rewrite.specs.Rewritten.{AllRewritten, TopRewritten, ProgramRewritten}
use Rattle.apply_rewrite.specs.Laws.{OutcomesAgree}
use Rattle.apply_rewrite.proofs.Congruent.{CalledAlike, all_run}

abbrev EachCalledAlike : State → List Function → List Function → Type 0
EachCalledAlike file fs gs = (x : Name) → CalledAlike file (function_named x fs) (function_named x gs)

-- what is called alike stays so after one more item
called_later : (file : State) (i : Top) (f g : Option Function) → CalledAlike file f g → CalledAlike (scope_with file i) f g
called_later file i None None h = h
called_later file i None (Some g) h = h
called_later file i (Some f) None h = h
called_later file i (Some f) (Some g) h = (h.0, λ ds s es vs t e. h.1 ds s es vs (later_scopes file s i t) e)

params_globals : (ps : List Param) (s : State) → (with_params ps s).globals ≡ s.globals
params_globals [] s = refl
params_globals (p ∷ ps) s = params_globals ps (push p.name (scalar p.ty None) s)

-- ---- one more function

module _ (n : ℕ) (ds : List Define) (fs gs : List Function) (keeps : EachKeepsFile (record { defines = ds; functions = fs })) (x : Name) (ps : List Param) where
  one_keeps : (a : Stmts) → EachKeepsFile (record { defines = ds; functions = record { name = x; params = ps; run = exec_all n (record { defines = ds; functions = fs }) a } ∷ fs })
  one_keeps a = λ y. by (function_named y fs) (bytes_eq y x) (keeps y)
    where
      by : (o : Option Function) (b : Bool) → KeepsFile o → KeepsFile (if b then Some (record { name = x; params = ps; run = exec_all n (record { defines = ds; functions = fs }) a }) else o)
      by o true k = λ vs s. (all_grown n (record { defines = ds; functions = fs }) keeps a (with_frame vs s)).2
      by o false k = k

  one_called : (file : State) → file.frame ≡ [] → EachCalledAlike file fs gs → (a b : Stmts) → AllRewritten ds (with_params ps file) a b →
      EachCalledAlike file (record { name = x; params = ps; run = exec_all n (record { defines = ds; functions = fs }) a } ∷ fs) (record { name = x; params = ps; run = exec_all n (record { defines = ds; functions = gs }) b } ∷ gs)
  one_called file none called a b h = λ y. by (function_named y fs) (function_named y gs) (bytes_eq y x) (called y)
    where
      in_call : (us : List Define) (s : State) (es : Exprs) (vs : List Var) → FileHasTypes file s → arguments us s ps es [] ≡ Ok vs →
          exec_all n (record { defines = ds; functions = gs }) b (with_frame vs s) ≡ exec_all n (record { defines = ds; functions = fs }) a (with_frame vs s)
      in_call us s es vs t e =
          all_run n ds fs gs file called keeps (with_params ps file) (params_globals ps file) a b h (with_frame vs s)
          (subst (λ z. HasTypes (with_params ps z) (with_frame vs s)) (ap (λ l. with_frame l file) (sym none)) (calls_have_types us file s ps es vs t e))

      by : (o q : Option Function) (t : Bool) → CalledAlike file o q →
          CalledAlike file (if t then Some (record { name = x; params = ps; run = exec_all n (record { defines = ds; functions = fs }) a }) else o) (if t then Some (record { name = x; params = ps; run = exec_all n (record { defines = ds; functions = gs }) b }) else q)
      by o q true k = (refl, in_call)
      by o q false k = k

-- ---- items

module _ (n : ℕ) where
  -- items that run alike after any item
  abbrev RestAgrees : Program → Program → Type 0
  RestAgrees is js =
      (ds : List Define) (fs gs : List Function) (scope s : State) → EachKeepsFile (record { defines = ds; functions = fs }) → EachCalledAlike scope fs gs → FileIs scope s → ProgramRewritten ds scope is js →
      run_items n js (record { defines = ds; functions = gs }) s ≡ run_items n is (record { defines = ds; functions = fs }) s

  module _ (ds : List Define) (fs gs : List Function) (scope s : State) (keeps : EachKeepsFile (record { defines = ds; functions = fs })) (called : EachCalledAlike scope fs gs) (file : FileIs scope s) where
    later : (i : Top) → EachCalledAlike (scope_with scope i) fs gs
    later i = λ x. called_later scope i (function_named x fs) (function_named x gs) (called x)

    next : (i : Top) → FileIs (scope_with scope i) (with_globals (globals_with ds s.globals i) s)
    next i = (items_have_types ds scope s i file).1

    one_item : (i j : Top) (is js : Program) → RestAgrees is js → TopRewritten ds scope i j → ProgramRewritten (defines_with ds i) (scope_with scope i) is js →
        run_items n (j ∷ js) (record { defines = ds; functions = gs }) s ≡ run_items n (i ∷ is) (record { defines = ds; functions = fs }) s
    one_item (function x ps a) (function y qs b) is js rest u h =
        ap (λ z. run_items n (function z qs b ∷ js) (record { defines = ds; functions = gs }) s) u.0 ∙ ap (λ z. run_items n (function x z b ∷ js) (record { defines = ds; functions = gs }) s) u.1
        ∙ rest ds _ _ scope s (one_keeps n ds fs gs keeps x ps a) (one_called n ds fs gs keeps x ps scope file.scope_frame called a b u.2) file h
    one_item (main a) (main b) is js rest u h =
        block_alike scope (exec_all n (record { defines = ds; functions = gs }) b) (exec_all n (record { defines = ds; functions = fs }) a) (all_run n ds fs gs scope called keeps scope refl a b u) s (items_have_types ds scope s (main a) file).0
    one_item (define x minus k t) j is js rest u h =
        ap (λ z. run_items n (z ∷ js) (record { defines = ds; functions = gs }) s) u ∙ rest (defines_with ds (define x minus k t)) fs gs scope s keeps called file h
    one_item (extern_ p) j is js rest u h = ap (λ z. run_items n (z ∷ js) (record { defines = ds; functions = gs }) s) u ∙ rest ds fs gs scope s keeps called file h
    one_item (global t x dims e) j is js rest u h =
        ap (λ z. run_items n (z ∷ js) (record { defines = ds; functions = gs }) s) u
        ∙ rest ds fs gs (scope_with scope (global t x dims e)) (with_globals (globals_with ds s.globals (global t x dims e)) s) keeps (later (global t x dims e)) (next (global t x dims e)) h
    one_item (function x ps a) j is js rest u h = cc
    one_item (main a) j is js rest u h = cc

  pub items_agree : (p q : Program) → RestAgrees p q
  items_agree [] [] ds fs gs scope s keeps called file h = refl
  items_agree [] (j ∷ js) ds fs gs scope s keeps called file h = absurd h
  items_agree (i ∷ is) [] ds fs gs scope s keeps called file h = absurd h
  items_agree (i ∷ is) (j ∷ js) ds fs gs scope s keeps called file h = one_item ds fs gs scope s keeps called file i j is js (items_agree is js) h.0 h.1

pub outcomes_agree : OutcomesAgree
outcomes_agree n p q input h =
    let start : State = record { frame = []; globals = []; lines = []; input = input; turns = 0 } in
    let e : run_program n q input ≡ run_program n p input = items_agree n p q [] [] [] nowhere start (λ x. tt) (λ x. tt) (record { filed = λ x. refl; scope_frame = refl; frame = refl }) h in
    (ap {B = Outcome} (λ r. record { lines = r.state.lines; globals = r.state.globals; input = r.state.input; end = finish r.end }) e, ap (λ r. r.state.turns) e)
