-- A function that neither may read nor may assign a file-scope variable runs alike with and without it.
use Rattle.std.proofs.Common.{◌≡◌, refl, sym, ◌∙◌, ℕ, zero, suc, inl, inr, List, [], ◌∷◌, ◌++◌, Option, Some, None, Bool, true, false}
use Rattle.std.specs.Prelude.{bytes_eq, if◌then◌else◌}
use Rattle.std.specs.Bool.{one_answer}
use Rattle.std.proofs.lemmas.Bool.{both_ways}
use Rattle.std.proofs.lemmas.Slice.Eq.{bytes_eq-Decides}
use Rattle.c_tree.specs.Bare.{Name, Expr, num, read, item, un, bin, cond, cast, Exprs, no_exprs, more_exprs, Target, target, Stmt, decl, set, step, print, input, if_, if_else, while_, do_, for_, block, break_, continue_, empty, omp, call, Stmts, no_stmts, more_stmts, head, MaybeStmt, no_stmt, a_stmt, define, extern_, global, function, main, Program}
use Rattle.c_tree.specs.declared.tree.Ty.{Ty}
use Rattle.c_tree.specs.declared.tree.SetOp.{SetOp}
use Rattle.c_tree.specs.declared.tree.SetOp.TheVariants.{Plain, Add, Sub, Mul, Div, Rem}
use Rattle.c_semantics.specs.Meaning.State.{Var}
use Rattle.c_semantics.specs.Meaning.Expressions.{Define}
use Rattle.c_semantics.specs.Meaning.SimpleStatements.{Function, Env, function_named}
use Rattle.c_semantics.specs.Meaning.Statements.{exec_all}
use Rattle.c_semantics.specs.Meaning.Programs.{env_after, no_env, define_of}
use Rattle.c_semantics.specs.Loops.CanonicalForm.{Canonical, canonical}
use Rattle.c_semantics.specs.Loops.Directives.{plan_of}
use Rattle.c_semantics.specs.Loops.Need.{loops_asked}
use Rattle.c_semantics.specs.Laws.Names.{Names, NamesEach, NamesIf, NamesIn}
use Rattle.c_semantics.specs.Laws.Apart.{Differ, IsUntouched, RunsWithoutUntouched}
use Rattle.c_semantics.specs.Meaning.FileVariables.{has_name, scope_after, scope_in, scope_with, param_names, free_name, free_names, free_names_each, free_names_if, Access, both, reading, assigning, updating, setting, variable, head_access, FunctionAccess, access_of, or_nest, accesses, all_accesses, maybe_accesses, nest_accesses, nests_accesses, accesses_after}
use Rattle.c_semantics.proofs.Touches.{VarNames, LoopNames, Below, Touches, TouchesAll, TouchesIf, TouchesNest, TouchesNests}
use Rattle.c_semantics.proofs.Simulation.{list_alike}
use Rattle.c_semantics.proofs.Apart.{File, Seen, beside_file, CalledBeside, called_body, without_file}

bytes_eq_sym : (x y : Name) → bytes_eq x y ≡ bytes_eq y x
bytes_eq_sym x y =
    let d = bytes_eq-Decides x y in
    let e = bytes_eq-Decides y x in
    one_answer {P = x ≡ y} (bytes_eq x y) (bytes_eq y x) d ((λ t. sym (e.0 t)), (λ p. e.1 (sym p)))

module _ (v : Var) (k : ℕ) where
  -- v's name isn't in the list
  abbrev Free : List Name → Type 0
  Free xs = has_name xs v.name ≡ false

  -- nor in what is accessed
  abbrev Clear : Access → Type 0
  Clear a = Free a.reads × Free a.assigns

  split_free : (xs ys : List Name) → Free (xs ++ ys) → Free xs × Free ys
  split_free [] ys e = (refl, e)
  split_free (z ∷ xs) ys e = by (bytes_eq v.name z) (split_free xs ys) e
    where
      by : (b : Bool) → (Free (xs ++ ys) → Free xs × Free ys) → (if b then true else has_name (xs ++ ys) v.name) ≡ false → ((if b then true else has_name xs v.name) ≡ false) × Free ys
      by true f e = absurd (both_ways true e refl)
      by false f e = f e

  split_clear : (a b : Access) → Clear (both a b) → Clear a × Clear b
  split_clear a b c =
      let r = split_free a.reads b.reads c.0 in
      let w = split_free a.assigns b.assigns c.1 in
      ((r.0, w.0), (r.1, w.1))

  seen_free : (h : List Name) (x : Name) → Free (free_name h x) → Seen v k h x
  seen_free h x e = by (has_name h x) refl e
    where
      differ : (b : Bool) → bytes_eq v.name x ≡ b → (if b then true else false) ≡ false → Differ x v.name
      differ true d e = absurd (both_ways true e refl)
      differ false d e = bytes_eq_sym x v.name ∙ d

      by : (b : Bool) → has_name h x ≡ b → Free (if b then [] else x ∷ []) → Seen v k h x
      by true d e = inl d
      by false d e = inr (differ (bytes_eq v.name x) refl e)

  -- ---- expressions

  mutual
    names_free : (h : List Name) (e : Expr) → Free (free_names h e) → Names (Seen v k h) e
    names_free h (num i t) f = tt
    names_free h (read x) f = seen_free h x f
    names_free h (item x es) f = let g = split_free (free_name h x) (free_names_each h es) f in (seen_free h x g.0, each_free h es g.1)
    names_free h (un o a) f = names_free h a f
    names_free h (bin o a b) f = let g = split_free (free_names h a) (free_names h b) f in (names_free h a g.0, names_free h b g.1)
    names_free h (cond a b c) f =
        let g = split_free (free_names h a) (free_names h b ++ free_names h c) f in
        let i = split_free (free_names h b) (free_names h c) g.1 in
        (names_free h a g.0, names_free h b i.0, names_free h c i.1)
    names_free h (cast t a) f = names_free h a f

    each_free : (h : List Name) (es : Exprs) → Free (free_names_each h es) → NamesEach (Seen v k h) es
    each_free h no_exprs f = tt
    each_free h (more_exprs e es) f = let g = split_free (free_names h e) (free_names_each h es) f in (names_free h e g.0, each_free h es g.1)

  if_free : (h : List Name) (e : Option Expr) → Free (free_names_if h e) → NamesIf (Seen v k h) e
  if_free h None f = tt
  if_free h (Some e) f = names_free h e f

  assigning_clear : (h : List Name) (t : Target) → Clear (assigning h t) → NamesIn (Seen v k h) t
  assigning_clear h (target x es) c = (seen_free h x c.1, each_free h es c.0)

  updating_clear : (h : List Name) (t : Target) → Clear (updating h t) → NamesIn (Seen v k h) t
  updating_clear h (target x es) c = (seen_free h x c.1, each_free h es (split_free (free_name h x) (free_names_each h es) c.0).1)

  setting_clear : (h : List Name) (o : SetOp) (t : Target) → Clear (setting h o t) → NamesIn (Seen v k h) t
  setting_clear h Plain t c = assigning_clear h t c
  setting_clear h Add t c = updating_clear h t c
  setting_clear h Sub t c = updating_clear h t c
  setting_clear h Mul t c = updating_clear h t c
  setting_clear h Div t c = updating_clear h t c
  setting_clear h Rem t c = updating_clear h t c

  variable_free : (h : List Name) (t : Option Ty) (x : Name) → Free (variable h t x) → VarNames (Seen v k h) t x
  variable_free h None x f = seen_free h x f
  variable_free h (Some t) x f = tt

  head_clear : (h : List Name) (c : Option Canonical) → Clear (head_access h c) → LoopNames (Seen v k h) c
  head_clear h None f = tt
  head_clear h (Some c) f =
      let g = split_free (variable h c.ty c.var) (free_names h c.lb ++ free_names h c.ub) f.0 in
      let i = split_free (free_names h c.lb) (free_names h c.ub) g.1 in
      (variable_free h c.ty c.var g.0, names_free h c.lb i.0, names_free h c.ub i.1)

  -- ---- statements

  module _ (ds : List Define) (fs : List FunctionAccess) (C : Name → Type 0) (calls : (f : Name) → Clear (access_of fs f) → C f) where
    or_below : (m : ℕ) (a b : Access) {A B : Type 0} → (Clear a → A) → (Clear b → B) → Clear (or_nest m a b) → Below m A B
    or_below zero a b f g c = f c
    or_below (suc m) a b f g c = g c

    mutual
      clear_touches : (h : List Name) (a : Stmt) → Clear (accesses ds fs h a) → Touches ds (Seen v k) C h a
      clear_touches h (decl t x e) c = if_free (x ∷ h) e c.0
      clear_touches h (set t o e) c = let g = split_clear (setting h o t) (reading (free_names h e)) c in (setting_clear h o t g.0, names_free h e g.1.0)
      clear_touches h (step t up) c = updating_clear h t c
      clear_touches h (print e) c = names_free h e c.0
      clear_touches h (input t) c = assigning_clear h t c
      clear_touches h (if_ e a) c = let g = split_clear (reading (free_names h e)) (all_accesses ds fs h a) c in (names_free h e g.0.0, list_clear h a g.1)
      clear_touches h (if_else e a b) c =
          let g = split_clear (reading (free_names h e)) (both (all_accesses ds fs h a) (all_accesses ds fs h b)) c in
          let i = split_clear (all_accesses ds fs h a) (all_accesses ds fs h b) g.1 in
          (names_free h e g.0.0, list_clear h a i.0, list_clear h b i.1)
      clear_touches h (while_ e a) c = let g = split_clear (reading (free_names h e)) (all_accesses ds fs h a) c in (names_free h e g.0.0, list_clear h a g.1)
      clear_touches h (do_ a e) c = let g = split_clear (all_accesses ds fs h a) (reading (free_names h e)) c in (list_clear h a g.0, names_free h e g.1.0)
      clear_touches h (for_ (head i e next) a) c =
          let u = scope_in i h in
          let body = all_accesses ds fs u a in
          let step = maybe_accesses ds fs u next in
          let test = reading (free_names_if u e) in
          let g = split_clear (maybe_accesses ds fs h i) (both test (both step body)) c in
          let j = split_clear test (both step body) g.1 in
          let l = split_clear step body j.1 in
          (maybe_clear h i g.0, if_free u e j.0.0, maybe_clear u next l.0, list_clear u a l.1)
      clear_touches h (block a) c = list_clear h a c
      clear_touches h break_ c = tt
      clear_touches h continue_ c = tt
      clear_touches h empty c = tt
      clear_touches h (omp d a) c = nests_clear h h (loops_asked (plan_of ds d) 0) a c
      clear_touches h (call f es) c = let g = split_clear (access_of fs f) (reading (free_names_each h es)) c in (calls f g.0, each_free h es g.1.0)

      list_clear : (h : List Name) (as' : Stmts) → Clear (all_accesses ds fs h as') → TouchesAll ds (Seen v k) C h as'
      list_clear h no_stmts c = tt
      list_clear h (more_stmts a as') c =
          let g = split_clear (accesses ds fs h a) (all_accesses ds fs (scope_after a h) as') c in (clear_touches h a g.0, list_clear (scope_after a h) as' g.1)

      maybe_clear : (h : List Name) (a : MaybeStmt) → Clear (maybe_accesses ds fs h a) → TouchesIf ds (Seen v k) C h a
      maybe_clear h no_stmt c = tt
      maybe_clear h (a_stmt a) c = clear_touches h a c

      nest_clear : (h b : List Name) (m : ℕ) (a : Stmt) → Clear (nest_accesses ds fs h b m a) → TouchesNest ds (Seen v k) C h b m a
      nest_clear h b (suc m) (for_ (head i e next) a) c =
          let o = canonical ds (head i e next) in
          let u = scope_with o b in
          let g = split_clear (head_access h o) (or_nest m (all_accesses ds fs u a) (nests_accesses ds fs h u m a)) c in
          (head_clear h o g.0, or_below m (all_accesses ds fs u a) (nests_accesses ds fs h u m a) (list_clear u a) (nests_clear h u m a) g.1)
      nest_clear h b (suc m) (block a) c = nests_clear h b (suc m) a c
      nest_clear h b (suc m) (omp d a) c = nests_clear h b (loops_asked (plan_of ds d) (suc m)) a c
      nest_clear h b zero _ c = tt
      nest_clear h b (suc m) _ c = tt

      nests_clear : (h b : List Name) (m : ℕ) (as' : Stmts) → Clear (nests_accesses ds fs h b m as') → TouchesNests ds (Seen v k) C h b m as'
      nests_clear h b m no_stmts c = tt
      nests_clear h b m (more_stmts a as') c = let g = split_clear (nest_accesses ds fs h b m a) (nests_accesses ds fs h b m as') c in (nest_clear h b m a g.0, nests_clear h b m as' g.1)

  -- ---- programs

  -- each function that is clear of v runs alike
  abbrev Matches : List Function → List FunctionAccess → Type 0
  Matches fs as' = (f : Name) → Clear (access_of as' f) → CalledBeside v k (function_named f fs)

  one_more : (b : Bool) (f : Function) (g : Access) (o : Option Function) (a : Access) → (Clear g → CalledBeside v k (Some f)) → (Clear a → CalledBeside v k o) → Clear (if b then g else a) → CalledBeside v k (if b then Some f else o)
  one_more true f g o a h i c = h c
  one_more false f g o a h i c = i c

  module _ (n : ℕ) where
    matches_after : (p : Program) (env : Env) (as' : List FunctionAccess) → Matches env.functions as' → Matches (env_after n env p).functions (accesses_after env.defines as' p)
    matches_after [] env as' m = m
    matches_after (define x minus i t ∷ p) env as' m = matches_after p (record env { defines = define_of x minus i t ∷ env.defines }) as' m
    matches_after (extern_ q ∷ p) env as' m = matches_after p env as' m
    matches_after (global t x dims e ∷ p) env as' m = matches_after p env as' m
    matches_after (main a ∷ p) env as' m = matches_after p env as' m
    matches_after (function x ps a ∷ p) env as' m =
        let f : Function = record { name = x; params = ps; run = exec_all n env a } in
        let g : Access = all_accesses env.defines as' (param_names ps) a in
        matches_after p (record env { functions = f ∷ env.functions }) (record { name = x; access = g } ∷ as') (λ y.
        one_more (bytes_eq y x) f g (function_named y env.functions) (access_of as' y)
        (λ c. called_body v k f (list_alike (File v k) (Seen v k) (beside_file v k) n env (param_names ps) a (list_clear env.defines as' _ m (param_names ps) a c))) (m y))

pub without_untouched : RunsWithoutUntouched
without_untouched n p v k a u = without_file n (env_after n no_env p) v k (IsUntouched p v.name) (matches_after v k n p no_env [] (λ f c. tt)) a u
