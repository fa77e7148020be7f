-- Item by item, up to `main`.
use Rattle.std.proofs.Common.{◌≡◌, refl, sym, ap, ◌∙◌, subst, ℕ, suc, List, [], ◌∷◌, ◌++◌, length, map, Option, Some, None, is_some, Bool, true, false}
use Rattle.std.specs.Prelude.{bytes_eq, if◌then◌else◌}
use Rattle.std.specs.Option.{option_map}
use Rattle.c_tree.specs.Bare as b
use Rattle.c_tree.specs.Bare.{Name, Expr, expr_list, define, extern_, global, function, main, Program, Stmts, Param}
use Rattle.c_tree.specs.Placed as p
use Rattle.c_tree.specs.WellFormed.{WellFormedTops, WellFormedStmts}
use Rattle.c_tree.specs.declared.tree.Ty.{Ty}
use Rattle.c_tree.specs.declared.tree.Port.TheVariants.{Print, Input}
use Rattle.c_tree.specs.declared.constant.TypedValue.{TypedValue}
use Rattle.c_tree.specs.declared.name_rule.NameRule.TheVariants.{N2}
use Rattle.c_tree.specs.declared.name_rule.Entity.{Entity}
use Rattle.c_tree.specs.declared.name_rule.Entity.TheVariants as e
use Rattle.c_tree.specs.NameRules.BreachSets.{HasNone}
use Rattle.c_tree.specs.NameRules.DeclaredNames as names
use Rattle.c_tree.specs.NameRules.DeclaredNames.{is_among, with_name}
use Rattle.c_tree.specs.NameRules.Scopes.{meaning, is_taken, add, declare, inner}
use Rattle.c_tree.specs.NameRules.Scopes as scopes
use Rattle.c_tree.specs.NameRules.CallDepth.{function_depth}
use Rattle.c_tree.specs.NameRules.Breaches.{stmts_breaches}
use Rattle.c_tree.specs.NameRules.Programs.{Known, params_breaches, in_params, known_after, more_elements, breaches_from, nothing_known}
use Rattle.c_tree.specs.Constants.{defined_as}
use Rattle.c_semantics.specs.Meaning.State.{Var, State, with_frame, with_globals}
use Rattle.c_semantics.specs.Meaning.Expressions.{is_define}
use Rattle.c_semantics.specs.Meaning.SimpleStatements.{Function, Env, function_named}
use Rattle.c_semantics.specs.Meaning.Statements.{exec_all}
use Rattle.c_semantics.specs.Meaning.Programs.{define_of, initial, env_with, no_env}
use Rattle.c_soundness.specs.Unplaced.{no_span, unplaced_expr, unplaced_exprs, unplaced_stmts, unplaced_param, unplaced_top, unplaced}
use Rattle.c_soundness.specs.NeverStuck.{AllMeetNone, Choose, bodies_with, ItemsMeetNone, AllPlain, PlainProgram, NeverStuck}
use Rattle.c_soundness.proofs.Shapes.{form, shapes, FunctionKeeps, all_grown}
use Rattle.c_soundness.proofs.Fits.{none_if, find_shape, or_outer, form_of, GlobalsFit, Fits, fits_inner, fits_params, param_shapes, args_count}
use Rattle.c_soundness.proofs.Meets.{all_met}
use Rattle.c_soundness.proofs.Files.{Filed, refit, global_fits, without, extended, free, new_name, absent, no_global, noted_more, declared_more, declared_own, defined_still, find_last, or_nothing, shapes_last, initial_form, one_name, stmts_keep, params_keep}

abbrev with_scope : Known → Bool → Name → Entity → List Name → ℕ → Known
with_scope k t x new ns elements = record { scope = if t then k.scope else add x new k.scope; names = ns; elements = elements }

params_count : (ps : List Param) → length (map unplaced_param ps) ≡ length ps
params_count [] = refl
params_count (x ∷ ps) = ap (λ j. suc j) (params_count ps)

module _ (n : ℕ) (k : Known) (env : Env) (Runs : Name → State → Type 0) (globals : List Var) (filed : Filed k env Runs globals) where
  filed_define : (x : Name) (minus : Bool) (v : ℕ) (t : Ty) → is_among x k.names ≡ false
      → Filed (known_after k (p.define x minus v t no_span)) (env_with n env (define x minus v t)) Runs globals
  filed_define x minus v t h =
      let c : TypedValue = defined_as minus v t in
      let here = new_name k env Runs globals filed x h in
      let gone = absent k env Runs globals filed x here in
      let d = define_of x minus v t in
      subst (λ u. Filed (with_scope k u x (e.Define c) (with_name x k.names) k.elements) (env_with n env (define x minus v t)) Runs globals) (sym h)
      (record {
        fits = extended k.scope x (e.Define c) gone env.defines (d ∷ env.defines) env.functions env.functions Runs Runs (shapes globals) (shapes globals) filed.fits
            (λ y q. refl) (defined_still d env.defines) (λ y q. refl) (λ y q t r. r)
            (λ y q. (ap (λ z. find_shape z (shapes globals)) (one_name y x q) ∙ no_global k env Runs globals filed x here, ap (λ u. if u then true else is_define env.defines y) q));
        keeps = filed.keeps;
        outside = filed.outside;
        noted = noted_more k env Runs globals filed x (e.Define c) k.names (λ y r. r);
        declared = λ y r. declared_more k env Runs globals filed x y (e.Define c) (filed.declared y r);
      })

  filed_global : (t : Ty) (x : Name) (dims : b.Exprs) (o : Option Expr) → is_taken k.scope x ≡ false
      → Filed (known_after k (p.global t x no_span (unplaced_exprs dims) (option_map unplaced_expr o))) env Runs (globals ++ record { name = x; cell = initial env.defines t (expr_list dims) o } ∷ [])
  filed_global t x dims o h =
      let new : Entity = e.Variable (length (p.expr_list (unplaced_exprs dims))) in
      let here = free k env Runs globals filed x h in
      let gone = absent k env Runs globals filed x here in
      let v : Var = record { name = x; cell = initial env.defines t (expr_list dims) o } in
      let gs' = shapes (globals ++ v ∷ []) in
      let last : (y : Name) → find_shape y gs' ≡ or_outer (find_shape y (shapes globals)) (if bytes_eq y x then Some (form v.cell) else None) =
      λ y. ap (find_shape y) (shapes_last globals v) ∙ find_last y (shapes globals) (x, form v.cell) in
      let is_new : form v.cell ≡ form_of (length (p.expr_list (unplaced_exprs dims))) =
      initial_form env.defines t (expr_list dims) o ∙ ap form_of (sym (args_count env.defines env.functions Runs k.scope dims)) in
      subst (λ u. Filed (with_scope k u x new (with_name x k.names) (more_elements k x (unplaced_exprs dims))) env Runs (globals ++ v ∷ [])) (sym h)
      (record {
        fits = extended k.scope x new gone env.defines env.defines env.functions env.functions Runs Runs (shapes globals) gs' filed.fits
            (λ y q. last y ∙ ap (λ u. or_outer (find_shape y (shapes globals)) (if u then Some (form v.cell) else None)) q ∙ or_nothing (find_shape y (shapes globals)))
            (λ y r. r) (λ y q. refl) (λ y q t r. r)
            (λ y q. last y ∙ (λ i. or_outer ((ap (λ z. find_shape z (shapes globals)) (one_name y x q) ∙ no_global k env Runs globals filed x here) i) (if q i then Some (form v.cell) else None)) ∙ ap Some is_new);
        keeps = filed.keeps;
        outside = filed.outside;
        noted = noted_more k env Runs globals filed x new k.names (λ y r. r);
        declared = λ y. declared_by y (bytes_eq y x) refl;
      })
    where
      declared_by : (y : Name) (u : Bool) → bytes_eq y x ≡ u
          → is_some (find_shape y (shapes (globals ++ record { name = x; cell = initial env.defines t (expr_list dims) o } ∷ []))) ≡ true
          → is_some (scopes.find y (add x (e.Variable (length (p.expr_list (unplaced_exprs dims)))) k.scope).here) ≡ true
      declared_by y true q r = declared_own k env Runs globals filed x y (e.Variable (length (p.expr_list (unplaced_exprs dims)))) q
      declared_by y false q r =
          let v : Var = record { name = x; cell = initial env.defines t (expr_list dims) o } in
          let was = ap (find_shape y) (shapes_last globals v) ∙ find_last y (shapes globals) (x, form v.cell) ∙ ap (λ u. or_outer (find_shape y (shapes globals)) (if u then Some (form v.cell) else None)) q ∙ or_nothing (find_shape y (shapes globals)) in
          declared_more k env Runs globals filed x y (e.Variable (length (p.expr_list (unplaced_exprs dims)))) (filed.declared y (sym (ap is_some was) ∙ r))

  filed_function : (x : Name) (ps : List Param) (a : Stmts) → is_taken k.scope x ≡ false → HasNone (params_breaches (inner k.scope) (map unplaced_param ps))
      → HasNone (stmts_breaches true false (in_params k.scope (map unplaced_param ps)) (unplaced_stmts a)) → WellFormedStmts a → AllPlain a
      → Filed (known_after k (p.function x no_span (map unplaced_param ps) (unplaced_stmts a) no_span)) (env_with n env (function x ps a)) (bodies_with n env Runs (function x ps a)) globals
  filed_function x ps a h hp hb w plain =
      let new : Entity = e.Function (length (map unplaced_param ps)) (function_depth (in_params k.scope (map unplaced_param ps)) (unplaced_stmts a)) in
      let here = free k env Runs globals filed x h in
      let gone = absent k env Runs globals filed x here in
      let f : Function = record { name = x; params = ps; run = exec_all n env a } in
      let Runs' : Name → State → Type 0 = bodies_with n env Runs (function x ps a) in
      let ns = names.with_stmts (names.with_params k.names (map unplaced_param ps)) (unplaced_stmts a) in
      let body : (vs : List Var) (t : State) → GlobalsFit (add x new k.scope) (shapes t.globals) → shapes vs ≡ param_shapes ps [] → AllMeetNone n env Runs a (with_frame vs t) =
      λ vs t g r.
      let back = without k.scope x new gone (shapes t.globals) g in
      let again : Fits env.defines env.functions Runs k.scope k.scope [] (shapes t.globals) =
      λ y. refit env.defines env.functions Runs k.scope (find_shape y (shapes globals)) (find_shape y (shapes t.globals)) y (meaning k.scope y) (filed.fits y) (back y) in
      let inside = fits_params env.defines env.functions Runs k.scope ps (inner k.scope) [] (shapes t.globals) hp (fits_inner env.defines env.functions Runs k.scope k.scope [] (shapes t.globals) again) in
      all_met n env Runs k.scope filed.keeps true false (in_params k.scope (map unplaced_param ps)) a hb w plain (with_frame vs t)
      (subst (λ fr. Fits env.defines env.functions Runs k.scope (in_params k.scope (map unplaced_param ps)) fr (shapes t.globals)) (sym r) inside, back) in
      subst (λ u. Filed (with_scope k u x new (with_name x ns) k.elements) (env_with n env (function x ps a)) Runs' globals) (sym h)
      (record {
        fits = extended k.scope x new gone env.defines env.defines env.functions (f ∷ env.functions) Runs Runs' (shapes globals) (shapes globals) filed.fits
            (λ y q. refl) (λ y r. r) (λ y q. ap (λ u. if u then Some f else function_named y env.functions) q)
            (λ y q t r. subst (λ u. Choose u (AllMeetNone n env Runs a t) (Runs y t)) (sym q) r)
            (λ y q. (
              f,
              ap (λ u. if u then Some f else function_named y env.functions) q,
              params_count ps,
              λ vs t g r. subst (λ u. Choose u (AllMeetNone n env Runs a (with_frame vs t)) (Runs y (with_frame vs t))) (sym q) (body vs t g r),
            ));
        keeps = λ y. keeps_by y (bytes_eq y x);
        outside = filed.outside;
        noted = noted_more k env Runs globals filed x new ns (λ y r. stmts_keep y (names.with_params k.names (map unplaced_param ps)) (unplaced_stmts a) (params_keep y k.names (map unplaced_param ps) r));
        declared = λ y r. declared_more k env Runs globals filed x y new (filed.declared y r);
      })
    where
      keeps_by : (y : Name) (u : Bool) → FunctionKeeps (if u then Some (record { name = x; params = ps; run = exec_all n env a }) else function_named y env.functions)
      keeps_by y true = λ vs s. (all_grown n env filed.keeps a plain (with_frame vs s)).2
      keeps_by y false = filed.keeps y

items_met : (n : ℕ) (q : Program) (k : Known) (env : Env) (Runs : Name → State → Type 0) (s : State) → HasNone (breaches_from k (unplaced q)) → WellFormedTops q → PlainProgram q
    → s.frame ≡ [] → Filed k env Runs s.globals → ItemsMeetNone n q env Runs s
items_met n [] k env Runs s h w plain empty filed = tt
items_met n (define x minus v t ∷ is) k env Runs s h w plain empty filed =
    items_met n is (known_after k (unplaced_top (define x minus v t))) (env_with n env (define x minus v t)) Runs s h.1 w.1 plain empty
    (filed_define n k env Runs s.globals filed x minus v t (none_if (is_among x k.names) N2 0 h.0))
items_met n (extern_ Print ∷ is) k env Runs s h w plain empty filed =
    items_met n is (known_after k (unplaced_top (extern_ Print))) env Runs s h.1 w.1 plain empty
    (record { fits = filed.fits; keeps = filed.keeps; outside = filed.outside; noted = filed.noted; declared = filed.declared })
items_met n (extern_ Input ∷ is) k env Runs s h w plain empty filed =
    items_met n is (known_after k (unplaced_top (extern_ Input))) env Runs s h.1 w.1 plain empty
    (record { fits = filed.fits; keeps = filed.keeps; outside = filed.outside; noted = filed.noted; declared = filed.declared })
items_met n (global t x dims o ∷ is) k env Runs s h w plain empty filed =
    items_met n is (known_after k (unplaced_top (global t x dims o))) env Runs (with_globals (s.globals ++ record { name = x; cell = initial env.defines t (expr_list dims) o } ∷ []) s) h.1 w.1 plain empty
    (filed_global n k env Runs s.globals filed t x dims o (none_if (is_taken k.scope x) N2 0 h.0.0))
items_met n (function x ps a ∷ is) k env Runs s h w plain empty filed =
    items_met n is (known_after k (unplaced_top (function x ps a))) (env_with n env (function x ps a)) (bodies_with n env Runs (function x ps a)) s h.1 w.1 plain.1 empty
    (filed_function n k env Runs s.globals filed x ps a (none_if (is_taken k.scope x) N2 0 h.0.0) h.0.1.0 h.0.1.1 w.0.2 plain.0)
items_met n (main a ∷ is) k env Runs s h w plain empty filed =
    all_met n env Runs k.scope filed.keeps false false (inner k.scope) a h.0 w.0 plain.0 s (
      subst (λ fr. Fits env.defines env.functions Runs k.scope (inner k.scope) (shapes fr) (shapes s.globals)) (sym empty) (fits_inner env.defines env.functions Runs k.scope k.scope [] (shapes s.globals) filed.fits),
      λ y. global_fits env.defines env.functions Runs k.scope (find_shape y (shapes s.globals)) y (meaning k.scope y) (filed.fits y),
    )

pub never_stuck : NeverStuck
never_stuck n q numbers w h plain =
    items_met n q nothing_known no_env (λ x s. ⊥) (record { frame = []; globals = []; lines = []; input = numbers; turns = 0 }) h w.0 plain refl
    (record { fits = λ y. tt; keeps = λ y. tt; outside = refl; noted = λ y r. absurd (cc); declared = λ y r. absurd (cc) })
