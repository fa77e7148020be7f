-- Programs under a renaming.
use Rattle.std.proofs.Common.{◌≡◌, refl, ap, ◌∙◌, sym, ℕ, List, [], ◌∷◌, ◌++◌, map, Option}
use Rattle.std.proofs.lemmas.List.{map-append}
use Rattle.std.specs.Option.{option_map}
use Rattle.c_tree.specs.Bare.{Name, Expr, Exprs, expr_list, define, extern_, global, function, main, Program}
use Rattle.c_tree.specs.declared.tree.Ty.{Ty}
use Rattle.c_semantics.specs.Meaning.State.{Var, State, with_globals}
use Rattle.c_semantics.specs.Meaning.Expressions.{Define}
use Rattle.c_semantics.specs.Meaning.SimpleStatements.{Function, Env}
use Rattle.c_semantics.specs.Meaning.Statements.{exec_all}
use Rattle.c_semantics.specs.Meaning.Programs.{define_of, globals_with, initial, run_items}
use Rattle.resolved_names.specs.Renaming.{Renaming, renamed_expr, renamed_exprs, renamed_stmts, renamed_param, renamed_program, PlainProgram}
use Rattle.resolved_names.specs.RenamedRuns.{renamed_var, renamed_vars, renamed_state, renamed_run, Injective, RenamedRunsAlike}
use Rattle.resolved_names.proofs.Values.{renamed_define, initial_same}
use Rattle.resolved_names.proofs.Runs.{Functions, block_follows, all_follow}

module _ (f : Renaming) (same : Injective f) (n : ℕ) where
  abbrev known : List Define → List Function → Env
  known ds gs = record { defines = ds; functions = gs }

  globals_renamed : (ds : List Define) (vs : List Var) (t : Ty) (x : Name) (dims : Exprs) (e : Option Expr) → globals_with (map (renamed_define f) ds) (renamed_vars f vs) (global t (f x) (renamed_exprs f dims) (option_map (renamed_expr f) e)) ≡ renamed_vars f (globals_with ds vs (global t x dims e))
  globals_renamed ds vs t x dims e =
      ap (λ c. renamed_vars f vs ++ record { name = f x; cell = c } ∷ []) (initial_same f same ds t dims e)
      ∙ sym (map-append (renamed_var f) vs (record { name = x; cell = initial ds t (expr_list dims) e } ∷ []))

  items_follow : (p : Program) → PlainProgram p → (ds : List Define) (gs hs : List Function) → Functions f same gs hs → (s : State) → run_items n (renamed_program f p) (known (map (renamed_define f) ds) hs) (renamed_state f s) ≡ renamed_run f (run_items n p (known ds gs) s)
  items_follow [] p ds gs hs k s = refl
  items_follow (define x minus v t ∷ is) p ds gs hs k s = items_follow is p.1 (define_of x minus v t ∷ ds) gs hs k s
  items_follow (extern_ port ∷ is) p ds gs hs k s = items_follow is p.1 ds gs hs k s
  items_follow (global t x dims e ∷ is) p ds gs hs k s =
      ap (λ g. run_items n (renamed_program f is) (known (map (renamed_define f) ds) hs) (with_globals g (renamed_state f s))) (globals_renamed ds s.globals t x dims e)
      ∙ items_follow is p.1 ds gs hs k (with_globals (globals_with ds s.globals (global t x dims e)) s)
  items_follow (function x ps a ∷ is) p ds gs hs k s =
      items_follow is p.1 ds
      (record { name = x; params = ps; run = exec_all n (known ds gs) a } ∷ gs)
      (record { name = f x; params = map (renamed_param f) ps; run = exec_all n (known (map (renamed_define f) ds) hs) (renamed_stmts f a) } ∷ hs)
      (refl, (refl, all_follow f same n ds gs hs k a p.0), k) s
  items_follow (main a ∷ is) p ds gs hs k s =
      block_follows f same (exec_all n (known ds gs) a) (exec_all n (known (map (renamed_define f) ds) hs) (renamed_stmts f a)) (all_follow f same n ds gs hs k a p.0) s

pub runs_alike : RenamedRunsAlike
runs_alike f same p plain n input = items_follow f same n p plain [] [] [] tt (record { frame = []; globals = []; lines = []; input = input; turns = 0 })
