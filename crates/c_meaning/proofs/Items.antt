-- The run of a program's items, from the runs of what is left.
use Rattle.std.proofs.Common.{◌≡◌, ◌∙◌, sym, ap, refl, subst, ℕ, ◌+◌, ◌<◌, ◌≤◌, List, [], ◌∷◌, length, map, take, drop, Result, Ok, Err, ℤ}
use Rattle.std.specs.Prelude.{slice_index_or}
use Rattle.outside_io.specs.Bytes.{Gains, GainsPrefix}
use Rattle.outside_io.proofs.SinkBytes.{Gains-nil}
use Rattle.c_tree.specs.Bare.{Program}
use Rattle.resolved_names.specs.Numbered.{numbered_top, numbered_stmts}
use Rattle.resolved_names.specs.declared.tree.Item.{Item}
use Rattle.resolved_names.specs.declared.tree.Item.TheVariants.{Define, Extern, Global, Function, Main}
use Rattle.resolved_names.specs.declared.tree.Stmt.{Stmt}
use Rattle.c_semantics.specs.Meaning.State.{State, with_globals}
use Rattle.c_semantics.specs.Meaning.Runs.{Meaning, in_block}
use Rattle.c_semantics.specs.Meaning.SimpleStatements.{Env}
use Rattle.c_semantics.specs.Meaning.Statements.{exec_all}
use Rattle.c_semantics.specs.Meaning.Programs.{env_after, env_with, no_env, globals_with, run_items, finish, outcome, turns_of}
use Rattle.c_meaning.specs.declared.run.End.{End}
use Rattle.c_meaning.specs.declared.run.End.TheVariants.{Next}
use Rattle.c_meaning.specs.declared.run.RunEnd.{RunEnd}
use Rattle.c_meaning.specs.declared.run.RunFault.{RunFault}
use Rattle.c_meaning.specs.declared.run.RunFault.TheVariants.{Memory}
use Rattle.c_meaning.specs.Ends.{end_of, finish_of}
use Rattle.c_meaning.specs.Running.{Sunk, Came, Reached, Ran, in_full, lines_text}
use Rattle.c_meaning.specs.States.{counted, start}
use Rattle.c_meaning.proofs.Growth.{functions_grow, items_grow}
use Rattle.c_meaning.proofs.Lists.{tops_more, tops_end}
use Rattle.c_meaning.proofs.Running.{Leads, ran_ends, ran_from, ran_memory}
use Rattle.c_meaning.proofs.Scopes.{env_next}

module _ (n : ℕ) (xs : List Item) where
  abbrev env_at : ℕ → Env
  env_at i = env_after n no_env (map numbered_top (take i xs))

  -- the run of the items from an index on
  abbrev pub run_from : ℕ → Meaning
  run_from i = run_items n (map numbered_top (drop i xs)) (env_at i)

  pub items_done : (i : ℕ) (m : State) (o : Sunk) → length xs ≤ i → Ran (run_from i) m o m o (Ok Next)
  items_done i m o h = subst (λ p. Ran (run_items n p (env_at i)) m o m o (Ok Next)) (sym (tops_end xs i h)) (ran_ends m o Next)

  pub items_fail : (i : ℕ) (m m1 : State) (o : Sunk) → Ran (run_from i) m o m1 o (Err Memory)
  items_fail i m m1 o = ran_memory (run_from i) m m1 o (items_grow n (map numbered_top (drop i xs)) (env_at i) (functions_grow n (map numbered_top (take i xs))))

  module _ (i : ℕ) (y : Item) (within : i < length xs) (at : y ≡ slice_index_or xs i y) where
    pub main_runs : (body : List Stmt) → y ≡ Main body → (m m1 : State) (o o1 : Sunk) (r : Result End RunFault) → Ran (in_block (exec_all n (env_at i) (numbered_stmts body))) m o m1 o1 r → Ran (run_from i) m o m1 o1 r
    main_runs body is m m1 o o1 r ran =
        subst (λ p. Ran (run_items n p (env_at i)) m o m1 o1 r) (sym (tops_more xs i y within at ∙ ap (λ z. numbered_top z ∷ map numbered_top (drop (i + 1) xs)) is)) ran

    step_over : (z : Item) → ((body : List Stmt) → z ≡ Main body → ⊥) → (ts : Program) (env : Env) (s : State) → run_items n (numbered_top z ∷ ts) env s ≡ run_items n ts (env_with n env (numbered_top z)) (with_globals (globals_with env.defines s.globals (numbered_top z)) s)
    step_over (Define x neg k t) other ts env s = refl
    step_over (Extern p) other ts env s = refl
    step_over (Global t x dims e) other ts env s = refl
    step_over (Function x ps a) other ts env s = refl
    step_over (Main a) other ts env s = absurd (other a refl)

    module _ (other : (body : List Stmt) → y ≡ Main body → ⊥) (m m1 : State) (begun : m1 ≡ with_globals (globals_with (env_at i).defines m.globals (numbered_top y)) m) where
      runs_on : (lines : List ℤ) (turns : ℕ) → run_from i (in_full m lines turns) ≡ run_from (i + 1) (in_full m1 lines turns)
      runs_on lines turns =
          ap (λ p. run_items n p (env_at i) (in_full m lines turns)) (tops_more xs i y within at)
          ∙ (step_over y other (map numbered_top (drop (i + 1) xs)) (env_at i) (in_full m lines turns)
          ∙ (ap (λ u. run_items n (map numbered_top (drop (i + 1) xs)) (env_with n (env_at i) (numbered_top y)) (in_full u lines turns)) (sym begun)
          ∙ ap (λ env. run_items n (map numbered_top (drop (i + 1) xs)) env (in_full m1 lines turns)) (sym (env_next n xs i y within at))))

      pub item_leads : (o : Sunk) → Leads (run_from i) m o (run_from (i + 1)) m1 o
      item_leads o = record {
        follows = λ last end answer b. record {
          came = λ base lines turns told count. subst (Came base last end answer) (sym (runs_on lines turns)) (b.came base lines turns told (ap (λ s. s.turns) begun ∙ count));
          faults = b.faults;
          failed = b.failed;
        };
      }

-- ---- a run from the start

module _ (n : ℕ) (p : Program) (input : List ℤ) (o o1 : Sunk) (m1 : State) where
  abbrev program : Meaning
  program = run_items n p no_env

  pub from_start : (xs : List Item) (m : State) (r : Result End RunFault) → map numbered_top xs ≡ p → m ≡ start input → Ran (run_items n (map numbered_top xs) no_env) m o m1 o1 r → Ran program (start input) o m1 o1 r
  from_start xs m r same is ran = subst (λ q. Ran (run_items n q no_env) (start input) o m1 o1 r) same (ran_from m is ran)

  whole : (e : End) → Ran program (start input) o m1 o1 (Ok e) → Reached o.held m1 o1 e (program (start input))
  whole e ran = ran.came o.held [] 0 (Gains-nil o.held) refl

  pub all_lines : (e : End) → Ran program (start input) o m1 o1 (Ok e) → Gains o.held o1.held (lines_text (outcome n p input).lines)
  all_lines e ran = (whole e ran).told

  pub end_comes : (e : End) (end : RunEnd) → finish_of end ≡ finish (end_of e) → Ran program (start input) o m1 o1 (Ok e) → finish_of end ≡ (outcome n p input).end
  end_comes e end is ran = is ∙ ap finish (sym (whole e ran).ended)

  pub turns_come : (e : End) → Ran program (start input) o m1 o1 (Ok e) → m1.turns ≡ counted (turns_of n p input)
  turns_come e ran = (whole e ran).turns

  pub some_lines : (x : RunFault) → Ran program (start input) o m1 o1 (Err x) → GainsPrefix o.held o1.held (lines_text (outcome n p input).lines)
  some_lines x ran = ran.came o.held [] 0 (Gains-nil o.held) refl
