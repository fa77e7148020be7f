-- A statement that breaks no name rule meets none, from each state that fits what is visible at its place.
use Rattle.std.proofs.Common.{◌≡◌, refl, sym, ◌∙◌, subst, ℕ, [], length, Option, Some, None, Result, Ok, Err, Bool, true, false, ℤ}
use Rattle.c_tree.specs.Bare as b
use Rattle.c_tree.specs.Bare.{Name, Expr, Target, Stmt, decl, set, step, print, input, if_, if_else, while_, do_, for_, block, break_, continue_, empty, omp, call, Stmts, no_stmts, more_stmts, head, MaybeStmt, no_stmt, a_stmt}
use Rattle.c_tree.specs.Placed as p
use Rattle.c_tree.specs.WellFormed.{WellFormedStmt, WellFormedStmts, WellFormedPart, MayEnd}
use Rattle.c_tree.specs.declared.tree.Ty.{Ty}
use Rattle.c_tree.specs.declared.name_rule.NameRule.TheVariants.{N2, N11}
use Rattle.c_tree.specs.declared.name_rule.Entity.{Entity}
use Rattle.c_tree.specs.declared.name_rule.Entity.TheVariants as e
use Rattle.c_tree.specs.NameRules.BreachSets.{HasNone}
use Rattle.c_tree.specs.NameRules.Scopes.{Scope, meaning, declare, a_scalar, inner, is_taken, after_stmt, after_part}
use Rattle.c_tree.specs.NameRules.Breaches.{call_breaches, stmt_breaches, stmts_breaches, part_breaches}
use Rattle.c_tree.specs.declared.arithmetic.Trap.{Trap}
use Rattle.c_tree.specs.Arithmetic.{and_then, convert}
use Rattle.c_semantics.specs.Meaning.State.{State, scalar, push, count_turn}
use Rattle.c_semantics.specs.Meaning.Expressions.{eval}
use Rattle.c_semantics.specs.Meaning.Runs.{Next, Meaning, ends, with_value, turn_of, for_turn}
use Rattle.c_semantics.specs.Meaning.SimpleStatements.{holds_in, head_test, Env, function_named}
use Rattle.c_semantics.specs.Meaning.Statements.{exec, exec_all, exec_maybe}
use Rattle.c_soundness.specs.Unplaced.{unplaced_exprs, unplaced_stmt, unplaced_stmts, unplaced_part}
use Rattle.c_soundness.specs.NeverStuck.{EachFound, Turns, here, later, Callable, MeetsNone, AllMeetNone, MaybeMeetsNone, IsPlain, AllPlain, MaybePlain}
use Rattle.c_soundness.proofs.Shapes.{shapes, Same, Keeps, FunctionKeeps, block_same, turn_same, all_grown, exec_same}
use Rattle.c_soundness.proofs.Fits.{none_if, as_many, seen, Fit, Good, good_same, good_inner, good_push, found, each_found, found_if, target_found, args_count, arguments_fit}

-- the last part of a head declares nothing
next_adds_nothing : (u : Scope) (m : MaybeStmt) → MayEnd m → after_part u (unplaced_part m) ≡ u
next_adds_nothing u no_stmt h = refl
next_adds_nothing u (a_stmt (set t op e)) h = refl
next_adds_nothing u (a_stmt (step t up)) h = refl
next_adds_nothing u (a_stmt _) h = absurd h

module _ (n : ℕ) (env : Env) (Runs : Name → State → Type 0) (file : Scope) (functions : (x : Name) → FunctionKeeps (function_named x env.functions)) where
  abbrev pub Fitting : Scope → State → Type 0
  Fitting = Good env.defines env.functions Runs file

  kept : (sc : Scope) (s u : State) → Same s u → Fitting sc s → Fitting sc u
  kept = good_same env.defines env.functions Runs file

  pushed : (sc : Scope) (s : State) (x : Name) (t : Ty) (v : Option ℤ) → is_taken sc x ≡ false → Fitting sc s → Fitting (declare x a_scalar sc) (push x (scalar t v) s)
  pushed = good_push env.defines env.functions Runs file

  entered : (sc : Scope) (s : State) → Fitting sc s → Fitting (inner sc) s
  entered = good_inner env.defines env.functions Runs file

  -- ---- what follows

  set_up : (sc : Scope) (s : State) (t : Ty) (x : Name) (r : Result ℤ Trap) → is_taken sc x ≡ false → Fitting sc s
      → (with_value r (push x (scalar t None) s) (λ z. ends Next (push x (scalar t (Some z)) s))).end ≡ Next
      → Fitting (declare x a_scalar sc) (with_value r (push x (scalar t None) s) (λ z. ends Next (push x (scalar t (Some z)) s))).state
  set_up sc s t x (Err y) free g e = absurd (cc)
  set_up sc s t x (Ok z) free g e = pushed sc s x t (Some z) free g

  -- a statement that ends leaves what fits the statements after it
  after : (f l : Bool) (sc : Scope) (a : Stmt) → HasNone (stmt_breaches f l sc (unplaced_stmt a)) → IsPlain a → (s : State) → Fitting sc s
      → (exec n env a s).end ≡ Next → Fitting (after_stmt sc (unplaced_stmt a)) (exec n env a s).state
  after f l sc (decl t x None) h p s g e = pushed sc s x t None (none_if (is_taken sc x) N2 0 h.0) g
  after f l sc (decl t x (Some a)) h p s g e =
      set_up sc s t x (and_then (eval env.defines (push x (scalar t None) s) a) (convert t)) (none_if (is_taken sc x) N2 0 h.0) g e
  after f l sc a h p s g e = kept sc s (exec n env a s).state (exec_same n env functions a p (λ d. d) s) g

  after_part_fits : (f l : Bool) (sc : Scope) (a : MaybeStmt) → HasNone (part_breaches f l sc (unplaced_part a)) → MaybePlain a → (s : State) → Fitting sc s
      → (exec_maybe n env a s).end ≡ Next → Fitting (after_part sc (unplaced_part a)) (exec_maybe n env a s).state
  after_part_fits f l sc no_stmt h p s g e = g
  after_part_fits f l sc (a_stmt a) h p s g e = after f l sc a h p s g e

  next_same : (m : MaybeStmt) → MayEnd m → MaybePlain m → Keeps (exec_maybe n env m)
  next_same no_stmt h p s = (refl, refl)
  next_same (a_stmt (set t op e)) h p s = exec_same n env functions (set t op e) p (λ d. d) s
  next_same (a_stmt (step t up)) h p s = exec_same n env functions (step t up) p (λ d. d) s
  next_same (a_stmt _) h p s = absurd h

  -- each turn of a loop begins in a state that fits
  turns_fit : (sc : Scope) (test : State → Result Bool Trap) (turn : Meaning) → Keeps turn → (s u : State) → Turns test turn s u → Fitting sc s → Fitting sc u
  turns_fit sc test turn k s u (here w) g = g
  turns_fit sc test turn k s u (later w t e more) g = turns_fit sc test turn k (turn w).state u more (kept sc w (turn w).state (k w) g)

  -- ---- calls

  called : (sc : Scope) (s : State) (x : Name) (es : b.Exprs) (f : Bool) (m : Option Entity) (o : Option ℕ) → Fit env.defines env.functions Runs file o x m
      → HasNone (call_breaches f m (length (p.expr_list (unplaced_exprs es))) 0) → EachFound env.defines s es → Fitting sc s
      → Callable (Runs x) env.defines s es (function_named x env.functions)
  called sc s x es f None o can h each g = absurd h
  called sc s x es f (Some (e.Define c)) o can h each g = absurd h
  called sc s x es f (Some (e.Variable d)) o can h each g = absurd h
  called sc s x es f (Some (e.Function k depth)) o can h each g =
      let same : length (b.expr_list es) ≡ k = sym (args_count env.defines env.functions Runs file es) ∙ as_many (length (p.expr_list (unplaced_exprs es))) k N11 0 h.0 in
      subst (Callable (Runs x) env.defines s es) (sym can.1)
      (same ∙ can.2, each, λ vs is. can.3 vs s g.1 (arguments_fit env.defines s can.0.params es [] vs is))

  -- ---- statements

  mutual
    pub met : (f l : Bool) (sc : Scope) (a : Stmt) → HasNone (stmt_breaches f l sc (unplaced_stmt a)) → WellFormedStmt a → IsPlain a → (s : State) → Fitting sc s → MeetsNone n env Runs a s
    met f l sc (decl t x o) h w p s g =
        found_if env.defines env.functions Runs file (declare x a_scalar sc) (push x (scalar t None) s) (pushed sc s x t None (none_if (is_taken sc x) N2 0 h.0) g).0 o h.1 w.1
    met f l sc (set t op e) h w p s g =
        (target_found env.defines env.functions Runs file sc s g.0 t h.0 w.0, found env.defines env.functions Runs file sc s g.0 e h.1 w.1)
    met f l sc (step t up) h w p s g = target_found env.defines env.functions Runs file sc s g.0 t h w
    met f l sc (print e) h w p s g = found env.defines env.functions Runs file sc s g.0 e h.1 w
    met f l sc (input t) h w p s g = target_found env.defines env.functions Runs file sc s g.0 t h.0 w
    met f l sc (if_ e a) h w p s g =
        (found env.defines env.functions Runs file sc s g.0 e h.0 w.0, λ yes. all_met f l (inner sc) a h.1 w.1 p s (entered sc s g))
    met f l sc (if_else e a c) h w p s g = (
      found env.defines env.functions Runs file sc s g.0 e h.0 w.0,
      λ yes. all_met f l (inner sc) a h.1.0 w.1 p.0 s (entered sc s g),
      λ no. all_met f l (inner sc) c h.1.1 w.2 p.1 s (entered sc s g),
    )
    met f l sc (while_ e a) h w p s g =
        λ u turns.
        let gu = turns_fit sc (holds_in env.defines e) (turn_of (exec_all n env a)) (block_same (exec_all n env a) (all_grown n env functions a p)) s u turns g in
        (found env.defines env.functions Runs file sc u gu.0 e h.0 w.0, λ yes. all_met f true (inner sc) a h.1 w.1 p u (entered sc u gu))
    met f l sc (do_ a e) h w p s g =
        let turn = turn_of (exec_all n env a) in
        let same : Keeps turn = block_same (exec_all n env a) (all_grown n env functions a p) in (
          all_met f true (inner sc) a h.0 w.0 p s (entered sc s g),
          λ ended u turns.
              let gu = turns_fit sc (holds_in env.defines e) turn same (turn s).state u turns (kept sc s (turn s).state (same s) g) in
              (found env.defines env.functions Runs file sc u gu.0 e h.1 w.1, λ yes. all_met f true (inner sc) a h.0 w.0 p u (entered sc u gu)),
        )
    met f l sc (for_ (head i o next) a) h w p s g =
        let begun = after_part (inner sc) (unplaced_part i) in
        let run = exec_all n env a in
        let turn = for_turn run (exec_maybe n env next) in
        let grown = all_grown n env functions a p.2 in
        let nothing_more = next_adds_nothing begun next w.0.3 in
        let body = subst (λ u. HasNone (stmts_breaches f true (inner u) (unplaced_stmts a))) nothing_more h.1 in (
          maybe_met f l (inner sc) i h.0.0 w.0.1 p.0 s (entered sc s g),
          λ ended u turns.
              let gu = turns_fit begun (head_test env.defines o) turn (turn_same run (exec_maybe n env next) grown (next_same next w.0.3 p.1)) (exec_maybe n env i s).state u turns
              (after_part_fits f l (inner sc) i h.0.0 p.0 s (entered sc s g) ended) in
              let counted : Fitting begun (count_turn u) = gu in (
                found_if env.defines env.functions Runs file begun u gu.0 o h.0.1.0 w.0.2,
                λ yes. (
                  all_met f true (inner begun) a body w.1 p.2 (count_turn u) (entered begun (count_turn u) counted),
                  λ turned. maybe_met f l begun next h.0.1.1 w.0.4 p.1 (turn_of run (count_turn u)).state
                      (kept begun (count_turn u) (turn_of run (count_turn u)).state (block_same run grown (count_turn u)) counted),
                ),
              ),
        )
    met f l sc (block a) h w p s g = all_met f l (inner sc) a h w p s (entered sc s g)
    met f l sc break_ h w p s g = tt
    met f l sc continue_ h w p s g = tt
    met f l sc empty h w p s g = tt
    met f l sc (omp d a) h w p s g = absurd p
    met f l sc (call x es) h w p s g =
        called sc s x es f (meaning sc x) (seen (shapes s.frame) (shapes s.globals) x) (g.0 x) h.0 (each_found env.defines env.functions Runs file sc s g.0 es h.1 w.1) g

    pub all_met : (f l : Bool) (sc : Scope) (as' : Stmts) → HasNone (stmts_breaches f l sc (unplaced_stmts as')) → WellFormedStmts as' → AllPlain as' → (s : State) → Fitting sc s → AllMeetNone n env Runs as' s
    all_met f l sc no_stmts h w p s g = tt
    all_met f l sc (more_stmts a as') h w p s g = (
      met f l sc a h.0 w.0 p.0 s g,
      λ ended. all_met f l (after_stmt sc (unplaced_stmt a)) as' h.1 w.1 p.1 (exec n env a s).state (after f l sc a h.0 p.0 s g ended),
    )

    maybe_met : (f l : Bool) (sc : Scope) (a : MaybeStmt) → HasNone (part_breaches f l sc (unplaced_part a)) → WellFormedPart a → MaybePlain a → (s : State) → Fitting sc s → MaybeMeetsNone n env Runs a s
    maybe_met f l sc no_stmt h w p s g = tt
    maybe_met f l sc (a_stmt a) h w p s g = met f l sc a h w p s g
