-- What holds of statements, for whole programs.
use Rattle.std.proofs.Common.{◌≡◌, refl, sym, ap, subst, ℕ, ◌≤◌, inl, inr, List, [], ◌∷◌, ◌++◌, Option, Some, Bool, true, false, append-nil}
use Rattle.std.specs.Prelude.{bytes_eq, if◌then◌else◌}
use Rattle.c_tree.specs.Bare.{Name, expr_list, define, extern_, global, function, main, Program}
use Rattle.c_semantics.specs.Meaning.State.{State, with_globals}
use Rattle.c_semantics.specs.Meaning.Expressions.{Define}
use Rattle.c_semantics.specs.Meaning.SimpleStatements.{Function, function_named}
use Rattle.c_semantics.specs.Meaning.Statements.{exec_all}
use Rattle.c_semantics.specs.Meaning.Programs.{Outcome, outcome, turns_of, run_items, run_program, finish, define_of, initial}
use Rattle.c_semantics.specs.Laws.Bounds.{IsPrefix, OutcomeStays, LinesGrow}
use Rattle.c_semantics.proofs.Later.{Stays, SameLater, list_stays, leave_stays}
use Rattle.c_semantics.proofs.Invariant.{FunctionKeeps, list_keeps}
use Rattle.c_semantics.proofs.Grows.{MoreLines, lines_grow, lines_called}

one_more : (b : Bool) (f g : Function) (o p : Option Function) → SameLater (Some f) (Some g) → SameLater o p → SameLater (if b then Some f else o) (if b then Some g else p)
one_more true f g o p h k = h
one_more false f g o p h k = k

one_more_grows : (b : Bool) (f : Function) (o : Option Function) → FunctionKeeps MoreLines lines_grow (Some f) → FunctionKeeps MoreLines lines_grow o → FunctionKeeps MoreLines lines_grow (if b then Some f else o)
one_more_grows true f o h k = h
one_more_grows false f o h k = k

module _ (n m : ℕ) (le : n ≤ m) where
  items_stay : (p : Program) (ds : List Define) (fs gs : List Function) → ((x : Name) → SameLater (function_named x fs) (function_named x gs)) → ((x : Name) → FunctionKeeps MoreLines lines_grow (function_named x gs)) → (s : State) → Stays (run_items n p (record { defines = ds; functions = fs }) s) (run_items m p (record { defines = ds; functions = gs }) s)
  items_stay [] ds fs gs h w s = inr refl
  items_stay (define x minus k t ∷ is) ds fs gs h w s = items_stay is (define_of x minus k t ∷ ds) fs gs h w s
  items_stay (extern_ p ∷ is) ds fs gs h w s = items_stay is ds fs gs h w s
  items_stay (global t x dims e ∷ is) ds fs gs h w s = items_stay is ds fs gs h w (with_globals (s.globals ++ record { name = x; cell = initial ds t (expr_list dims) e } ∷ []) s)
  items_stay (function x ps a ∷ is) ds fs gs h w s =
      let f : Function = record { name = x; params = ps; run = exec_all n (record { defines = ds; functions = fs }) a } in
      let g : Function = record { name = x; params = ps; run = exec_all m (record { defines = ds; functions = gs }) a } in
      items_stay is ds (f ∷ fs) (g ∷ gs) (λ y. one_more (bytes_eq y x) f g _ _ (refl, list_stays n m le ds fs gs h w a) (h y))
      (λ y. one_more_grows (bytes_eq y x) g _ (lines_called g (list_keeps MoreLines lines_grow m (record { defines = ds; functions = gs }) w a)) (w y)) s
  items_stay (main a ∷ is) ds fs gs h w s = leave_stays s _ _ (list_stays n m le ds fs gs h w a s)

pub outcome_stays : OutcomeStays
outcome_stays n m p numbers le h = by (items_stay n m le p [] [] [] (λ x. tt) (λ x. tt) _)
  where
    by : Stays (run_program n p numbers) (run_program m p numbers) → (outcome m p numbers ≡ outcome n p numbers) × (turns_of m p numbers ≡ turns_of n p numbers)
    by (inl e) = absurd (h (ap finish e.0))
    by (inr e) = (ap {B = Outcome} (λ r. record { lines = r.state.lines; globals = r.state.globals; input = r.state.input; end = finish r.end }) e, ap (λ r. r.state.turns) e)

pub lines_grow_later : LinesGrow
lines_grow_later n m p numbers le = by (items_stay n m le p [] [] [] (λ x. tt) (λ x. tt) _)
  where
    by : Stays (run_program n p numbers) (run_program m p numbers) → IsPrefix (outcome n p numbers).lines (outcome m p numbers).lines
    by (inl e) = e.1
    by (inr e) = subst (λ r. IsPrefix (outcome n p numbers).lines r.state.lines) (sym e) ([], sym (append-nil (outcome n p numbers).lines))
