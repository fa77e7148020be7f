-- A run that isn't cut off is the run under every greater bound.
use Rattle.std.proofs.Common.{◌≡◌, refl, sym, ap, ◌∙◌, subst, ℕ, zero, suc, ◌≤◌, ◌⊎◌, inl, inr, List, [], ◌∷◌, ◌++◌, Option, Some, None, Result, Ok, Err, Bool, true, false, ℤ, slice_get, arith}
use Rattle.c_tree.specs.Bare.{Name, Exprs, Stmt, decl, set, step, print, input, if_, if_else, while_, do_, for_, block, break_, continue_, empty, omp, call, Stmts, no_stmts, more_stmts, head, MaybeStmt, no_stmt, a_stmt}
use Rattle.c_tree.specs.declared.tree.Ty.{Ty}
use Rattle.c_semantics.specs.Meaning.State.{Var, State, count_turn}
use Rattle.c_tree.specs.declared.arithmetic.Trap.{Trap}
use Rattle.c_semantics.specs.Meaning.Expressions.{Define}
use Rattle.c_semantics.specs.Meaning.Runs.{End, Next, Break, Continue, Trapped, Cut, Run, Meaning, on_next, then_do, with_value, leave, in_block, turn_end, loop_end, with_end, ask, repeat, repeat_after, turn_of, for_turn}
use Rattle.c_semantics.specs.Meaning.SimpleStatements.{holds_in, head_test, Function, Env, function_named, arguments, call_end, in_frame, call_of}
use Rattle.c_semantics.specs.Meaning.Statements.{exec, exec_all, exec_maybe, bodies_of, bodies_all}
use Rattle.c_semantics.specs.Loops.CanonicalForm.{test, canonical}
use Rattle.c_semantics.specs.Loops.IterationTrees.{Tree, body, do_all, loop, Trees, no_trees, more_trees, of_list}
use Rattle.c_semantics.specs.Loops.Directives.{plan_of}
use Rattle.c_semantics.specs.Loops.Need.{loops_asked}
use Rattle.c_semantics.specs.Loops.Forest.{forest}
use Rattle.c_semantics.specs.Loops.Execution.{Body, push_copies, run_body, run_tree, run_all, run_turns, loop_var, one_body}
use Rattle.c_semantics.specs.Laws.Bounds.{IsPrefix}
use Rattle.c_semantics.proofs.Invariant.{Keeps, FunctionKeeps, BodiesKeep, then_keeps, block_keeps, repeat_keeps, turn_keeps, trees_keep, turns_keep, list_keeps, maybe_keeps, bodies_keep}
use Rattle.c_semantics.proofs.Grows.{MoreLines, lines_grow}

-- cut off, with a part of the lines, or the same
abbrev pub Stays : Run → Run → Type 0
Stays r r' = ((r.end ≡ Cut) × IsPrefix r.state.lines r'.state.lines) ⊎ (r' ≡ r)

-- where the first isn't cut off, the second does the same
abbrev pub Later : Meaning → Meaning → Type 0
Later f g = (s : State) → Stays (f s) (g s)

-- ---- the ways to put meanings together

-- it prints no line away
abbrev pub Grows : Meaning → Type 0
Grows f = Keeps MoreLines lines_grow f

on_next_stays : (e : End) (s : State) (g g' : Meaning) → Later g g' → Stays (on_next e s g) (on_next e s g')
on_next_stays Next s g g' h = h s
on_next_stays Break s g g' h = inr refl
on_next_stays Continue s g g' h = inr refl
on_next_stays (Trapped t) s g g' h = inr refl
on_next_stays Cut s g g' h = inr refl

then_stays : (r r' : Run) (g g' : Meaning) → Stays r r' → Later g g' → Grows g' → Stays (then_do r g) (then_do r' g')
then_stays r r' g g' (inl c) h k =
    let all = lines_grow.then_ r.state r'.state (then_do r' g').state c.1 (then_keeps MoreLines lines_grow r'.state r' g' (lines_grow.same r'.state) k) in
    inl (ap (λ x. (on_next x r.state g).end) c.0, subst (λ x. IsPrefix (on_next x r.state g).state.lines (then_do r' g').state.lines) (sym c.0) all)
then_stays r r' g g' (inr p) h k = subst (λ x. Stays (then_do r g) (then_do x g')) (sym p) (on_next_stays r.end r.state g g' h)

value_stays : {A : Type 0} (v : Result A Trap) (s : State) (f g : A → Run) → ((a : A) → Stays (f a) (g a)) → Stays (with_value v s f) (with_value v s g)
value_stays (Err t) s f g h = inr refl
value_stays (Ok a) s f g h = h a

ask_stays : (v : Result Bool Trap) (f f' g g' : Meaning) (s : State) → Stays (f s) (f' s) → Stays (g s) (g' s) → Stays (ask v f g s) (ask v f' g' s)
ask_stays (Err t) f f' g g' s h k = inr refl
ask_stays (Ok true) f f' g g' s h k = h
ask_stays (Ok false) f f' g g' s h k = k

-- what changes neither the lines nor the end Cut
map_stays : (f : Run → Run) → ((r : Run) → r.end ≡ Cut → (f r).end ≡ Cut) → ((r : Run) → (f r).state.lines ≡ r.state.lines) → (r r' : Run) → Stays r r' → Stays (f r) (f r')
map_stays f c l r r' (inl e) = inl (c r e.0, subst (λ xs. IsPrefix xs (f r').state.lines) (sym (l r)) (subst (IsPrefix r.state.lines) (sym (l r')) e.1))
map_stays f c l r r' (inr p) = inr (ap f p)

pub leave_stays : (s : State) (r r' : Run) → Stays r r' → Stays (leave s r) (leave s r')
leave_stays s = map_stays (leave s) (λ r e. e) (λ r. refl)

end_stays : (f : End → End) → f Cut ≡ Cut → (r r' : Run) → Stays r r' → Stays (with_end f r) (with_end f r')
end_stays f c = map_stays (with_end f) (λ r e. ap f e ∙ c) (λ r. refl)

turn_stays : (f g : Meaning) → Later f g → Later (turn_of f) (turn_of g)
turn_stays f g h s = end_stays turn_end refl _ _ (leave_stays s _ _ (h s))

repeat_stays : (k k' : ℕ) → k ≤ k' → (test : State → Result Bool Trap) (f g : Meaning) → Later f g → Grows g → Later (repeat k test f) (repeat k' test g)
repeat_stays zero zero le test f g h w s = inr refl
repeat_stays zero (suc k') le test f g h w s =
    ask_stays (test s) _ _ _ _ s (inl (refl, then_keeps MoreLines lines_grow s (g s) (repeat k' test g) (w s) (repeat_keeps MoreLines lines_grow k' test g w))) (inr refl)
repeat_stays (suc k) zero le test f g h w s = absurd (omega (arith, le))
repeat_stays (suc k) (suc k') le test f g h w s =
    ask_stays (test s) _ _ _ _ s (then_stays (f s) (g s) _ _ (h s) (repeat_stays k k' (omega (arith, le)) test f g h w) (repeat_keeps MoreLines lines_grow k' test g w)) (inr refl)

repeat_after_stays : (k k' : ℕ) → k ≤ k' → (test : State → Result Bool Trap) (f g : Meaning) → Later f g → Grows g → Later (repeat_after k test f) (repeat_after k' test g)
repeat_after_stays zero zero le test f g h w s = inr refl
repeat_after_stays zero (suc k') le test f g h w s = inl (refl, then_keeps MoreLines lines_grow s (g s) (repeat k' test g) (w s) (repeat_keeps MoreLines lines_grow k' test g w))
repeat_after_stays (suc k) zero le test f g h w s = absurd (omega (arith, le))
repeat_after_stays (suc k) (suc k') le test f g h w s = then_stays (f s) (g s) _ _ (h s) (repeat_stays k k' (omega (arith, le)) test f g h w) (repeat_keeps MoreLines lines_grow k' test g w)

-- ---- functions

abbrev pub SameLater : Option Function → Option Function → Type 0
SameLater None None = Unit {0}
SameLater None (Some g) = ⊥
SameLater (Some f) None = ⊥
SameLater (Some f) (Some g) = (f.params ≡ g.params) × Later f.run g.run

frame_stays : (vs : List Var) (f g : Meaning) → Later f g → Later (in_frame vs f) (in_frame vs g)
frame_stays vs f g h s = map_stays (λ r. record { state = record r.state { frame = s.frame }; end = call_end r.end }) (λ r e. ap call_end e) (λ r. refl) _ _ (h (record s { frame = vs }))

call_stays : (f g : Option Function) (ds : List Define) (es : Exprs) → SameLater f g → Later (call_of f ds es) (call_of g ds es)
call_stays None None ds es h s = inr refl
call_stays None (Some g) ds es h s = absurd h
call_stays (Some f) None ds es h s = absurd h
call_stays (Some f) (Some g) ds es h s =
    subst (λ ps. Stays (call_of (Some f) ds es s) (with_value (arguments ds s ps es []) s (λ vs. in_frame vs g.run s))) h.0
    (value_stays (arguments ds s f.params es []) s _ _ (λ vs. frame_stays vs f.run g.run h.1 s))

-- ---- trees

abbrev BodyLater : Option Body → Option Body → Type 0
BodyLater None None = Unit {0}
BodyLater None (Some b) = ⊥
BodyLater (Some a) None = ⊥
BodyLater (Some a) (Some b) = (a.vars ≡ b.vars) × Later a.run b.run

abbrev BodiesLater : List Body → List Body → Type 0
BodiesLater [] [] = Unit {0}
BodiesLater [] (b ∷ bs) = ⊥
BodiesLater (a ∷ as') [] = ⊥
BodiesLater (a ∷ as') (b ∷ bs) = BodyLater (Some a) (Some b) × BodiesLater as' bs

append_later : (as' bs cs ds : List Body) → BodiesLater as' bs → BodiesLater cs ds → BodiesLater (as' ++ cs) (bs ++ ds)
append_later [] [] cs ds h k = k
append_later [] (b ∷ bs) cs ds h k = absurd h
append_later (a ∷ as') [] cs ds h k = absurd h
append_later (a ∷ as') (b ∷ bs) cs ds h k = (h.0, append_later as' bs cs ds h.1 k)

at_later : (as' bs : List Body) → BodiesLater as' bs → (i : ℕ) → BodyLater (slice_get as' i) (slice_get bs i)
at_later [] [] h i = tt
at_later [] (b ∷ bs) h i = absurd h
at_later (a ∷ as') [] h i = absurd h
at_later (a ∷ as') (b ∷ bs) h zero = h.0
at_later (a ∷ as') (b ∷ bs) h (suc i) = at_later as' bs h.1 i

body_stays : (a b : Option Body) (zs : List ℤ) → BodyLater a b → Later (run_body a zs) (run_body b zs)
body_stays None None zs h s = inr refl
body_stays None (Some b) zs h s = absurd h
body_stays (Some a) None zs h s = absurd h
body_stays (Some a) (Some b) zs h s =
    subst (λ xs. Stays (run_body (Some a) zs s) (with_end turn_end (leave s (b.run (push_copies xs zs s))))) h.0
    (end_stays turn_end refl _ _ (leave_stays s _ _ (h.1 (push_copies a.vars zs s))))

module _ (n m : ℕ) (le : n ≤ m) (as' bs : List Body) (h : BodiesLater as' bs) (w : BodiesKeep MoreLines lines_grow bs) where
  mutual
    tree_stays : (t : Tree) → Later (run_tree n as' t) (run_tree m bs t)
    tree_stays (body b zs) s = body_stays _ _ zs (at_later as' bs h b) s
    tree_stays (do_all ts) s = all_stays ts s
    tree_stays (loop ts) s = turns_stay ts n m le s

    all_stays : (ts : Trees) → Later (run_all n as' ts) (run_all m bs ts)
    all_stays no_trees s = inr refl
    all_stays (more_trees t ts) s = then_stays _ _ _ _ (tree_stays t s) (all_stays ts) (trees_keep MoreLines lines_grow m bs w ts)

    turns_stay : (ts : Trees) (k k' : ℕ) → k ≤ k' → Later (run_turns n as' ts k) (run_turns m bs ts k')
    turns_stay no_trees k k' l s = inr refl
    turns_stay (more_trees t ts) zero k' l s = inl (refl, turns_keep MoreLines lines_grow m bs w (more_trees t ts) k' s)
    turns_stay (more_trees t ts) (suc k) zero l s = absurd (omega (arith, l))
    turns_stay (more_trees t ts) (suc k) (suc k') l s = then_stays _ _ _ _ (tree_stays t (count_turn s)) (turns_stay ts k k' (omega (arith, l))) (turns_keep MoreLines lines_grow m bs w ts k')

-- ---- statements

one_later : (k : ℕ) (xs : List (Name × Ty)) (f g : Meaning) (as' bs : List Body) → Later f g → BodiesLater as' bs → BodiesLater (one_body k xs f as') (one_body k xs g bs)
one_later zero xs f g as' bs h k = ((refl, h), tt)
one_later (suc m) xs f g as' bs h k = k

module _ (n m : ℕ) (le : n ≤ m) (ds : List Define) (fs gs : List Function) (same : (x : Name) → SameLater (function_named x fs) (function_named x gs)) (grow : (x : Name) → FunctionKeeps MoreLines lines_grow (function_named x gs)) where
  abbrev before : Env
  before = record { defines = ds; functions = fs }

  abbrev after : Env
  after = record { defines = ds; functions = gs }

  -- a list under the greater bound
  list_grows : (a : Stmts) → Grows (exec_all m after a)
  list_grows a = list_keeps MoreLines lines_grow m after grow a

  maybe_grows : (a : MaybeStmt) → Grows (exec_maybe m after a)
  maybe_grows a = maybe_keeps MoreLines lines_grow m after grow a

  block_grows : (a : Stmts) → Grows (in_block (exec_all m after a))
  block_grows a = block_keeps MoreLines lines_grow (exec_all m after a) (list_grows a)

  mutual
    pub exec_stays : (a : Stmt) → Later (exec n before a) (exec m after a)
    exec_stays (decl t x e) s = inr refl
    exec_stays (set t op e) s = inr refl
    exec_stays (step t up) s = inr refl
    exec_stays (print e) s = inr refl
    exec_stays (input t) s = inr refl
    exec_stays (if_ e a) s = ask_stays (holds_in ds e s) _ _ _ _ s (leave_stays s _ _ (list_stays a s)) (inr refl)
    exec_stays (if_else e a b) s = ask_stays (holds_in ds e s) _ _ _ _ s (leave_stays s _ _ (list_stays a s)) (leave_stays s _ _ (list_stays b s))
    exec_stays (while_ e a) s = end_stays loop_end refl _ _ (repeat_stays n m le (holds_in ds e) _ _ (turn_stays _ _ (list_stays a)) (block_grows a) s)
    exec_stays (do_ a e) s = end_stays loop_end refl _ _ (repeat_after_stays n m le (holds_in ds e) _ _ (turn_stays _ _ (list_stays a)) (block_grows a) s)
    exec_stays (for_ (head i e next) a) s =
        let turn = for_turn (exec_all m after a) (exec_maybe m after next) in
        let grows = turn_keeps MoreLines lines_grow (exec_all m after a) (exec_maybe m after next) (list_grows a) (maybe_grows next) in
        leave_stays s _ _ (then_stays _ _ _ _ (maybe_stays i s) (λ u.
        end_stays loop_end refl _ _ (repeat_stays n m le (head_test ds e) _ _ (λ v.
        then_stays _ _ _ _ (turn_stays _ _ (list_stays a) (count_turn v)) (maybe_stays next) (maybe_grows next)) grows u))
        (repeat_keeps MoreLines lines_grow m (head_test ds e) turn grows))
    exec_stays (block a) s = leave_stays s _ _ (list_stays a s)
    exec_stays break_ s = inr refl
    exec_stays continue_ s = inr refl
    exec_stays empty s = inr refl
    exec_stays (omp d a) s =
        value_stays (forest ds s d a) s _ _ (λ ts. all_stays n m le _ _ (bodies_stay s [] (loops_asked (plan_of ds d) 0) a) (bodies_keep MoreLines lines_grow m after grow s [] (loops_asked (plan_of ds d) 0) a) (of_list ts) s)
    exec_stays (call x es) s = call_stays _ _ ds es (same x) s

    pub list_stays : (as' : Stmts) → Later (exec_all n before as') (exec_all m after as')
    list_stays no_stmts s = inr refl
    list_stays (more_stmts a as') s = then_stays _ _ _ _ (exec_stays a s) (list_stays as') (list_grows as')

    maybe_stays : (a : MaybeStmt) → Later (exec_maybe n before a) (exec_maybe m after a)
    maybe_stays no_stmt s = inr refl
    maybe_stays (a_stmt a) s = exec_stays a s

    body_list : (s : State) (xs : List (Name × Ty)) (k : ℕ) (a : Stmt) → BodiesLater (bodies_of n before s xs k a) (bodies_of m after s xs k a)
    body_list s xs zero a = tt
    body_list s xs (suc k) (for_ (head i e next) a) =
        let ys = xs ++ loop_var ds s (canonical ds (head i e next)) in
        one_later k ys _ _ _ _ (list_stays a) (bodies_stay s ys k a)
    body_list s xs (suc k) (block a) = bodies_stay s xs (suc k) a
    body_list s xs (suc k) (omp d a) = bodies_stay s xs (loops_asked (plan_of ds d) (suc k)) a
    body_list s xs (suc k) _ = tt

    bodies_stay : (s : State) (xs : List (Name × Ty)) (k : ℕ) (as' : Stmts) → BodiesLater (bodies_all n before s xs k as') (bodies_all m after s xs k as')
    bodies_stay s xs k no_stmts = tt
    bodies_stay s xs k (more_stmts a as') = append_later _ _ _ _ (body_list s xs k a) (bodies_stay s xs k as')
