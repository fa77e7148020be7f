-- A body runs alike below fresh variables; the innermost list of a generated loop.
use Rattle.std.proofs.Common.{◌≡◌, refl, sym, ap, ◌∙◌, ℕ, zero, suc, ◌+◌, ◌-◌, ◌≤◌, List, [], ◌∷◌, length, drop, Some, None, Ok, ℤ, slice_get, arith}
use Rattle.std.proofs.lemmas.List.{length-drop}
use Rattle.c_tree.specs.Bare.{Name, Expr, decl, block, Stmts, no_stmts, more_stmts}
use Rattle.c_tree.specs.declared.tree.Ty.{Ty}
use Rattle.c_tree.specs.Arithmetic.{and_then, convert}
use Rattle.c_semantics.specs.Meaning.State.{scalar, Var, State, keep, push, with_frame}
use Rattle.c_semantics.specs.Meaning.Expressions.{eval}
use Rattle.c_semantics.specs.Meaning.Runs.{Next, ends, with_value, Run, leave, then_do, with_end, turn_end}
use Rattle.c_semantics.specs.Meaning.SimpleStatements.{Env, function_named}
use Rattle.c_semantics.specs.Meaning.Statements.{exec_all}
use Rattle.c_semantics.specs.Loops.IterationTrees.{body}
use Rattle.c_semantics.specs.Loops.Execution.{Body, push_copies, run_body}
use Rattle.c_semantics.specs.Laws.Apart.{Differ, Beside, here, there, BesideInFrame}
use Rattle.c_semantics.proofs.Apart.{beside_local, called_local, not_shorter}
use Rattle.c_semantics.proofs.FrameNames.{SameNames, names_kept, function_names}
use Rattle.c_semantics.proofs.Touches.{uses-touches}
use Rattle.c_semantics.proofs.Simulation.{list_alike}
use Rattle.c_semantics.proofs.Invariant.{copies_keep, list_keeps}
use Rattle.c_semantics.proofs.Grows.{LongerFrame, frames_grow, length_keep}
use Rattle.loop_normal.specs.Frames.{above, run_above, AgreesBut, Foreign}
use Rattle.loop_normal.specs.Denotes.{GrowsFrame, Turns}
use Rattle.loop_normal.specs.FreshNames.{NamesNone}
use Rattle.loop_normal.proofs.FreshFrames.{agrees_but_top}
use Rattle.loop_normal.proofs.Blocks.{then_done}

-- private copies on both sides
copies_beside : (v : Var) (k : ℕ) (xs : List (Name × Ty)) (zs : List ℤ) (s t : State) → BesideInFrame v k s t → BesideInFrame v k (push_copies xs zs s) (push_copies xs zs t)
copies_beside v k [] zs s t p = p
copies_beside v k (x ∷ xs) [] s t p = copies_beside v k xs [] _ _ ((beside_local v k).pushed [] x.0 (scalar x.1 None) s t p)
copies_beside v k (x ∷ xs) (z ∷ zs) s t p = copies_beside v k xs zs _ _ ((beside_local v k).pushed [] x.0 (scalar x.1 (Some z)) s t p)

-- over all the variables there are
beside_here : (v : Var) (k : ℕ) (l m : List Var) → length l ≡ k → Beside v k l m → m ≡ v ∷ l
beside_here v k l m e (here b x) = refl
beside_here v k l m e (there w {l = l'} {m = m'} p) = absurd (omega (arith, e, not_shorter v k l' m' p))

-- a shorter frame and then a shorter one
drop_more : {A : Type 0} (i j : ℕ) (l : List A) → drop j (drop i l) ≡ drop (i + j) l
drop_more zero j l = let e : 0 + j ≡ j = omega arith in ap (λ n. drop n l) (sym e)
drop_more {A} (suc i) j [] = none j
  where
    none : (j : ℕ) → drop {A = A} j [] ≡ drop (suc i + j) []
    none zero = let e : suc i + 0 ≡ suc i = omega arith in ap (λ n. drop {A = A} n []) (sym e)
    none (suc j) = let e : suc i + suc j ≡ suc (i + suc j) = omega arith in ap (λ n. drop {A = A} n []) (sym e)
drop_more (suc i) j (x ∷ l) = let e : suc i + j ≡ suc (i + j) = omega arith in drop_more i j l ∙ ap (λ n. drop n (x ∷ l)) (sym e)

pub keep_keep : {A : Type 0} (j k : ℕ) (l : List A) → j ≤ k → k ≤ length l → keep j (keep k l) ≡ keep j l
keep_keep j k l h m =
    let e : (length l - k) + (length (keep k l) - j) ≡ length l - j = omega (arith, h, m, length-drop (length l - k) l) in
    drop_more (length l - k) (length (keep k l) - j) l ∙ ap (λ i. drop i l) e

-- a block in a block
pub leave_leave : (s u : State) (r : Run) → length s.frame ≤ length u.frame → length u.frame ≤ length r.state.frame → leave s (leave u r) ≡ leave s r
leave_leave s u r h m = ap {B = Run} (λ l. record { state = with_frame l r.state; end = r.end }) (keep_keep (length s.frame) (length u.frame) r.state.frame h m)

module _ (n : ℕ) (env : Env) (Out : Name → Type 0) (as' : Stmts) (apart : NamesNone Out as') (grows : GrowsFrame (exec_all n env as')) where
  longer : (xs : List (Name × Ty)) (zs : List ℤ) (s : State) → length s.frame ≤ length (exec_all n env as' (push_copies xs zs s)).state.frame
  longer xs zs s = frames_grow.then_ s (push_copies xs zs s) (exec_all n env as' (push_copies xs zs s)).state (copies_keep LongerFrame frames_grow xs zs s) (grows (push_copies xs zs s))

  -- one variable
  one_below : (xs : List (Name × Ty)) (zs : List ℤ) (v : Var) (s : State) → Out v.name →
      leave (above (v ∷ []) s) (exec_all n env as' (push_copies xs zs (above (v ∷ []) s))) ≡ run_above (v ∷ []) (leave s (exec_all n env as' (push_copies xs zs s)))
  one_below xs zs v s o =
      let k = length s.frame in
      let Q = λ (y : Name). Differ y v.name in
      let P = λ (h : List Name) (y : Name). Differ y v.name in
      let Sim = λ (h : List Name). BesideInFrame v k in
      let start : BesideInFrame v k s (above (v ∷ []) s) = (v ∷ s.frame, here s.frame refl, refl) in
      let u = push_copies xs zs s in
      let w = push_copies xs zs (above (v ∷ []) s) in
      let copies = copies_beside v k xs zs s (above (v ∷ []) s) start in
      let r = exec_all n env as' u in
      let r' = exec_all n env as' w in
      let touches = uses-touches Q env.defines P _ (λ f. Unit {0}) (λ h y d. d) (λ f t. called_local v k (function_named f env.functions)) [] (block as') (apart v.name o) in
      let runs = list_alike Sim P (beside_local v k) n env [] as' touches u w copies in
      let same_names = names_kept.then_ s u r.state (copies_keep SameNames names_kept xs zs s) (list_keeps SameNames names_kept n env (λ x. function_names (function_named x env.functions)) as' u) in
      let ends = (beside_local v k).left [] s (above (v ∷ []) s) r.state r'.state start runs.0 same_names in
      let same = beside_here v k (keep k r.state.frame) ends.0 (length_keep k r.state.frame (longer xs zs s)) ends.1 in
      ap {B = Run} (λ u. record { state = u; end = r'.end }) (ends.2 ∙ ap {B = State} (λ l. with_frame l r.state) same) ∙ ap {B = Run} (λ e. record { state = with_frame (v ∷ keep k r.state.frame) r.state; end = e }) runs.1

  pub body_below : (xs : List (Name × Ty)) (zs : List ℤ) (f : List Var) (s : State) → Foreign Out f →
      leave (above f s) (exec_all n env as' (push_copies xs zs (above f s))) ≡ run_above f (leave s (exec_all n env as' (push_copies xs zs s)))
  body_below xs zs [] s o = refl
  body_below xs zs (v ∷ f) s o = one_below xs zs v (above f s) o.0 ∙ ap (run_above (v ∷ [])) (body_below xs zs f s o.1)

  -- the innermost list of the normal form: `T var = e; { body }`
  pub leaf_turns : (bs : List Body) (p : List Var) (b : ℕ) (T : Ty) (x : Name) (e : Expr) (z : ℤ) →
      slice_get bs b ≡ Some (record { vars = (x, T) ∷ []; run = exec_all n env as' }) →
      ((f : List Var) (s : State) → AgreesBut x p f → and_then (eval env.defines (above f s) e) (convert T) ≡ Ok z) →
      Turns n env bs Out p (more_stmts (decl T x (Some e)) (more_stmts (block as') no_stmts)) (body b (z ∷ []))
  leaf_turns bs p b T x e z at v f s a o =
      let w : Var = record { name = x; cell = scalar T None } in
      let u = push x (scalar T (Some z)) (above f s) in
      let r = exec_all n env as' u in
      let start = ap (λ o. then_do (with_value o (above (w ∷ f) s) (λ y. ends Next (push x (scalar T (Some y)) (above f s)))) (exec_all n env (more_stmts (block as') no_stmts))) (v (w ∷ f) s (agrees_but_top w p f a)) ∙ then_done (leave u r) in
      let inner = leave_leave (above f s) u r (omega arith) (grows u) in
      ap (λ y. with_end turn_end (leave (above f s) y)) start ∙ ap (with_end turn_end) (inner ∙ body_below ((x, T) ∷ []) (z ∷ []) f s o) ∙ ap (λ y. run_above f (run_body y (z ∷ []) s)) (sym at)
